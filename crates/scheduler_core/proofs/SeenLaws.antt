-- What the calendar says of a plan that is seen at a moment.
use Rattle.std.proofs.Common.{◌≡◌, ℕ, ◌≤◌, Bool, true, false, refl, sym, ◌∙◌, arith}
use Rattle.std.specs.Prelude.{IsTrue, ◌↔◌}
use Rattle.drmaa_types.specs.declared.moments.End.{End}
use Rattle.drmaa_model.specs.Fit.{IsFit}
use Rattle.drmaa_model.specs.FitLaws.{load-fewer}
use Rattle.drmaa_model.specs.Load.{load, fits}
use Rattle.drmaa_model.specs.Plan.{Plan}
use Rattle.reservation_calendar.specs.Fitting.{Fits}
use Rattle.reservation_calendar.specs.Loads as calendar
use Rattle.reservation_calendar.specs.Schedules.{Schedule}
use Rattle.plan_book.specs.TieLaws.{tied-load, fits-plan, fits-calendar}
use Rattle.plan_book.specs.Ties.{IsTied}
use Rattle.scheduler_core.specs.Launches.{seen}

pub tied-seen : (s : Schedule) (p : Plan) (m : ℕ) → IsFit p → IsTied s p → p.moment ≤ m → (x : ℕ) → m ≤ x → calendar.load s.bookings x ≡ load (seen m p) x
tied-seen s p m fit tied later x low = tied-load s p fit tied x (omega arith) ∙ sym (load-fewer m p x low)

both-ways : (a b : Bool) → (a ≡ true → b ≡ true) → (b ≡ true → a ≡ true) → a ≡ b
both-ways true b there back = sym (there refl)
both-ways false true there back = back refl
both-ways false false there back = refl

pub fits-seen : (s : Schedule) (p : Plan) (m slots from : ℕ) (until : End) (b : Bool) → IsFit p → IsTied s p → p.moment ≤ m → m ≤ from → IsTrue b ↔ Fits s slots from until → b ≡ fits (seen m p) slots from until
fits-seen s p m slots from until b fit tied later low is =
    both-ways b (fits (seen m p) slots from until)
    (λ yes. fits-plan s (seen m p) slots from until tied.total (λ x h. tied-seen s p m fit tied later x (omega arith)) (is.0 yes))
    (λ yes. is.1 (fits-calendar s (seen m p) slots from until tied.total (λ x h. tied-seen s p m fit tied later x (omega arith)) yes))
