-- A plan in which time has done all that it does at the plan's own moment: our profile.
use Rattle.std.specs.Prelude.{◌≡◌, ℕ, true, false, List}
use Rattle.std.specs.List.{AllByRecursion}
use Rattle.drmaa_types.specs.States.{is_started}
use Rattle.drmaa_model.specs.declared.reservations.Accepted.{Accepted}
use Rattle.drmaa_model.specs.declared.rows.Row.{Row}
use Rattle.drmaa_model.specs.Plan.{Plan}
use Rattle.drmaa_model.specs.Time.{lasts, is_late, is_over, lapses, is_due}

-- Time leaves a job as it is at this moment.
pub record Rests (moment : ℕ) (rs : List Accepted) (row : Row) : Type 0 where
  -- it does not wait behind its deadline, nor for a reservation that is gone
  pub waits : lapses moment rs row ≡ false
  -- with no kill asked it does not run behind its planned end, nor in a reservation that is gone
  pub runs : is_due moment rs row ≡ false

-- a started job is over where its deadline is reached
abbrev pub IsCapped : Row → Type 0
IsCapped row = is_started row.course.state ≡ true → (moment : ℕ) → is_late moment row ≡ true → is_over moment row ≡ true

-- Each job rests at the plan's moment, and each reservation lasts.
pub record IsResting (p : Plan) : Type 0 where
  pub rows : AllByRecursion (Rests p.moment p.reservations) p.rows
  pub lasting : AllByRecursion (λ (a : Accepted). lasts p.moment a ≡ true) p.reservations
  pub capped : AllByRecursion IsCapped p.rows
