use Rattle.std.proofs.Common.{◌≡◌, ℕ, ◌+◌, ◌*◌, ◌%◌, ap, ◌∙◌, arith, FitsSigned, w32, to_z, of_z, to_z-of_z, unsigned_abs}
use Rattle.jiff_core.proofs.SignedLemmas.{signed_arith}
use Rattle.jiff.specs.Words.{epoch_day}
use Rattle.recurring_reservations.specs.Dates.{IsMonthsLater}
use Rattle.recurring_reservations.specs.DateLaws.{later-moment, far-moment}
use Rattle.recurring_reservations.proofs.Found.{found, unfound}
use Rattle.recurring_reservations.proofs.dates.months_later.Goals as goal
use Rattle.recurring_reservations.proofs.dates.months_later.Goals.{After-new}

-- the number of seconds that is made a moment
abbrev seconds : After-new → ℕ
seconds c = unsigned_abs (to_z w32 (of_z w32 c.to_unix_epoch_day-day.result)) * 86_400 + c.number.result % 86_400

is_later : (c : After-new) → IsMonthsLater c.args.moment c.args.months (seconds c)
is_later c =
    let day = c.to_unix_epoch_day-day.result in
    let same : day ≡ epoch_day c.in-Some.later = c.to_unix_epoch_day-day.ensures.value ∙ ap epoch_day c.to_plain.ensures in
    let small : FitsSigned w32 day = omega (arith, signed_arith, c.to_unix_epoch_day-day.ensures.bound) in
    let back : to_z w32 (of_z w32 day) ≡ day = to_z-of_z small in
    later-moment c.args.moment c.args.months (seconds c) c.date_of-date.result (epoch_day c.in-Some.later) c.date_of-date.ensures c.in-Some.ensures.found c.in-Some.ensures.since
    (ap (λ z. unsigned_abs z * 86_400 + c.number.result % 86_400) (back ∙ same) ∙ ap (λ n. unsigned_abs (epoch_day c.in-Some.later) * 86_400 + n % 86_400) c.number.ensures.value)

pub returns-in_default-clause-beyond : goal.returns-in_default-clause-beyond
returns-in_default-clause-beyond c = far-moment c.args.moment c.args.months c.date_of-date.result c.date_of-date.ensures c.in_default.ensures.beyond

pub returns-clause-found : goal.returns-clause-found
returns-clause-found c = found c.new.result _ (seconds c) (IsMonthsLater c.args.moment c.args.months) c.new.ensures (is_later c)

pub returns-clause-beyond : goal.returns-clause-beyond
returns-clause-beyond c = unfound c.new.result _ (seconds c) _ c.new.ensures (λ not. (seconds c, is_later c, omega arith))
