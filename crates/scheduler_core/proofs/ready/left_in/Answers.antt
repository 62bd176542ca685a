use Rattle.std.proofs.Common.{ℕ, ◌-◌, List, filter, Option, sym, ◌∙◌, ap}
use Rattle.std.specs.Option.{option_copied, option_map_or}
use Rattle.drmaa_model.specs.declared.reservations.Accepted.{Accepted}
use Rattle.drmaa_model.specs.Load.{in_reservation, reservation_of}
use Rattle.drmaa_model.specs.Time.{lasts}
use Rattle.plan_book.specs.Book.{plan_of}
use Rattle.scheduler_core.proofs.ready.left_in.Goals as goal

pub returns-in-Some : goal.returns-in-Some
returns-in-Some c =
    let p = plan_of c.args.book.now in
    let number = c.args.number in
    let found = ap (λ (rs : List Accepted). reservation_of number (filter (lasts c.args.moment) rs)) (sym c.reservations.ensures) ∙ sym c.lasting_of.ensures ∙ ap option_copied c.in-Some.is in
    c.saturating_sub.ensures
    ∙ ap (λ (n : ℕ). c.in-Some.r.now.slots - n) c.in_reservation.ensures.value
    ∙ sym (ap (λ (o : Option Accepted). option_map_or (λ (r : Accepted). r.slots - in_reservation number p.rows) o 0) found)

pub in_reservation-requires-clause-known : goal.in_reservation-requires-clause-known
in_reservation-requires-clause-known c = c.new.ensures (plan_of c.args.book.now).rows
