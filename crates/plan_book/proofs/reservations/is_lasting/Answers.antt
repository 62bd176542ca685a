use Rattle.std.proofs.Common.{ℕ, ltb, false, Option, sym, ◌∙◌, ap}
use Rattle.std.specs.Option.{option_map_or}
use Rattle.drmaa_model.specs.declared.reservations.Accepted.{Accepted}
use Rattle.drmaa_model.specs.Fit.{reservation_number}
use Rattle.drmaa_model.specs.Time.{lasts}
use Rattle.plan_book.proofs.Searched.{found-passing}
use Rattle.plan_book.proofs.reservations.is_lasting.Goals as goal

pub returns-in-Some : goal.returns-in-Some
returns-in-Some c =
    let m = c.args.moment in
    ap (λ (n : ℕ). ltb n c.number-in-Some.result) c.number.ensures.value
    ∙ ap (λ (n : ℕ). ltb m n) c.number-in-Some.ensures.value
    ∙ ap (λ (o : Option Accepted). option_map_or (lasts m) o false) (c.in-Some.ensures {u = tt})
    ∙ sym (found-passing reservation_number c.args.number.0 (lasts m) c.args.rs.now.items c.requires.sorted)

pub returns-in-None : goal.returns-in-None
returns-in-None c =
    let m = c.args.moment in
    ap (λ (o : Option Accepted). option_map_or (lasts m) o false) (c.in-None.ensures {u = tt})
    ∙ sym (found-passing reservation_number c.args.number.0 (lasts m) c.args.rs.now.items c.requires.sorted)
