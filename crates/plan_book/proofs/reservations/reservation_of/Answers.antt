use Rattle.std.proofs.Common.{◌∙◌, ap, sym, Some}
use Rattle.drmaa_model.specs.declared.reservations.Accepted.{Accepted}
use Rattle.drmaa_model.specs.Fit.{reservation_number}
use Rattle.plan_book.proofs.Searched.{find-at}
use Rattle.plan_book.proofs.reservations.reservation_of.Goals as goal

pub returns-in-Ok : goal.returns-in-Ok
returns-in-Ok c =
    ap (λ (r : Accepted). Some r) c.index.ensures
    ∙ sym (find-at reservation_number c.args.number.0 c.args.rs.now.items c.in-Ok.place c.index.result.now c.requires.sorted (c.in-Ok.ensures {u = tt}).found)
