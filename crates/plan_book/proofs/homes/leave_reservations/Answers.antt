use Rattle.std.proofs.Common.{ap, sym, ◌∙◌, set}
use Rattle.std.proofs.lemmas.List.Edits.{map_over_more}
use Rattle.drmaa_model.specs.declared.reservations.Accepted.{Accepted}
use Rattle.drmaa_model.specs.Effects.{left_by}
use Rattle.plan_book.proofs.homes.leave_reservations.Goals as goal

pub loop-r-preserved : goal.loop-r-preserved
loop-r-preserved c =
    let f : Accepted → Accepted = λ (x : Accepted). record x { home = left_by c.args.home x.home } in
    ap (λ (x : Accepted). set c.loop-r.r-items c.loop-r.r-index x) (c.leave_reservation.ensures ∙ ap f (sym c.r-item.is))
    ∙ map_over_more f c.deref_mut-r-items.result.now c.loop-r.r-items c.loop-r.r-index c.r-item.result c.loop-r-test.true c.loop-r.invariant c.r-item.is
