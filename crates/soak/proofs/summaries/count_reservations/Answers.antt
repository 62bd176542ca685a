use Rattle.std.proofs.Common.{ap, ◌∙◌, length}
use Rattle.std.proofs.lemmas.List.{length-map}
use Rattle.drmaa_model.specs.Infos.{reservation_info}
use Rattle.drmaa_model.specs.History.{now_of}
use Rattle.drmaa_model.specs.Plan.{Plan}
use Rattle.drmaa_model.specs.Time.{advance}
use Rattle.soak.proofs.Worlds.{still}
use Rattle.soak.proofs.summaries.count_reservations.Goals as goal

pub returns-in-Ok : goal.returns-in-Ok
returns-in-Ok c =
    let w = advance (now_of c.args.machine.now.ledger) c.moment.result in
    ap length (c.as_slice.ensures ∙ c.in-Ok.ensures.ok) ∙ length-map w.plan.reservations (reservation_info w)
    ∙ ap (λ (p : Plan). length p.reservations) (still c.args.machine.now.ledger c.moment.result c.requires c.moment.ensures.moment)
