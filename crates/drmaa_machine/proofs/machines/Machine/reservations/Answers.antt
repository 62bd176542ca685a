use Rattle.std.proofs.Common.{◌∙◌, ap, map}
use Rattle.drmaa_model.specs.History.{now_of}
use Rattle.drmaa_model.specs.Infos.{reservation_info}
use Rattle.drmaa_model.specs.Time.{advance}
use Rattle.drmaa_model.specs.World.{World}
use Rattle.drmaa_machine.specs.View.{View}
use Rattle.drmaa_machine.proofs.machines.Machine.reservations.Goals as goal

pub returns-in-Ok-clause-ok : goal.returns-in-Ok-clause-ok
returns-in-Ok-clause-ok c =
    c.in-Ok.ensures {u = tt}
    ∙ ap (λ (w : World). map (reservation_info (advance w c.args.at)) (advance w c.args.at).plan.reservations) (c.self.invariant.replayed ∙ ap (λ (v : View). now_of v.ledger) c.self.view_is)
