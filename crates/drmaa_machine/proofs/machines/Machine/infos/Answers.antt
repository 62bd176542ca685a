use Rattle.std.proofs.Common.{◌∙◌, ap}
use Rattle.drmaa_model.specs.History.{now_of}
use Rattle.drmaa_model.specs.Infos.{infos}
use Rattle.drmaa_model.specs.World.{World}
use Rattle.drmaa_machine.specs.View.{View}
use Rattle.drmaa_machine.proofs.machines.Machine.infos.Goals as goal

pub returns-in-Ok-clause-ok : goal.returns-in-Ok-clause-ok
returns-in-Ok-clause-ok c = c.in-Ok.ensures {u = tt} ∙ ap (λ (w : World). infos w) (c.self.invariant.replayed ∙ ap (λ (v : View). now_of v.ledger) c.self.view_is)
