use Rattle.std.proofs.Common.{◌∙◌, ap, sym}
use Rattle.drmaa_model.specs.History.{now_of}
use Rattle.drmaa_model.specs.World.{World}
use Rattle.drmaa_machine.specs.View.{View}
use Rattle.drmaa_machine.proofs.machines.Machine.slots.Goals as goal

pub returns-clause-slots : goal.returns-clause-slots
returns-clause-slots c =
    sym c.self.invariant.store.consistent.total
    ∙ ap (λ (w : World). w.plan.total) (c.self.invariant.replayed ∙ ap (λ (v : View). now_of v.ledger) c.self.view_is)
