use Rattle.std.proofs.Common.{◌∙◌, ap}
use Rattle.drmaa_model.specs.History.{now_of}
use Rattle.drmaa_model.specs.World.{World}
use Rattle.drmaa_machine.specs.View.{View}
use Rattle.drmaa_model.specs.Events.{next_event}
use Rattle.drmaa_machine.proofs.machines.Machine.next_event.Goals as goal

pub returns : goal.returns
returns c = c.next_event.ensures ∙ ap (λ (w : World). next_event w.plan c.args.after) (c.self.invariant.replayed ∙ ap (λ (v : View). now_of v.ledger) c.self.view_is)
