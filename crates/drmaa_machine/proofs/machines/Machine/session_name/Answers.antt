use Rattle.std.proofs.Common.{◌∙◌, ap}
use Rattle.session_table.specs.Sessions.{name_of}
use Rattle.drmaa_model.specs.History.{now_of}
use Rattle.drmaa_model.specs.World.{World}
use Rattle.drmaa_machine.specs.View.{View}
use Rattle.drmaa_machine.proofs.machines.Machine.session_name.Goals as goal

pub returns : goal.returns
returns c = c.name.ensures ∙ ap (λ (w : World). name_of c.args.home w.sessions.named) (c.self.invariant.replayed ∙ ap (λ (v : View). now_of v.ledger) c.self.view_is)
