use Rattle.std.proofs.Common.{sym, ◌∙◌}
use Rattle.call_history.proofs.Tellings.{left-same}
use Rattle.call_history.proofs.machines.SharedMachine.left.Goals as goal

pub returns : goal.returns
returns c = c.left.ensures ∙ sym (left-same c.args.opener.now.view.retired)
