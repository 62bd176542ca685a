use Rattle.std.proofs.Common.{arith}
use Rattle.scheduler_core.proofs.AfterLaws.{if-later, if-early}
use Rattle.scheduler_core.proofs.events.if_after.Goals as goal

pub returns-then-number : goal.returns-then-number
returns-then-number c = if-later c.args.after c.args.moment (omega arith) (omega arith)

pub returns-else-number : goal.returns-else-number
returns-else-number c = if-early c.args.after c.args.moment (omega arith) (omega arith)
