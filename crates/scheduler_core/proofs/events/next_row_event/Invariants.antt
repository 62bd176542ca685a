use Rattle.std.proofs.Common.{◌≡◌, take}
use Rattle.scheduler_core.specs.Afters.{first_row_event}
use Rattle.scheduler_core.proofs.events.next_row_event.Given as goal

abbrev pub invariant-loop-row : goal.invariant-loop-row
invariant-loop-row l = l.best ≡ first_row_event l.after (take l.row-index l.rows)
