use Rattle.std.proofs.Common.{◌≡◌, take}
use Rattle.plan_book.specs.Blocks.{rows_in}
use Rattle.scheduler_core.specs.Afters.{first_row_event}
use Rattle.scheduler_core.proofs.events.next_block_event.Given as goal

abbrev pub invariant-loop-block : goal.invariant-loop-block
invariant-loop-block l = l.best ≡ first_row_event l.after (rows_in (take l.block-index l.blocks))
