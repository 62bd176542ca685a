use Rattle.std.proofs.Common.{take}
use Rattle.plan_book.specs.Blocks.{rows_in}
use Rattle.plan_book.specs.Spans.{AreSpanned}
use Rattle.plan_book.proofs.spans.Spans.count_anew.Given as goal

abbrev pub invariant-loop-block : goal.invariant-loop-block
invariant-loop-block l = AreSpanned (rows_in (take l.block-index l.blocks)) l.self
