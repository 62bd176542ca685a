use Rattle.std.proofs.Common.{◌≤◌, take}
use Rattle.std.specs.List.{AllByRecursion}
use Rattle.drmaa_model.specs.declared.rows.Row.{Row}
use Rattle.plan_book.specs.Quiet.{block_of}
use Rattle.plan_book.proofs.summed_rows.first_block.Given as goal

abbrev pub invariant-loop-row : goal.invariant-loop-row
invariant-loop-row l = record {
  less : l.first ≤ l.settled;
  before : AllByRecursion (λ (row : Row). l.first ≤ block_of row.job.0) (take l.row-index l.more);
}
