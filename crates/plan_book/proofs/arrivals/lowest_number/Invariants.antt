use Rattle.std.proofs.Common.{◌≤◌, take}
use Rattle.std.specs.List.{AllByRecursion}
use Rattle.drmaa_model.specs.declared.rows.Row.{Row}
use Rattle.plan_book.proofs.arrivals.lowest_number.Given as goal

abbrev pub invariant-loop-row : goal.invariant-loop-row
invariant-loop-row l = record {
  less : l.first ≤ l.next;
  before : AllByRecursion (λ (row : Row). l.first ≤ row.job.0) (take l.row-index l.rows);
}
