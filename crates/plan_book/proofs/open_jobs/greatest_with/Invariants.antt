use Rattle.std.proofs.Common.{take, ◌++◌, List}
use Rattle.drmaa_model.specs.declared.rows.Row.{Row}
use Rattle.plan_book.specs.Open.{IsPriorityBound}
use Rattle.plan_book.proofs.open_jobs.greatest_with.Given as goal

abbrev pub invariant-loop-row : goal.invariant-loop-row
invariant-loop-row l = (rows : List Row) → IsPriorityBound rows l.fn.greatest → IsPriorityBound (rows ++ take l.row-index l.row-items) l.greatest
