use Rattle.std.proofs.Common.{◌++◌, List, take}
use Rattle.drmaa_model.specs.declared.rows.Row.{Row}
use Rattle.plan_book.specs.Usage.{AreUsed}
use Rattle.plan_book.proofs.usage.Usage.add_rows.Given as goal

-- the jobs so far have come in
abbrev pub invariant-loop-row : goal.invariant-loop-row
invariant-loop-row l = (rows : List Row) → AreUsed rows l.fn.self → AreUsed (rows ++ take l.row-index l.more) l.self
