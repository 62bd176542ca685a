use Rattle.std.proofs.Common.{◌≡◌, true, take}
use Rattle.std.specs.List.{AllByRecursion}
use Rattle.drmaa_model.specs.declared.rows.Row.{Row}
use Rattle.plan_book.specs.Settled.{is_settled}
use Rattle.plan_book.proofs.open_jobs.are_settled.Given as goal

abbrev pub invariant-loop-row : goal.invariant-loop-row
invariant-loop-row l = AllByRecursion (λ (row : Row). is_settled row ≡ true) (take l.row-index l.rows)
