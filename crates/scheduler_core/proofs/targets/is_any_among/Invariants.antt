use Rattle.std.proofs.Common.{◌≡◌, ◌&&◌, drop}
use Rattle.std.specs.List.{list_any}
use Rattle.drmaa_model.specs.declared.rows.Row.{Row}
use Rattle.drmaa_model.specs.Targets.{is_meant}
use Rattle.plan_book.specs.Book.{plan_of}
use Rattle.scheduler_core.specs.Targets.{may_act, row_then}
use Rattle.scheduler_core.proofs.targets.is_any_among.Given as goal

-- what is left to look at decides
abbrev pub invariant-loop-row : goal.invariant-loop-row
invariant-loop-row l =
    list_any (λ (row : Row). is_meant l.target row && may_act l.act (row_then l.at (plan_of l.book) row).course.state) l.rows
    ≡ list_any (λ (row : Row). is_meant l.target row && may_act l.act (row_then l.at (plan_of l.book) row).course.state) (drop l.row-index l.rows)
