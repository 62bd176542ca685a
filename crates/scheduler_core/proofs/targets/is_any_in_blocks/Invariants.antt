use Rattle.std.proofs.Common.{◌≡◌, ◌&&◌, Bool, drop}
use Rattle.std.specs.List.{list_any}
use Rattle.drmaa_model.specs.declared.rows.Row.{Row}
use Rattle.drmaa_model.specs.Targets.{is_meant}
use Rattle.plan_book.specs.Blocks.{rows_in}
use Rattle.plan_book.specs.Book.{plan_of}
use Rattle.scheduler_core.specs.Targets.{may_act, row_then}
use Rattle.scheduler_core.proofs.targets.is_any_in_blocks.Given as goal

-- what is left to look at decides
abbrev pub invariant-loop-block : goal.invariant-loop-block
invariant-loop-block l =
    let test : Row → Bool = λ (row : Row). is_meant l.target row && may_act l.act (row_then l.at (plan_of l.book) row).course.state in
    list_any test (rows_in l.blocks) ≡ list_any test (rows_in (drop l.block-index l.blocks))
