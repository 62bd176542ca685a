use Rattle.std.proofs.Common.{◌∙◌, ◌+◌, ◌||◌, ◌&&◌, Bool, drop, ap, sym, arith}
use Rattle.std.specs.List.{list_any}
use Rattle.drmaa_model.specs.declared.rows.Row.{Row}
use Rattle.drmaa_model.specs.Targets.{is_meant}
use Rattle.plan_book.specs.Blocks.{rows_in}
use Rattle.plan_book.specs.Book.{plan_of}
use Rattle.scheduler_core.specs.Targets.{may_act, row_then}
use Rattle.scheduler_core.proofs.BlockSearches.{any-more, any-none}
use Rattle.scheduler_core.proofs.targets.is_any_in_blocks.Goals as goal

pub loop-block-preserved : goal.loop-block-preserved
loop-block-preserved c =
    let test : Row → Bool = λ (row : Row). is_meant c.args.target.now row && may_act c.args.act (row_then c.args.at (plan_of c.args.book.now) row).course.state in
    let bs = c.args.blocks.now in
    let i = c.loop-block.block-index in
    c.loop-block.invariant ∙ any-more test bs i c.block-item.result c.deref.result.now c.loop-block-test.true c.block-item.is c.deref.ensures.value
    ∙ ap (λ (b : Bool). b || list_any test (rows_in (drop (i + 1) bs))) (sym c.is_any_among.ensures ∙ c.if-is_any_among.false)

pub returns-then-is_any_among : goal.returns-then-is_any_among
returns-then-is_any_among c =
    let test : Row → Bool = λ (row : Row). is_meant c.args.target.now row && may_act c.args.act (row_then c.args.at (plan_of c.args.book.now) row).course.state in
    let bs = c.args.blocks.now in
    let i = c.loop-block.block-index in
    sym (c.loop-block.invariant ∙ any-more test bs i c.block-item.result c.deref.result.now c.loop-block-test.true c.block-item.is c.deref.ensures.value
    ∙ ap (λ (b : Bool). b || list_any test (rows_in (drop (i + 1) bs))) (sym c.is_any_among.ensures ∙ c.if-is_any_among.true))

pub returns : goal.returns
returns c =
    let test : Row → Bool = λ (row : Row). is_meant c.args.target.now row && may_act c.args.act (row_then c.args.at (plan_of c.args.book.now) row).course.state in
    sym (c.loop-block.invariant ∙ any-none test c.args.blocks.now c.loop-block.block-index (omega (arith, c.loop-block-test.false)))
