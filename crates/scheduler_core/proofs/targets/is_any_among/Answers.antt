use Rattle.std.proofs.Common.{◌&&◌, Bool, sym, ◌∙◌, ap, arith}
use Rattle.drmaa_model.specs.declared.rows.Row.{Row}
use Rattle.drmaa_model.specs.Targets.{is_meant}
use Rattle.plan_book.specs.Book.{plan_of}
use Rattle.scheduler_core.specs.Targets.{may_act, row_then}
use Rattle.scheduler_core.proofs.Searches.{any-next, any-here, any-over}
use Rattle.scheduler_core.proofs.targets.is_any_among.Goals as goal

pub loop-row-preserved : goal.loop-row-preserved
loop-row-preserved c =
    let test : Row → Bool = λ (row : Row). is_meant c.args.target.now row && may_act c.args.act (row_then c.args.at (plan_of c.args.book.now) row).course.state in
    c.loop-row.invariant
    ∙ any-next test c.args.rows.now c.loop-row.row-index c.row-item.result (omega arith) (ap test (sym c.row-item.is) ∙ sym c.is_permitted.ensures ∙ c.if-is_permitted.false)

pub returns-then-is_permitted : goal.returns-then-is_permitted
returns-then-is_permitted c =
    let test : Row → Bool = λ (row : Row). is_meant c.args.target.now row && may_act c.args.act (row_then c.args.at (plan_of c.args.book.now) row).course.state in
    sym (c.loop-row.invariant
    ∙ any-here test c.args.rows.now c.loop-row.row-index c.row-item.result (omega arith) (ap test (sym c.row-item.is) ∙ sym c.is_permitted.ensures ∙ c.if-is_permitted.true))

pub returns : goal.returns
returns c =
    let test : Row → Bool = λ (row : Row). is_meant c.args.target.now row && may_act c.args.act (row_then c.args.at (plan_of c.args.book.now) row).course.state in
    sym (c.loop-row.invariant ∙ any-over test c.args.rows.now c.loop-row.row-index c.loop-row-test.false)
