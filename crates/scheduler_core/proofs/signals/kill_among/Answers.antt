use Rattle.std.proofs.Common.{Some, sym, ◌∙◌, ap, arith}
use Rattle.std.specs.Option.{option_map}
use Rattle.drmaa_model.specs.declared.courses.Order.{Order}
use Rattle.drmaa_model.specs.declared.rows.Row.{Row}
use Rattle.drmaa_model.specs.Time.{kill_order}
use Rattle.plan_book.specs.Book.{plan_of}
use Rattle.scheduler_core.specs.Signals.{is_killed}
use Rattle.scheduler_core.proofs.Searches.{find-next, find-here, find-over}
use Rattle.scheduler_core.proofs.signals.kill_among.Goals as goal

pub loop-row-preserved : goal.loop-row-preserved
loop-row-preserved c =
    let test = is_killed c.args.at (plan_of c.args.book.now) in
    c.loop-row.invariant
    ∙ find-next test c.args.rows.now c.loop-row.row-index c.row-item.result (omega arith) (ap test (sym c.row-item.is) ∙ sym c.is_killed.ensures ∙ c.if-is_killed.false)

pub returns-then-is_killed : goal.returns-then-is_killed
returns-then-is_killed c =
    let test = is_killed c.args.at (plan_of c.args.book.now) in
    ap (λ (o : Order). Some o) c.kill_order.ensures
    ∙ sym (ap (option_map kill_order) (c.loop-row.invariant
    ∙ find-here test c.args.rows.now c.loop-row.row-index c.row-item.result (omega arith) (ap test (sym c.row-item.is) ∙ sym c.is_killed.ensures ∙ c.if-is_killed.true)
    ∙ ap (λ (r : Row). Some r) (sym c.row-item.is)))

pub returns : goal.returns
returns c =
    let test = is_killed c.args.at (plan_of c.args.book.now) in
    sym (ap (option_map kill_order) (c.loop-row.invariant
    ∙ find-over test c.args.rows.now c.loop-row.row-index c.loop-row-test.false))
