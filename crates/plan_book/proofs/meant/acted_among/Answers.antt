use Rattle.std.proofs.Common.{◌≡◌, ◌+◌, Bool, List, filter, drop, length, length-append, ap, arith}
use Rattle.std.proofs.lemmas.List.Elements.{filter-append}
use Rattle.drmaa_model.specs.declared.rows.Row.{Row}
use Rattle.drmaa_model.specs.Controlling.{is_controlled}
use Rattle.drmaa_model.specs.Time.{lasts}
use Rattle.drmaa_model.specs.TimeLaws.{timed}
use Rattle.plan_book.specs.Blocks.{rows_in}
use Rattle.plan_book.specs.BlockWalks.{filter-back, back-none}
use Rattle.plan_book.proofs.meant.acted_among.Goals as goal
use Rattle.plan_book.proofs.meant.acted_among.Goals.{After-acted_then-acted-in-loop-block}

pub loop-block-init : goal.loop-block-init
loop-block-init c =
    let test : Row → Bool = λ (row : Row). is_controlled c.args.target.now c.args.what (timed c.args.moment (filter (lasts c.args.moment) c.args.rs.now.items) row) in
    let alone = c.args.rows.alone.now in
    let others = rows_in c.args.rows.blocks.now in
    omega (arith, c.acted_then-acted.ensures, ap length (filter-append test alone others), length-append (filter test alone) (filter test others))

next : (c : After-acted_then-acted-in-loop-block) →
    (let test : Row → Bool = λ (row : Row). is_controlled c.args.target.now c.args.what (timed c.args.moment (filter (lasts c.args.moment) c.args.rs.now.items) row) in
    length (filter test (rows_in (drop c.loop-block.block-index c.args.rows.blocks.now))) ≡ c.acted_then-acted-in-loop-block.result + length (filter test (rows_in (drop (c.loop-block.block-index + 1) c.args.rows.blocks.now))))
next c =
    let test : Row → Bool = λ (row : Row). is_controlled c.args.target.now c.args.what (timed c.args.moment (filter (lasts c.args.moment) c.args.rs.now.items) row) in
    let more = filter-back test c.args.rows.blocks.now c.loop-block.block-index c.block-item.result c.deref.result.now c.loop-block-test.true c.block-item.is c.deref.ensures.value in
    omega (arith, more, c.acted_then-acted-in-loop-block.ensures)

pub overflow_add-acted : goal.overflow_add-acted
overflow_add-acted c = omega (arith, c.loop-block.invariant, next (goal.at.overflow_add-acted c).After-acted_then-acted-in-loop-block, c.requires.few)

pub loop-block-preserved : goal.loop-block-preserved
loop-block-preserved c = omega (arith, c.loop-block.invariant, next (goal.at.loop-block-preserved c).After-acted_then-acted-in-loop-block)

pub returns : goal.returns
returns c =
    let test : Row → Bool = λ (row : Row). is_controlled c.args.target.now c.args.what (timed c.args.moment (filter (lasts c.args.moment) c.args.rs.now.items) row) in
    let none = ap (λ (xs : List Row). length (filter test xs)) (back-none c.args.rows.blocks.now c.loop-block.block-index (omega (arith, c.loop-block-test.false))) in
    omega (arith, none, c.loop-block.invariant)
