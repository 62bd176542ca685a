use Rattle.std.proofs.Common.{◌∙◌, ◌+◌, ◌++◌, List, drop, length, length-append, append-nil, ap, sym, arith}
use Rattle.std.specs.List.{flat_map}
use Rattle.std.proofs.lemmas.Grind.{flat_map-append}
use Rattle.std.proofs.lemmas.List.{append_assoc}
use Rattle.drmaa_types.specs.declared.changes.Change.{Change}
use Rattle.drmaa_model.specs.declared.rows.Row.{Row}
use Rattle.plan_book.specs.Sweeps.{noted}
use Rattle.plan_book.specs.Blocks.{rows_in}
use Rattle.plan_book.specs.BlockWalks.{flat-back, back-none}
use Rattle.plan_book.proofs.meant.note_among.Goals as goal

pub loop-block-init : goal.loop-block-init
loop-block-init c =
    let f = noted c.args.entry c.args.moment c.args.target.now c.args.what in
    let alone = c.args.rows.alone.now in
    let others = rows_in c.args.rows.blocks.now in
    let both = flat_map-append f alone others in
    let long = length-append (flat_map f alone) (flat_map f others) in
    record {
      items = ap (λ (ys : List Change). ys ++ flat_map f others) c.note_controls.ensures.items ∙ append_assoc c.args.changes.now.items (flat_map f alone) (flat_map f others)
          ∙ ap (λ (ys : List Change). c.args.changes.now.items ++ ys) (sym both);
      room = omega (arith, c.requires, ap length both, long, c.note_controls.ensures.len, c.note_controls.ensures.capacity);
      len = omega (arith, ap length both, long, c.note_controls.ensures.len);
      capacity = c.note_controls.ensures.capacity;
    }

pub note_controls-requires-in-loop-block : goal.note_controls-requires-in-loop-block
note_controls-requires-in-loop-block c =
    let f = noted c.args.entry c.args.moment c.args.target.now c.args.what in
    let bs = c.args.rows.blocks.now in
    let i = c.loop-block.block-index in
    let next = flat-back f bs i c.block-item.result c.deref.result.now c.loop-block-test.true c.block-item.is c.deref.ensures.value in
    omega (arith, c.loop-block.invariant.room, ap length next, length-append (flat_map f c.deref.result.now) (flat_map f (rows_in (drop (i + 1) bs))))

pub loop-block-preserved : goal.loop-block-preserved
loop-block-preserved c =
    let f = noted c.args.entry c.args.moment c.args.target.now c.args.what in
    let bs = c.args.rows.blocks.now in
    let i = c.loop-block.block-index in
    let here = flat_map f c.deref.result.now in
    let rest = flat_map f (rows_in (drop (i + 1) bs)) in
    let next = flat-back f bs i c.block-item.result c.deref.result.now c.loop-block-test.true c.block-item.is c.deref.ensures.value in
    let long = length-append here rest in
    let says = c.note_controls-in-loop-block.ensures in
    record {
      items = ap (λ (ys : List Change). ys ++ rest) says.items ∙ append_assoc c.loop-block.changes.items here rest ∙ ap (λ (ys : List Change). c.loop-block.changes.items ++ ys) (sym next) ∙ c.loop-block.invariant.items;
      room = omega (arith, c.loop-block.invariant.room, ap length next, long, says.len, says.capacity);
      len = omega (arith, c.loop-block.invariant.len, ap length next, long, says.len);
      capacity = says.capacity ∙ c.loop-block.invariant.capacity;
    }

pub returns-clause-items : goal.returns-clause-items
returns-clause-items c =
    let f = noted c.args.entry c.args.moment c.args.target.now c.args.what in
    let none = back-none c.args.rows.blocks.now c.loop-block.block-index (omega (arith, c.loop-block-test.false)) in
    sym (append-nil c.loop-block.changes.items) ∙ ap (λ (ys : List Row). c.loop-block.changes.items ++ flat_map f ys) (sym none) ∙ c.loop-block.invariant.items

pub returns-clause-len : goal.returns-clause-len
returns-clause-len c =
    let f = noted c.args.entry c.args.moment c.args.target.now c.args.what in
    let none = ap (λ (ys : List Row). length (flat_map f ys)) (back-none c.args.rows.blocks.now c.loop-block.block-index (omega (arith, c.loop-block-test.false))) in
    omega (arith, none, c.loop-block.invariant.len)
