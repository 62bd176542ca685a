use Rattle.std.proofs.Common.{◌∙◌, ◌<◌, length, length-set, arith}
use Rattle.plan_book.proofs.RowsKept.{room-all, room-more, rows-set, set-kept}
use Rattle.plan_book.proofs.blocks.make_room.Goals as goal

pub loop-block-preserved : goal.loop-block-preserved
loop-block-preserved c =
    let now = c.loop-block.blocks.items in
    let k = c.loop-block.block in
    let d = c.index_mut.result.now in
    let b = c.fill_block.new.rows in
    let inv = c.loop-block.invariant in
    let within : k < length now = omega (arith, c.loop-block-test.true, c.len-block-end.ensures, c.args.blocks.now.ok.0, inv.len) in
    record {
      are = λ from is. set-kept from now k b d (inv.are from is) within c.index_mut.ensures.value c.fill_block.ensures.items (λ low room. omega (arith, room, c.fill_block.ensures.capacity));
      rows = λ n. rows-set n now k b d within c.index_mut.ensures.value c.fill_block.ensures.items ∙ inv.rows n;
      len = length-set now k b ∙ inv.len;
      room = room-more c.args.first k now b inv.room within (c.in_ok-fill_block.ensures {u = tt}).room (length-set now k b);
    }

pub returns-clause-seats : goal.returns-clause-seats
returns-clause-seats c = λ from is.
    (let inv = c.loop-block.invariant in
    let now = c.loop-block.blocks.items in
    room-all from c.args.first 0 now (inv.are from is)
    (λ j d low within. inv.room j d (omega (arith, low)) (omega (arith, within, c.loop-block-test.false, c.len-block-end.ensures, c.args.blocks.now.ok.0, inv.len)) within))

pub returns-in_err-fill_block-clause-are : goal.returns-in_err-fill_block-clause-are
returns-in_err-fill_block-clause-are c = λ from is.
    (let now = c.loop-block.blocks.items in
    let k = c.loop-block.block in
    let inv = c.loop-block.invariant in
    set-kept from now k c.fill_block.new.rows c.index_mut.result.now (inv.are from is) (omega (arith, c.loop-block-test.true, c.len-block-end.ensures, c.args.blocks.now.ok.0, inv.len)) c.index_mut.ensures.value c.fill_block.ensures.items
    (λ low room. omega (arith, room, c.fill_block.ensures.capacity)))

pub returns-in_err-fill_block-clause-rows : goal.returns-in_err-fill_block-clause-rows
returns-in_err-fill_block-clause-rows c = λ n.
    (let now = c.loop-block.blocks.items in
    let k = c.loop-block.block in
    let inv = c.loop-block.invariant in
    rows-set n now k c.fill_block.new.rows c.index_mut.result.now (omega (arith, c.loop-block-test.true, c.len-block-end.ensures, c.args.blocks.now.ok.0, inv.len)) c.index_mut.ensures.value c.fill_block.ensures.items ∙ inv.rows n)
