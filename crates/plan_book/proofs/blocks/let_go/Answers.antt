use Rattle.std.proofs.Common.{◌∙◌, ◌<◌, length, length-set, arith}
use Rattle.plan_book.proofs.RowsKept.{gone-more, rows-set, set-kept}
use Rattle.plan_book.proofs.blocks.let_go.Goals as goal

pub loop-block-preserved : goal.loop-block-preserved
loop-block-preserved c =
    let now = c.loop-block.blocks.items in
    let k = c.loop-block.block in
    let d = c.index_mut.result.now in
    let b = c.let_block_go.new.rows in
    let inv = c.loop-block.invariant in
    let within : k < length now = omega (arith, c.loop-block-test.true, c.min-block-end.ensures, c.len.ensures, c.args.blocks.now.ok.0, inv.len) in
    let below : k < c.args.places.until = omega (arith, c.loop-block-test.true, c.min-block-end.ensures) in
    record {
      are = λ from high is. set-kept from now k b d (inv.are from high is) within c.index_mut.ensures.value c.let_block_go.ensures.items (λ low room. absurd (omega (arith, low, high, below)));
      rows = λ n. rows-set n now k b d within c.index_mut.ensures.value c.let_block_go.ensures.items ∙ inv.rows n;
      gone = gone-more c.args.places.from k now b inv.gone within c.let_block_go.ensures.gone (length-set now k b);
      len = length-set now k b ∙ inv.len;
    }

pub returns-clause-gone : goal.returns-clause-gone
returns-clause-gone c = λ k d inside within none.
    (let inv = c.loop-block.invariant in
    let below = inside.1 in
    inv.gone k d inside.0 (omega (arith, below, within, c.loop-block-test.false, c.min-block-end.ensures, c.len.ensures, c.args.blocks.now.ok.0)) (omega (arith, within, inv.len)) none)
