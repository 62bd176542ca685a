use Rattle.std.proofs.Common.{◌≡◌, ◌<◌, ◌+◌, ℕ, Bool, not, filter, length, get_or, ap, subst, sym, arith}
use Rattle.std.specs.Global.{Vec}
use Rattle.drmaa_model.specs.declared.rows.Row.{Row}
use Rattle.drmaa_model.specs.Effects.{is_forgotten}
use Rattle.plan_book.specs.Blocks.{AreBlocks, IsBlock}
use Rattle.plan_book.proofs.BlockRows.{block-at, block-fewer, blocks-set, upto-more, upto-whole}
use Rattle.plan_book.proofs.blocks.drop_forgotten.Goals as goal

pub loop-block-preserved : goal.loop-block-preserved
loop-block-preserved c =
    let f : Row → Bool = λ (row : Row). not (is_forgotten c.args.home row) in
    let old = c.args.blocks.now in
    let now = c.loop-block.blocks in
    let k = c.loop-block.block in
    let d = get_or now k c.index-blocks-block.result in
    let there : d ≡ get_or now k d = ap (λ (v : Vec Row). get_or now k v) c.index-blocks-block.is in
    let b = c.drop_forgotten.new.rows in
    let inv = c.loop-block.invariant in
    let within : k < length now = omega (arith, c.loop-block-test.true, inv.upto.len) in
    let was = λ (from n : ℕ) (is : AreBlocks from n old). subst (IsBlock from (n + k)) (sym there) (block-at n now k d (inv.are from n is) within) in
    record {
      are = λ from n is. blocks-set n now k b (inv.are from n is) (block-fewer (n + k) f d b (was from n is) c.drop_forgotten.ensures.items c.drop_forgotten.ensures.capacity);
      upto = upto-more (filter f) 0 k old now b d inv.upto (omega arith) within there c.drop_forgotten.ensures.items;
    }

pub returns-clause-each : goal.returns-clause-each
returns-clause-each c =
    let f : Row → Bool = λ (row : Row). not (is_forgotten c.args.home row) in
    let old = c.args.blocks.now in
    let now = c.loop-block.blocks in
    let k = c.loop-block.block in
    (let upto = upto-whole (filter f) k old now (omega (arith, c.loop-block-test.false)) c.loop-block.invariant.upto in λ j d within. upto.done j d (omega arith) within within)
