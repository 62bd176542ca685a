use Rattle.std.proofs.Common.{◌≡◌, ◌∙◌, ℕ, length, ◌+◌, Bool, not, get_or, filter, take, false, ap, subst, sym, arith}
use Rattle.std.specs.Global.{Vec}
use Rattle.drmaa_model.specs.declared.rows.Row.{Row}
use Rattle.drmaa_model.specs.Rows.{is_of}
use Rattle.plan_book.specs.Quiet.{block_of}
use Rattle.plan_book.specs.Blocks.{AreBlocks, IsBlock, rows_in}
use Rattle.plan_book.proofs.BlockRows.{block-at, blocks-set, front-all, kept-in, filter-others, none-in, other-of, block-fewer}
use Rattle.plan_book.proofs.blocks.remove.Goals as goal
use Rattle.plan_book.proofs.blocks.remove.Goals.{After-index_mut}

-- the block as it was
is : (c : After-index_mut) (seat : ℕ) → AreBlocks seat 0 c.args.blocks.now.items → IsBlock seat (block_of c.args.job.0) c.index_mut.result.now
is c seat are =
    let blocks = c.args.blocks.now.items in
    let k = c.block_of-block.result in
    let d = c.index_mut.result.now in
    let at : IsBlock seat (0 + k) (get_or blocks k d) = block-at 0 blocks k d are (omega (arith, c.if-block-len.true, c.len.ensures, c.args.blocks.now.ok.0)) in
    subst (λ n. IsBlock seat n d) (omega (arith, c.block_of-block.ensures)) (subst (IsBlock seat (0 + k)) (sym c.index_mut.ensures.value) at)

pub remove_from_block-requires : goal.remove_from_block-requires
remove_from_block-requires c = (is (goal.at.remove_from_block-requires c).After-index_mut (length c.args.blocks.now.items) c.requires).rising

pub returns-then-block-len-clause-are : goal.returns-then-block-len-clause-are
returns-then-block-len-clause-are c = λ seat are.
    (let k = c.block_of-block.result in
    let was = is (goal.at.returns-then-block-len-clause-are c).After-index_mut seat are in
    blocks-set 0 c.args.blocks.now.items k c.remove_from_block.new.rows are
    (subst (λ n. IsBlock seat n c.remove_from_block.new.rows) (omega (arith, c.block_of-block.ensures)) (block-fewer (block_of c.args.job.0) (λ (row : Row). not (is_of c.args.job row)) c.index_mut.result.now c.remove_from_block.new.rows was c.remove_from_block.ensures.rows c.remove_from_block.ensures.capacity)))

pub returns-then-block-len-clause-rows : goal.returns-then-block-len-clause-rows
returns-then-block-len-clause-rows c =
    let blocks = c.args.blocks.now.items in
    let k = c.block_of-block.result in
    let d = c.index_mut.result.now in
    let job = c.args.job in
    let g : Row → Bool = λ (row : Row). not (is_of job row) in
    kept-in _ g k blocks c.remove_from_block.new.rows d c.requires (omega (arith, c.if-block-len.true, c.len.ensures, c.args.blocks.now.ok.0))
    (λ row other. ap not (other-of job row (λ e. other (e ∙ sym c.block_of-block.ensures))))
    (c.remove_from_block.ensures.rows ∙ ap (λ (v : Vec Row). filter g v.items) c.index_mut.ensures.value)

pub returns-else-block-len-clause-rows : goal.returns-else-block-len-clause-rows
returns-else-block-len-clause-rows c =
    let blocks = c.args.blocks.now.items in
    let none = none-in _ c.args.job 0 blocks c.requires (omega (arith, c.if-block-len.false, c.len.ensures, c.args.blocks.now.ok.0, c.block_of-block.ensures)) in
    λ n. sym (filter-others c.args.job (rows_in (take n blocks)) (front-all (λ (row : Row). is_of c.args.job row ≡ false) n blocks none))
