use Rattle.std.proofs.Common.{◌≡◌, ◌∙◌, ℕ, ◌<◌, ◌+◌, ◌++◌, ◌∷◌, [], length, ap, subst, sym, refl, arith}
use Rattle.std.specs.Global.{Vec}
use Rattle.std.proofs.lemmas.List.{take-set-le}
use Rattle.std.specs.List.{AllByRecursion}
use Rattle.drmaa_model.specs.declared.rows.Row.{Row}
use Rattle.drmaa_model.specs.Fit.{IsRising, number_of}
use Rattle.drmaa_model.specs.RowLaws.{all-push, rising-push}
use Rattle.plan_book.specs.Quiet.{block_of}
use Rattle.plan_book.specs.Blocks.{AreBlocks, IsBlock, rows_in}
use Rattle.plan_book.proofs.BlockRows.{above-in, block-at, blocks-set, has-room, pushed-in}
use Rattle.plan_book.proofs.blocks.push.Goals as goal
use Rattle.plan_book.proofs.blocks.push.Goals.{After-index_mut}

record Was (c : After-index_mut) : Type 0 where
  within : c.block_of.result < length c.args.blocks.now.items
  block : (seat : ℕ) → AreBlocks seat 0 c.args.blocks.now.items → IsBlock seat (block_of c.args.row.job.0) c.index_mut.result.now
  above : AllByRecursion (λ (other : Row). other.job.0 < c.args.row.job.0) (rows_in c.args.blocks.now.items)
  own : AllByRecursion (λ (other : Row). other.job.0 < c.args.row.job.0) c.index_mut.result.now.items

was : (c : After-index_mut) → Was c
was c =
    let blocks = c.args.blocks.now.items in
    let k = c.block_of.result in
    let d = c.index_mut.result.now in
    let below : Row → Type 0 = λ (other : Row). other.job.0 < c.args.row.job.0 in
    let within : k < length blocks = omega (arith, c.requires.room, c.block_of.ensures) in
    let above : AllByRecursion below (rows_in blocks) = c.requires.above in
    record {
      within = within;
      block = λ seat are. subst (λ n. IsBlock seat n d) (omega (arith, c.block_of.ensures)) (subst (IsBlock seat (0 + k)) (sym c.index_mut.ensures.value) (block-at 0 blocks k d are within));
      above = above;
      own = subst (λ (v : Vec Row). AllByRecursion below v.items) (sym c.index_mut.ensures.value) (above-in below blocks k d within above);
    }

pub push_reserved-requires : goal.push_reserved-requires
push_reserved-requires c =
    let w = was (goal.at.push_reserved-requires c).After-index_mut in
    let v = c.index_mut.result.now in
    let block = w.block (block_of c.args.row.job.0) c.requires.are in
    let room = has-room (block_of c.args.row.job.0) v c.args.row block refl w.own in
    omega (arith, room, block.room (omega arith), v.ok.0)

pub returns-clause-are : goal.returns-clause-are
returns-clause-are c = λ seat are.
    (let w = was (goal.at.returns-clause-are c).After-index_mut in
    let k = c.block_of.result in
    let n = block_of c.args.row.job.0 in
    let row = c.args.row in
    let xs = c.index_mut.result.now.items in
    let new = c.push_reserved.new.self in
    let was = w.block seat are in
    let block : IsBlock seat n new = record {
      own = subst (AllByRecursion (λ (other : Row). block_of other.job.0 ≡ n)) (sym c.push_reserved.ensures.items) (all-push (λ (other : Row). block_of other.job.0 ≡ n) xs row was.own refl);
      rising = subst (IsRising number_of) (sym c.push_reserved.ensures.items) (rising-push number_of xs row was.rising w.own);
      room = λ low. omega (arith, was.room low, c.push_reserved.ensures.capacity);
    } in
    blocks-set 0 c.args.blocks.now.items k new are (subst (λ m. IsBlock seat m new) (omega (arith, c.block_of.ensures)) block))

pub returns-clause-front : goal.returns-clause-front
returns-clause-front c = λ n less. take-set-le n c.args.blocks.now.items c.block_of.result c.push_reserved.new.self (omega (arith, less, c.block_of.ensures))

pub returns-clause-rows : goal.returns-clause-rows
returns-clause-rows c =
    let w = was (goal.at.returns-clause-rows c).After-index_mut in
    let blocks = c.args.blocks.now.items in
    let k = c.block_of.result in
    let row = c.args.row in
    pushed-in _ row 0 blocks k c.push_reserved.new.self c.index_mut.result.now c.requires.are w.within (omega (arith, c.block_of.ensures)) w.above
    (c.push_reserved.ensures.items ∙ ap (λ (v : Vec Row). v.items ++ row ∷ []) c.index_mut.ensures.value)
