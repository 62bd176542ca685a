use Rattle.std.proofs.Common.{◌≡◌, ◌∙◌, ◌+◌, [], List, length, ap, subst, sym, arith}
use Rattle.std.specs.List.{AllByRecursion}
use Rattle.drmaa_model.specs.declared.rows.Row.{Row}
use Rattle.drmaa_model.specs.Fit.{IsRising, number_of}
use Rattle.plan_book.specs.Blocks.{AreBlocks, IsBlock}
use Rattle.plan_book.specs.Quiet.{block_of}
use Rattle.plan_book.proofs.BlockRows.{blocks-push}
use Rattle.plan_book.proofs.blocks.add_block.Goals as goal

pub returns-clause-are : goal.returns-clause-are
returns-clause-are c = λ seat are.
    (let blocks = c.args.blocks.now.items in
    let new = c.reserve.new.self in
    let none : new.items ≡ [] = c.reserve.ensures.items ∙ c.new-rows.ensures.items in
    let pushed = (c.in_ok-push.ensures {u = tt}).items in
    let n = 0 + length blocks in
    let block : IsBlock seat n new = record {
      own = subst (AllByRecursion (λ (row : Row). block_of row.job.0 ≡ n)) (sym none) tt;
      rising = subst (IsRising number_of) (sym none) tt;
      room = λ low. omega (arith, (c.in_ok-reserve.ensures {u = tt}).ok, ap (λ (rows : List Row). length rows) none, new.ok.0);
    } in
    subst (AreBlocks seat 0) (sym pushed) (blocks-push 0 blocks new are block))
