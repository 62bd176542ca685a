use Rattle.std.proofs.Common.{◌≡◌, ◌∙◌, ◌<◌, ◌+◌, [], List, get_or, length, append-nil, ap, subst, sym, arith}
use Rattle.std.specs.Global.{Vec}
use Rattle.drmaa_model.specs.declared.calls.Target.TheVariants as target
use Rattle.drmaa_model.specs.declared.rows.Row.{Row}
use Rattle.drmaa_model.specs.Fit.{IsRising, number_of}
use Rattle.plan_book.specs.Blocks.{IsBlock, rows_in}
use Rattle.plan_book.specs.Meant.{HasAllMeant}
use Rattle.plan_book.proofs.BlockRows.{alone-in, block-at, none-in}
use Rattle.plan_book.proofs.blocks.row_alone.Goals as goal
use Rattle.plan_book.proofs.blocks.row_alone.Goals.{After-deref-in-Some}

record There (c : After-deref-in-Some) : Type 0 where
  within : c.block_of.result < length c.args.blocks.now.items
  block : c.in-Some.block.now ≡ get_or c.args.blocks.now.items c.block_of.result c.in-Some.block.now

there : (c : After-deref-in-Some) → There c
there c =
    let k = c.block_of.result in
    let d = c.in-Some.block.now in
    let lookup = (c.in-Some.ensures {u = tt}).lookup in
    let list = ap (λ (bs : List (Vec Row)). length bs) c.deref.ensures.value in
    record {
      within = omega (arith, sym lookup.0, list);
      block = lookup.1 ∙ ap (λ (bs : List (Vec Row)). get_or bs k d) c.deref.ensures.value;
    }

pub row_alone-requires : goal.row_alone-requires
row_alone-requires c =
    let t = there (goal.at.row_alone-requires c).After-deref-in-Some in
    let k = c.block_of.result in
    let d = c.in-Some.block.now in
    let n = length c.args.blocks.now.items in
    let is : IsBlock n (0 + k) d = subst (IsBlock n (0 + k)) (sym t.block) (block-at 0 c.args.blocks.now.items k d c.requires t.within) in
    record { rising = subst (IsRising number_of) (sym c.deref-in-Some.ensures.value) is.rising }

pub returns-in-Some : goal.returns-in-Some
returns-in-Some c =
    let t = there (goal.at.returns-in-Some c).After-deref-in-Some in
    let k = c.block_of.result in
    let d = c.in-Some.block.now in
    alone-in _ c.args.job c.args.blocks.now.items k d c.row_alone.result.now c.requires t.within (omega (arith, c.block_of.ensures))
    (subst (λ (v : Vec Row). HasAllMeant (target.Job c.args.job) v.items c.row_alone.result.now) t.block (subst (λ (rows : List Row). HasAllMeant (target.Job c.args.job) rows c.row_alone.result.now) c.deref-in-Some.ensures.value c.row_alone.ensures))

pub returns-in-None : goal.returns-in-None
returns-in-None c =
    let blocks = c.args.blocks.now.items in
    let lookup = (c.in-None.ensures {u = tt}).lookup in
    let list = ap (λ (bs : List (Vec Row)). length bs) c.deref.ensures.value in
    record {
      before = rows_in blocks;
      behind = [];
      none_before = none-in _ c.args.job 0 blocks c.requires (omega (arith, sym lookup.0, list, c.block_of.ensures));
      none_behind = tt;
      parts = sym (append-nil (rows_in blocks));
    }
