use Rattle.std.proofs.Common.{◌≡◌, ◌∙◌, ◌<◌, ◌+◌, List, get_or, length, ap, subst, sym, arith}
use Rattle.std.specs.Global.{Vec}
use Rattle.drmaa_model.specs.declared.rows.Row.{Row}
use Rattle.drmaa_model.specs.Fit.{IsRising, number_of}
use Rattle.drmaa_model.specs.Rows.{row_of}
use Rattle.plan_book.specs.Blocks.{IsBlock}
use Rattle.plan_book.proofs.BlockRows.{absent-in, block-at, found-in}
use Rattle.plan_book.proofs.blocks.row_of.Goals as goal
use Rattle.plan_book.proofs.blocks.row_of.Goals.{After-deref-in-Some}

record There (c : After-deref-in-Some) : Type 0 where
  within : c.block_of.result < length c.args.blocks.now.items
  block : c.in-Some.block.now ≡ get_or c.args.blocks.now.items c.block_of.result c.in-Some.block.now

there : (c : After-deref-in-Some) → There c
there c =
    let k = c.block_of.result in
    let d = c.in-Some.block.now in
    let lookup = (c.in-Some.ensures {u = tt}).lookup in
    let list = ap (λ (bs : List (Vec Row)). length bs) c.deref.ensures.value in
    record {
      within = omega (arith, sym lookup.0, list);
      block = lookup.1 ∙ ap (λ (bs : List (Vec Row)). get_or bs k d) c.deref.ensures.value;
    }

pub row_of-requires : goal.row_of-requires
row_of-requires c =
    let at = goal.at.row_of-requires c in
    let t = there at.After-deref-in-Some in
    let blocks = c.args.blocks.now.items in
    let k = c.block_of.result in
    let d = c.in-Some.block.now in
    let is : IsBlock (length blocks) (0 + k) d = subst (IsBlock (length blocks) (0 + k)) (sym t.block) (block-at 0 blocks k d c.requires t.within) in
    subst (IsRising number_of) (sym c.deref-in-Some.ensures.value) is.rising

pub returns-in-Some : goal.returns-in-Some
returns-in-Some c =
    let t = there (goal.at.returns-in-Some c).After-deref-in-Some in
    let blocks = c.args.blocks.now.items in
    let k = c.block_of.result in
    let d = c.in-Some.block.now in
    c.row_of.ensures ∙ ap (row_of c.args.job) c.deref-in-Some.ensures.value ∙ ap (λ (v : Vec Row). row_of c.args.job v.items) t.block
    ∙ found-in _ c.args.job 0 blocks k d c.requires t.within (omega (arith, c.block_of.ensures))

pub returns-in-None : goal.returns-in-None
returns-in-None c =
    let blocks = c.args.blocks.now.items in
    let lookup = (c.in-None.ensures {u = tt}).lookup in
    let list = ap (λ (bs : List (Vec Row)). length bs) c.deref.ensures.value in
    sym (absent-in _ c.args.job blocks c.requires (omega (arith, sym lookup.0, list, c.block_of.ensures)))
