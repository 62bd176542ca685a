use Rattle.std.proofs.Common.{◌≡◌, false, ◌-◌, ◌≤◌, List, take, drop, length, ap, subst, sym, arith}
use Rattle.std.specs.Global.{Vec}
use Rattle.std.specs.List.{AllByRecursion}
use Rattle.drmaa_model.specs.declared.calls.Target.TheVariants as target
use Rattle.drmaa_model.specs.declared.rows.Row.{Row}
use Rattle.plan_book.specs.Blocks.{KeptRows, rows_in}
use Rattle.plan_book.specs.Meant.{HasAllMeant}
use Rattle.plan_book.specs.Quiet.{block_of, IsOutside}
use Rattle.drmaa_model.specs.Load.{is_member}
use Rattle.plan_book.proofs.BlockRows.{meant-between}
use Rattle.plan_book.proofs.summed_rows.Rows.blocks_of_array.Goals as goal

pub returns : goal.returns
returns c =
    let blocks = c.self.inside.blocks.items in
    let places = c.places_of-places in
    let from = places.result.from in
    let until = places.result.until in
    let part = rows_in (take (until - from) (drop from c.deref.result.now)) in
    let same : rows_in (take (until - from) (drop from blocks)) ≡ part = ap (λ (bs : List (Vec Row)). rows_in (take (until - from) (drop from bs))) (sym c.deref.ensures.value) in
    let outside = subst (λ (v : KeptRows). AllByRecursion (λ (row : Row). IsOutside places.result (block_of row.job.0) → is_member c.args.array row ≡ false) v.items) (sym c.self.view_is) places.ensures.outside in
    let within : until ≤ length blocks = omega (arith, places.ensures.within, ap (λ (v : KeptRows). v.seats.until) c.self.view_is) in
    subst (λ (v : KeptRows). HasAllMeant (target.Array c.args.array) v.items part) c.self.view_is
    (subst (HasAllMeant (target.Array c.args.array) (rows_in blocks)) same (meant-between _ (target.Array c.args.array) blocks places.result places.ensures.span within c.self.invariant.ordered outside))
