use Rattle.std.proofs.Common.{◌≡◌, ◌∙◌, ◌-◌, ◌<◌, ◌++◌, ◌∷◌, [], ℕ, List, get_or, map, take, drop, length, length-take, ap, subst, sym, arith}
use Rattle.std.specs.Global.{Vec}
use Rattle.std.specs.List.{AllByRecursion}
use Rattle.std.specs.Vec.{with_items}
use Rattle.std.proofs.lemmas.List.{length-drop}
use Rattle.std.proofs.lemmas.List.Concat.{flat_map_single}
use Rattle.drmaa_model.specs.declared.rows.Row.{Row}
use Rattle.drmaa_model.specs.RowLaws.{all-implied}
use Rattle.drmaa_model.specs.TimeLaws.{timed}
use Rattle.plan_book.specs.Blocks.{AreBlocks, rows_in}
use Rattle.plan_book.specs.Quiet.{block_of, IsOutside}
use Rattle.plan_book.proofs.BlockRows.{blocks-written, placed-done, spliced-are, spliced-length}
use Rattle.plan_book.proofs.blocks.sweep_between.Goals as goal
use Rattle.plan_book.proofs.blocks.sweep_between.Goals.{After-sweep_rows}

record Then (c : After-sweep_rows) : Type 0 where
  pub new : List (Vec Row)
  pub written : (with_items c.args.blocks.now (take c.args.places.from c.deref_mut.result.now ++ (c.sweep_rows.new.blocks ++ drop (c.args.places.until - c.args.places.from) (drop c.args.places.from c.deref_mut.result.now)))).items ≡ new
  pub len : length new ≡ length c.args.blocks.now.items
  pub are : (seat : ℕ) → AreBlocks seat 0 c.args.blocks.now.items → AreBlocks seat 0 new
  pub rows : (n : ℕ) → rows_in (take n new) ≡ map (timed c.args.moment c.args.rs.now.items) (rows_in (take n c.args.blocks.now.items))

then : (c : After-sweep_rows) → Then c
then c =
    let g = timed c.args.moment c.args.rs.now.items in
    let f : Row → List Row = λ row. g row ∷ [] in
    let v = c.args.blocks.now in
    let old = v.items in
    let places = c.args.places in
    let from = places.from in
    let until = places.until in
    let w = c.sweep_rows.new.blocks in
    let seen : c.deref_mut.result.now ≡ old = c.deref_mut.ensures.value in
    let part = take (until - from) (drop from old) in
    let count : length part ≡ until - from = omega (arith, length-take (until - from) (drop from old), length-drop from old, c.requires.span, c.requires.within) in
    let Each : List (Vec Row) → Type 0 = λ bs. (j : ℕ) (d : Vec Row) → j < length (take (until - from) (drop from bs)) → (get_or w j d).items ≡ map g (get_or (take (until - from) (drop from bs)) j d).items in
    let each : Each old = subst Each seen c.sweep_rows.ensures.each in
    let long : length w ≡ until - from = c.sweep_rows.ensures.len ∙ ap (λ (bs : List (Vec Row)). length (take (until - from) (drop from bs))) seen ∙ count in
    let stays : (seat k : ℕ) → AreBlocks seat k part → AreBlocks seat k w = λ seat k is. c.sweep_rows.ensures.are seat k (subst (λ (bs : List (Vec Row)). AreBlocks seat k (take (until - from) (drop from bs))) (sym seen) is) in
    let outside : AllByRecursion (λ (row : Row). IsOutside places (block_of row.job.0) → f row ≡ row ∷ []) (rows_in old) =
    all-implied (λ (row : Row). IsOutside places (block_of row.job.0) → g row ≡ row) (λ (row : Row). IsOutside places (block_of row.job.0) → f row ≡ row ∷ [])
    (λ row same out. ap (λ (r : Row). r ∷ []) (same out)) (rows_in old) c.requires.outside in
    record {
      new = take from old ++ (w ++ drop until old);
      written = blocks-written v c.deref_mut.result.now w from until seen c.requires.span c.requires.within long;
      len = spliced-length f old w from until c.requires.span c.requires.within long;
      are = λ seat are. spliced-are f old w from until c.requires.span c.requires.within long seat are (stays seat);
      rows = λ n. placed-done _ f old w places c.requires.span c.requires.within long c.requires.are
          (λ j d within. each j d (omega (arith, within, count)) ∙ sym (flat_map_single g (get_or part j d).items)) outside n ∙ flat_map_single g (rows_in (take n old));
    }

pub returns-clause-are : goal.returns-clause-are
returns-clause-are c = λ seat are. (let t = then (goal.at.returns-clause-are c).After-sweep_rows in subst (AreBlocks seat 0) (sym t.written) (t.are seat are))

pub returns-clause-rows : goal.returns-clause-rows
returns-clause-rows c = λ n. (let t = then (goal.at.returns-clause-rows c).After-sweep_rows in ap (λ (bs : List (Vec Row)). rows_in (take n bs)) t.written ∙ t.rows n)

pub returns-clause-len : goal.returns-clause-len
returns-clause-len c = (let t = then (goal.at.returns-clause-len c).After-sweep_rows in ap (λ (bs : List (Vec Row)). length bs) t.written ∙ t.len)
