use Rattle.std.proofs.Common.{◌≡◌, ◌∙◌, ◌-◌, ◌<◌, ◌++◌, ◌∷◌, [], ℕ, List, false, get_or, map, take, drop, length, length-take, ap, refl, subst, sym, arith}
use Rattle.std.specs.Global.{Vec}
use Rattle.std.specs.List.{AllByRecursion}
use Rattle.std.specs.Vec.{with_items}
use Rattle.std.proofs.lemmas.List.{drop_at, length-drop, take_at}
use Rattle.std.proofs.lemmas.List.Concat.{flat_map_single}
use Rattle.drmaa_model.specs.declared.rows.Row.{Row}
use Rattle.drmaa_model.specs.Controlling.{control_step}
use Rattle.drmaa_model.specs.RowLaws.{all-implied}
use Rattle.drmaa_model.specs.Targets.{is_meant}
use Rattle.plan_book.specs.Blocks.{AreBlocks, rows_in}
use Rattle.plan_book.specs.Quiet.{block_of, IsOutside}
use Rattle.plan_book.proofs.BlockRows.{blocks-written, each-mapped, placed-done, spliced-are, spliced-length, whole-mapped}
use Rattle.plan_book.proofs.MeantLaws.{step-stays}
use Rattle.plan_book.proofs.blocks.control_between.Goals as goal
use Rattle.plan_book.proofs.blocks.control_between.Goals.{After-control_rows}

record Then (c : After-control_rows) : Type 0 where
  pub new : List (Vec Row)
  pub long : length c.control_rows.new.blocks ≡ c.args.places.until - c.args.places.from
  pub written : (with_items c.args.blocks.now (take c.args.places.from c.deref_mut.result.now ++ (c.control_rows.new.blocks ++ drop (c.args.places.until - c.args.places.from) (drop c.args.places.from c.deref_mut.result.now)))).items ≡ new
  pub is : new ≡ take c.args.places.from c.args.blocks.now.items ++ (c.control_rows.new.blocks ++ drop c.args.places.until c.args.blocks.now.items)
  pub len : length new ≡ length c.args.blocks.now.items
  pub are : (seat : ℕ) → AreBlocks seat 0 c.args.blocks.now.items → AreBlocks seat 0 new
  pub rows : (n : ℕ) → rows_in (take n new) ≡ map (control_step c.args.moment c.args.target.now c.args.what) (rows_in (take n c.args.blocks.now.items))
  pub part : rows_in c.control_rows.new.blocks ≡ map (control_step c.args.moment c.args.target.now c.args.what) (rows_in (take (c.args.places.until - c.args.places.from) (drop c.args.places.from c.args.blocks.now.items)))

then : (c : After-control_rows) → Then c
then c =
    let g = control_step c.args.moment c.args.target.now c.args.what in
    let f : Row → List Row = λ row. g row ∷ [] in
    let v = c.args.blocks.now in
    let old = v.items in
    let places = c.args.places in
    let from = places.from in
    let until = places.until in
    let w = c.control_rows.new.blocks in
    let seen : c.deref_mut.result.now ≡ old = c.deref_mut.ensures.value in
    let part = take (until - from) (drop from old) in
    let count : length part ≡ until - from = omega (arith, length-take (until - from) (drop from old), length-drop from old, c.requires.span, c.requires.within) in
    let Each : List (Vec Row) → Type 0 = λ bs. (j : ℕ) (d : Vec Row) → j < length (take (until - from) (drop from bs)) → (get_or w j d).items ≡ map g (get_or (take (until - from) (drop from bs)) j d).items in
    let each : Each old = subst Each seen c.control_rows.ensures.each in
    let long : length w ≡ until - from = c.control_rows.ensures.len ∙ ap (λ (bs : List (Vec Row)). length (take (until - from) (drop from bs))) seen ∙ count in
    let stays : (seat k : ℕ) → AreBlocks seat k part → AreBlocks seat k w = λ seat k is. c.control_rows.ensures.are seat k (subst (λ (bs : List (Vec Row)). AreBlocks seat k (take (until - from) (drop from bs))) (sym seen) is) in
    let outside : AllByRecursion (λ (row : Row). IsOutside places (block_of row.job.0) → f row ≡ row ∷ []) (rows_in old) =
    all-implied (λ (row : Row). IsOutside places (block_of row.job.0) → is_meant c.args.target.now row ≡ false) (λ (row : Row). IsOutside places (block_of row.job.0) → f row ≡ row ∷ [])
    (λ row none out. ap (λ (r : Row). r ∷ []) (step-stays c.args.moment c.args.target.now c.args.what row (none out))) (rows_in old) c.requires.outside in
    record {
      new = take from old ++ (w ++ drop until old);
      long = long;
      written = blocks-written v c.deref_mut.result.now w from until seen c.requires.span c.requires.within long;
      is = refl;
      len = spliced-length f old w from until c.requires.span c.requires.within long;
      are = λ seat are. spliced-are f old w from until c.requires.span c.requires.within long seat are (stays seat);
      rows = λ n. placed-done _ f old w places c.requires.span c.requires.within long c.requires.are
          (λ j d within. each j d (omega (arith, within, count)) ∙ sym (flat_map_single g (get_or part j d).items)) outside n ∙ flat_map_single g (rows_in (take n old));
      part = whole-mapped g part w (omega (arith, long, count)) (each-mapped g part w (omega (arith, long, count)) each);
    }

pub returns-clause-are : goal.returns-clause-are
returns-clause-are c = λ seat are. (let t = then (goal.at.returns-clause-are c).After-control_rows in subst (AreBlocks seat 0) (sym t.written) (t.are seat are))

pub returns-clause-rows : goal.returns-clause-rows
returns-clause-rows c = λ n. (let t = then (goal.at.returns-clause-rows c).After-control_rows in ap (λ (bs : List (Vec Row)). rows_in (take n bs)) t.written ∙ t.rows n)

pub returns-clause-part : goal.returns-clause-part
returns-clause-part c =
    let t = then (goal.at.returns-clause-part c).After-control_rows in
    let from = c.args.places.from in
    let until = c.args.places.until in
    let old = c.args.blocks.now.items in
    let w = c.control_rows.new.blocks in
    let low : length (take from old) ≡ from = omega (arith, length-take from old, c.requires.span, c.requires.within) in
    ap (λ (bs : List (Vec Row)). rows_in (take (until - from) (drop from bs))) (t.written ∙ t.is)
    ∙ ap (λ (bs : List (Vec Row)). rows_in (take (until - from) bs)) (drop_at (take from old) (w ++ drop until old) from low) ∙ ap rows_in (take_at w (drop until old) (until - from) t.long) ∙ t.part

pub returns-clause-len : goal.returns-clause-len
returns-clause-len c = (let t = then (goal.at.returns-clause-len c).After-control_rows in ap (λ (bs : List (Vec Row)). length bs) t.written ∙ t.len)
