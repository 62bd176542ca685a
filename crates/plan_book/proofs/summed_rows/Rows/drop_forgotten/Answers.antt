use Rattle.std.proofs.Common.{rules, FitsSigned, ◌≡◌, ◌∙◌, ◌++◌, ◌<◌, ◌^◌, ℕ, Bool, not, List, Some, get_or, filter, take, drop, length, ap, subst, sym, arith, to_z, of_z, to_z-of_z, w32}
use Rattle.std.specs.Global.{Vec}
use Rattle.std.specs.List.{AllByRecursion}
use Rattle.drmaa_model.specs.declared.rows.Row.{Row}
use Rattle.drmaa_model.specs.Effects.{is_forgotten}
use Rattle.drmaa_model.specs.Fit.{IsSound}
use Rattle.drmaa_model.specs.Homes.{is_same_home}
use Rattle.drmaa_model.specs.Submitting.{kept_text}
use Rattle.plan_book.specs.declared.sums.Sums.{Sums}
use Rattle.plan_book.specs.Blocks.{AreBlocks, KeptRows, rows_in}
use Rattle.plan_book.specs.Open.{IsPriorityBound}
use Rattle.plan_book.specs.Spans.{AreSpanned}
use Rattle.plan_book.specs.Sums.{AreSums, AreRows}
use Rattle.plan_book.specs.Texts.{IsRoomBeside}
use Rattle.plan_book.specs.Usage.{AreUsed}
use Rattle.plan_book.proofs.BlockRows.{blocks-few, each-kept, settled-kept, whole-kept, written-all}
use Rattle.plan_book.proofs.OpenLaws.{greatest-filter}
use Rattle.plan_book.proofs.PartLaws.{sums-left}
use Rattle.plan_book.proofs.SpanLaws.{spanned-filter}
use Rattle.plan_book.proofs.UsageLaws.{used-left}
use Rattle.plan_book.proofs.summed_rows.Rows.drop_forgotten.Goals as goal
use Rattle.plan_book.proofs.summed_rows.Rows.drop_forgotten.Goals.{After-drop_forgotten}

abbrev keeps : ℕ → Row → Bool
keeps home row = not (is_forgotten home row)

-- the blocks then
record Then (c : After-drop_forgotten) : Type 0 where
  pub written : take c.self.inside.blocks.len (c.drop_forgotten.new.blocks ++ drop (length c.drop_forgotten.new.blocks) c.self.inside.blocks.items) ≡ c.drop_forgotten.new.blocks
  pub len : length c.drop_forgotten.new.blocks ≡ length c.self.inside.blocks.items
  pub each : (n : ℕ) → rows_in (take n c.drop_forgotten.new.blocks) ≡ filter (keeps c.args.home) (rows_in (take n c.self.inside.blocks.items))
  pub is : rows_in c.drop_forgotten.new.blocks ≡ filter (keeps c.args.home) (rows_in c.self.inside.blocks.items)
  pub are : AreBlocks c.self.inside.first_seat 0 c.drop_forgotten.new.blocks
  pub few : length (rows_in c.drop_forgotten.new.blocks) < 2 ^ 72

then : (c : After-drop_forgotten) → Then c
then c =
    let f = keeps c.args.home in
    let v = c.self.inside.blocks in
    let old = v.items in
    let new = c.drop_forgotten.new.blocks in
    let seen : c.deref_mut.result.now ≡ old = c.deref_mut.ensures.value in
    let len : length new ≡ length old = c.drop_forgotten.ensures.len ∙ ap (λ (bs : List (Vec Row)). length bs) seen in
    let each = each-kept f old new len (subst (λ (bs : List (Vec Row)). (j : ℕ) (d : Vec Row) → j < length bs → (get_or new j d).items ≡ filter f (get_or bs j d).items) seen c.drop_forgotten.ensures.each) in
    let are = c.drop_forgotten.ensures.are c.self.inside.first_seat 0 (subst (AreBlocks c.self.inside.first_seat 0) (sym seen) c.self.invariant.ordered) in
    record {
      written = written-all v new len;
      len = len;
      each = each;
      is = whole-kept f old new len each;
      are = are;
      few = omega (arith, blocks-few _ 0 new are, len, v.ok.0, v.ok.1, v.small);
    }

pub count_in-self-inside-requires : goal.count_in-self-inside-requires
count_in-self-inside-requires c =
    let t = then (goal.at.count_in-self-inside-requires c).After-drop_forgotten in
    record { few = omega (arith, t.few, ap (λ (bs : List (Vec Row)). length (rows_in bs)) (c.deref.ensures.value ∙ t.written)) }

pub greatest_under-self-inside-requires : goal.greatest_under-self-inside-requires
greatest_under-self-inside-requires c =
    let t = then (goal.at.greatest_under-self-inside-requires c).After-drop_forgotten in
    let fits : FitsSigned w32 c.self.inside.greatest = search rules in
    subst (IsPriorityBound (rows_in c.deref-3.result.now)) (sym (to_z-of_z fits))
    (subst (λ (rows : List Row). IsPriorityBound rows c.self.inside.greatest) (sym (ap rows_in (c.deref-3.ensures.value ∙ t.written) ∙ t.is))
    (greatest-filter (keeps c.args.home) (rows_in c.self.inside.blocks.items) c.self.inside.greatest c.self.invariant.greatest))

pub prune-requires : goal.prune-requires
prune-requires c =
    let t = then (goal.at.prune-requires c).After-drop_forgotten in
    subst (λ (rows : List Row). AreSpanned rows c.self.inside.spans) (sym (ap rows_in (c.deref-4.ensures.value ∙ t.written) ∙ t.is))
    (spanned-filter (keeps c.args.home) (rows_in c.self.inside.blocks.items) c.self.inside.spans c.self.invariant.members)

pub invariant_of-self : goal.invariant_of-self
invariant_of-self c =
    let t = then (goal.at.invariant_of-self c).After-drop_forgotten in
    let f = keeps c.args.home in
    let old = c.self.inside.blocks.items in
    let new = c.drop_forgotten.new.blocks in
    let was = rows_in old in
    let inv = c.self.invariant in
    let n = c.count_in-self-inside.result in
    let sums : Sums = record c.self.inside.sums { count = n } in
    let sound = subst (λ (v : KeptRows). AllByRecursion (λ (row : Row). IsSound row.wants row.course) v.items) (sym c.self.view_is) c.requires in
    let fits : FitsSigned w32 c.greatest_under-self-inside.result = search rules in
    let seen = λ (list : List (Vec Row)) (same : list ≡ take c.self.inside.blocks.len (new ++ drop (length new) old)). ap rows_in (same ∙ t.written) in
    let long : n ≡ length (filter f was) = c.count_in-self-inside.ensures ∙ ap (λ (rows : List Row). length rows) (seen c.deref.result.now c.deref.ensures.value ∙ t.is) in
    subst (λ (bs : List (Vec Row)). AreRows bs c.self.inside.first_seat sums c.room_beside-self-inside.result c.self.inside.settled (to_z w32 (of_z w32 c.greatest_under-self-inside.result)) c.prune.new.self c.self.inside.usage) (sym t.written) (record {
      ordered = t.are;
      totals = subst (λ (rows : List Row). AreSums rows sums) (sym t.is) (sums-left (λ (row : Row). is_same_home (Some c.args.home) row.home) was c.self.inside.sums n sound long inv.totals);
      text = subst (λ (rows : List Row). IsRoomBeside (kept_text rows) c.room_beside-self-inside.result) (seen c.deref-2.result.now c.deref-2.ensures.value) c.room_beside-self-inside.ensures;
      settled = settled-kept f c.self.inside.settled old new t.len (t.each c.self.inside.settled) inv.settled;
      greatest = subst (IsPriorityBound (rows_in new)) (sym (to_z-of_z fits)) (subst (λ (rows : List Row). IsPriorityBound rows c.greatest_under-self-inside.result) (seen c.deref-3.result.now c.deref-3.ensures.value) c.greatest_under-self-inside.ensures);
      members = subst (λ (rows : List Row). AreSpanned rows c.prune.new.self) (seen c.deref-4.result.now c.deref-4.ensures.value) c.prune.ensures;
      used = subst (λ (rows : List Row). AreUsed rows c.self.inside.usage) (sym t.is) (used-left (λ (row : Row). is_same_home (Some c.args.home) row.home) was c.self.inside.usage sound inv.used);
    })

pub returns-clause-items : goal.returns-clause-items
returns-clause-items c =
    let t = then (goal.at.returns-clause-items c).After-drop_forgotten in
    c.let_go-2.ensures.items ∙ ap rows_in t.written ∙ t.is ∙ ap (λ (v : KeptRows). filter (keeps c.args.home) v.items) c.self.view_is
