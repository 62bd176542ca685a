use Rattle.std.proofs.Common.{rules, FitsSigned, ◌≡◌, ◌∙◌, ◌-◌, ◌≤◌, ◌&&◌, ℕ, Bool, false, not, List, Some, filter, take, drop, length, ap, subst, sym, arith, to_z-of_z, w32}
use Rattle.std.specs.Prelude.{IfSome}
use Rattle.std.specs.Global.{Vec}
use Rattle.std.specs.List.{AllByRecursion}
use Rattle.drmaa_model.specs.declared.calls.Target.{Target}
use Rattle.drmaa_model.specs.declared.calls.Target.TheVariants as target
use Rattle.drmaa_model.specs.declared.rows.Row.{Row}
use Rattle.drmaa_model.specs.Controlling.{is_done}
use Rattle.drmaa_model.specs.Fit.{IsSound}
use Rattle.drmaa_model.specs.Submitting.{kept_text}
use Rattle.drmaa_model.specs.Targets.{is_meant}
use Rattle.plan_book.specs.declared.sums.Sums.{Sums}
use Rattle.plan_book.specs.Blocks.{KeptRows, rows_in}
use Rattle.plan_book.specs.Meant.{HasAllMeant}
use Rattle.plan_book.specs.Open.{IsPriorityBound}
use Rattle.plan_book.specs.Quiet.{block_of, IsOutside}
use Rattle.plan_book.specs.Spans.{AreSpanned}
use Rattle.plan_book.specs.Sums.{AreSums}
use Rattle.plan_book.specs.Texts.{IsRoomBeside}
use Rattle.plan_book.specs.Usage.{AreUsed}
use Rattle.plan_book.proofs.BlockRows.{blocks-any, blocks-few, meant-between, settled-kept, whole-kept}
use Rattle.plan_book.proofs.OpenLaws.{greatest-filter}
use Rattle.plan_book.proofs.PartLaws.{room-part, sums-left}
use Rattle.plan_book.proofs.SpanLaws.{spanned-filter}
use Rattle.plan_book.proofs.UsageLaws.{used-left}
use Rattle.plan_book.proofs.summed_rows.Rows.drop_done_members.Goals as goal
use Rattle.plan_book.proofs.summed_rows.Rows.drop_done_members.Goals.{After-deref, After-drop_between}

abbrev keeps : Target → Row → Bool
keeps t row = not (is_meant t row && is_done row)

record Known (c : After-deref) : Type 0 where
  pub outside : AllByRecursion (λ (row : Row). IsOutside c.places_of-places.result (block_of row.job.0) → is_meant (target.Array c.args.array) row ≡ false) (rows_in c.self.inside.blocks.items)
  pub within : c.places_of-places.result.until ≤ length c.self.inside.blocks.items
  pub all : HasAllMeant (target.Array c.args.array) (rows_in c.self.inside.blocks.items) (rows_in (take (c.places_of-places.result.until - c.places_of-places.result.from) (drop c.places_of-places.result.from c.deref.result.now)))

known : (c : After-deref) → Known c
known c =
    let places = c.places_of-places in
    let v = c.self.inside.blocks in
    let from = places.result.from in
    let until = places.result.until in
    let t = target.Array c.args.array in
    let outside = subst (λ (r : KeptRows). AllByRecursion (λ (row : Row). IsOutside places.result (block_of row.job.0) → is_meant t row ≡ false) r.items) (sym c.self.view_is) places.ensures.outside in
    let within : until ≤ length v.items = omega (arith, places.ensures.within, ap (λ (r : KeptRows). r.seats.until) c.self.view_is) in
    record {
      outside = outside;
      within = within;
      all = subst (λ (bs : List (Vec Row)). HasAllMeant t (rows_in v.items) (rows_in (take (until - from) (drop from bs)))) (sym c.deref.ensures.value)
          (meant-between _ t v.items places.result places.ensures.span within c.self.invariant.ordered outside);
    }

kept : (c : After-drop_between) → rows_in c.drop_between.new.blocks.items ≡ filter (keeps (target.Array c.args.array)) (rows_in c.self.inside.blocks.items)
kept c = whole-kept (keeps (target.Array c.args.array)) c.self.inside.blocks.items c.drop_between.new.blocks.items c.drop_between.ensures.len c.drop_between.ensures.rows

pub drop_between-requires-clause-within : goal.drop_between-requires-clause-within
drop_between-requires-clause-within c = (known (goal.at.drop_between-requires-clause-within c).After-deref).within

pub drop_between-requires-clause-outside : goal.drop_between-requires-clause-outside
drop_between-requires-clause-outside c = (known (goal.at.drop_between-requires-clause-outside c).After-deref).outside

pub count_in-self-inside-requires : goal.count_in-self-inside-requires
count_in-self-inside-requires c =
    let w = c.drop_between.new.blocks in
    record { few = omega (arith, blocks-few _ 0 w.items (c.drop_between.ensures.are c.self.inside.first_seat c.self.invariant.ordered), w.ok.0, w.ok.1, w.small, ap (λ (bs : List (Vec Row)). length (rows_in bs)) c.deref-2.ensures.value) }

pub room_beside-self-inside-requires : goal.room_beside-self-inside-requires
room_beside-self-inside-requires c =
    let at = goal.at.room_beside-self-inside-requires c in
    let k = known at.After-deref in
    let t = target.Array c.args.array in
    let room = c.room_without_members-known in
    subst (λ (rows : List Row). IfSome room.result (λ (n : ℕ). IsRoomBeside (kept_text rows) (Some n))) (sym (ap rows_in c.deref-3.ensures.value ∙ kept at.After-drop_between))
    (room-part t (rows_in c.self.inside.blocks.items) (rows_in (take (c.places_of-places.result.until - c.places_of-places.result.from) (drop c.places_of-places.result.from c.deref.result.now))) c.self.inside.room room.result k.all c.self.invariant.text room.ensures)

pub greatest_under-self-inside-requires : goal.greatest_under-self-inside-requires
greatest_under-self-inside-requires c =
    let at = goal.at.greatest_under-self-inside-requires c in
    let fits : FitsSigned w32 c.self.inside.greatest = search rules in
    subst (IsPriorityBound (rows_in c.deref-4.result.now)) (sym (to_z-of_z fits))
    (subst (λ (rows : List Row). IsPriorityBound rows c.self.inside.greatest) (sym (ap rows_in c.deref-4.ensures.value ∙ kept at.After-drop_between))
    (greatest-filter (keeps (target.Array c.args.array)) (rows_in c.self.inside.blocks.items) c.self.inside.greatest c.self.invariant.greatest))

pub prune-requires : goal.prune-requires
prune-requires c =
    let at = goal.at.prune-requires c in
    subst (λ (rows : List Row). AreSpanned rows c.self.inside.spans) (sym (ap rows_in c.deref-5.ensures.value ∙ kept at.After-drop_between))
    (spanned-filter (keeps (target.Array c.args.array)) (rows_in c.self.inside.blocks.items) c.self.inside.spans c.self.invariant.members)

pub invariant_of-self : goal.invariant_of-self
invariant_of-self c =
    let t = target.Array c.args.array in
    let f = keeps t in
    let old = c.self.inside.blocks.items in
    let new = c.drop_between.new.blocks.items in
    let was = rows_in old in
    let inv = c.self.invariant in
    let n = c.count_in-self-inside.result in
    let sums : Sums = record c.self.inside.sums { count = n } in
    let is : rows_in new ≡ filter f was = kept (goal.at.invariant_of-self c).After-drop_between in
    let sound = subst (λ (v : KeptRows). AllByRecursion (λ (row : Row). IsSound row.wants row.course) v.items) (sym c.self.view_is) c.requires in
    let fits : FitsSigned w32 c.greatest_under-self-inside.result = search rules in
    let long : n ≡ length (filter f was) = c.count_in-self-inside.ensures ∙ ap (λ (rows : List Row). length rows) (ap rows_in c.deref-2.ensures.value ∙ is) in
    record {
      ordered = c.drop_between.ensures.are c.self.inside.first_seat c.self.invariant.ordered;
      totals = subst (λ (rows : List Row). AreSums rows sums) (sym is) (sums-left (is_meant t) was c.self.inside.sums n sound long inv.totals);
      text = subst (λ (rows : List Row). IsRoomBeside (kept_text rows) c.room_beside-self-inside.result) (ap rows_in c.deref-3.ensures.value) c.room_beside-self-inside.ensures;
      settled = settled-kept f c.self.inside.settled old new c.drop_between.ensures.len (c.drop_between.ensures.rows c.self.inside.settled) inv.settled;
      greatest = subst (IsPriorityBound (rows_in new)) (sym (to_z-of_z fits)) (subst (λ (rows : List Row). IsPriorityBound rows c.greatest_under-self-inside.result) (ap rows_in c.deref-4.ensures.value) c.greatest_under-self-inside.ensures);
      members = subst (λ (rows : List Row). AreSpanned rows c.prune.new.self) (ap rows_in c.deref-5.ensures.value) c.prune.ensures;
      used = subst (λ (rows : List Row). AreUsed rows c.self.inside.usage) (sym is) (used-left (is_meant t) was c.self.inside.usage sound inv.used);
    }

pub returns-clause-items : goal.returns-clause-items
returns-clause-items c = c.let_go.ensures.items ∙ kept (goal.at.returns-clause-items c).After-drop_between ∙ ap (λ (v : KeptRows). filter (keeps (target.Array c.args.array)) v.items) c.self.view_is

pub drop_between-requires-clause-are : goal.drop_between-requires-clause-are
drop_between-requires-clause-are c = blocks-any c.self.inside.first_seat (length c.self.inside.blocks.items) 0 c.self.inside.blocks.items c.self.invariant.ordered (omega arith)
