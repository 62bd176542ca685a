use Rattle.std.proofs.Common.{◌≡◌, ◌∙◌, ◌-◌, ◌<◌, ◌≤◌, ◌^◌, ◌++◌, List, false, map, take, drop, length, length-append, ap, refl, sym, subst, arith}
use Rattle.std.specs.Global.{Vec}
use Rattle.std.specs.List.{AllByRecursion}
use Rattle.std.proofs.lemmas.List.{length-map}
use Rattle.drmaa_model.specs.declared.calls.Target.TheVariants as target
use Rattle.drmaa_model.specs.declared.rows.Row.{Row}
use Rattle.drmaa_model.specs.Controlling.{control_step}
use Rattle.drmaa_model.specs.Fit.{IsSound}
use Rattle.drmaa_model.specs.Submitting.{kept_text}
use Rattle.drmaa_model.specs.Targets.{is_meant}
use Rattle.plan_book.specs.declared.sums.Sums.{Sums}
use Rattle.plan_book.specs.Blocks.{AreFrontSettled, KeptRows, rows_in}
use Rattle.plan_book.specs.Open.{IsPriorityBound}
use Rattle.plan_book.specs.Quiet.{block_of, IsOutside}
use Rattle.plan_book.specs.Spans.{AreSpanned}
use Rattle.plan_book.specs.Sums.{AreSums, AreFew, with_others}
use Rattle.plan_book.specs.Usage.{AreUsed}
use Rattle.plan_book.proofs.BlockRows.{blocks-any, blocks-few, outside-both, settled-mapped, three-parts, whole-mapped}
use Rattle.plan_book.proofs.OpenLaws.{greatest-step, settled-step-row}
use Rattle.plan_book.proofs.PartLaws.{few-without, part-among, part-exchanged, step-parts}
use Rattle.plan_book.proofs.SpanLaws.{spanned-step}
use Rattle.plan_book.proofs.SumLaws.{sums-few}
use Rattle.plan_book.proofs.TextLaws.{same-room, text-step}
use Rattle.plan_book.proofs.UsageLaws.{used-step}
use Rattle.plan_book.proofs.summed_rows.Rows.control_members.Goals as goal
use Rattle.plan_book.proofs.summed_rows.Rows.control_members.Goals.{After-deref}

-- what is known of the blocks before, and of those that are gone over
record Known (c : After-deref) : Type 0 where
  pub outside : AllByRecursion (λ (row : Row). IsOutside c.places_of-places.result (block_of row.job.0) → is_meant (target.Array c.args.array) row ≡ false) (rows_in c.self.inside.blocks.items)
  pub within : c.places_of-places.result.until ≤ length c.self.inside.blocks.items
  pub front : List Row
  pub part : List Row
  pub back : List Row
  pub parts : rows_in c.self.inside.blocks.items ≡ front ++ (part ++ back)
  pub few : length (front ++ (part ++ back)) < 2 ^ 72
  pub seen : rows_in (take (c.places_of-places.result.until - c.places_of-places.result.from) (drop c.places_of-places.result.from c.deref.result.now)) ≡ part
  pub is : part ≡ rows_in (take (c.places_of-places.result.until - c.places_of-places.result.from) (drop c.places_of-places.result.from c.self.inside.blocks.items))
  pub none_front : AllByRecursion (λ (row : Row). is_meant (target.Array c.args.array) row ≡ false) front
  pub none_back : AllByRecursion (λ (row : Row). is_meant (target.Array c.args.array) row ≡ false) back

known : (c : After-deref) → Known c
known c =
    let places = c.places_of-places in
    let v = c.self.inside.blocks in
    let from = places.result.from in
    let until = places.result.until in
    let t = target.Array c.args.array in
    let outside = subst (λ (r : KeptRows). AllByRecursion (λ (row : Row). IsOutside places.result (block_of row.job.0) → is_meant t row ≡ false) r.items) (sym c.self.view_is) places.ensures.outside in
    let within : until ≤ length v.items = omega (arith, places.ensures.within, ap (λ (r : KeptRows). r.seats.until) c.self.view_is) in
    let both = outside-both _ (λ (row : Row). is_meant t row ≡ false) v.items places.result places.ensures.span within c.self.invariant.ordered outside in
    let parts = three-parts v.items from until places.ensures.span in
    record {
      outside = outside;
      within = within;
      front = rows_in (take from v.items);
      part = rows_in (take (until - from) (drop from v.items));
      back = rows_in (drop until v.items);
      parts = parts;
      few = omega (arith, blocks-few _ 0 v.items c.self.invariant.ordered, v.ok.0, v.ok.1, v.small, ap (λ (rows : List Row). length rows) parts);
      seen = ap (λ (bs : List (Vec Row)). rows_in (take (until - from) (drop from bs))) c.deref.ensures.value;
      is = refl;
      none_front = both.0;
      none_back = both.1;
    }

pub sums_in-before-requires : goal.sums_in-before-requires
sums_in-before-requires c =
    let k = known (goal.at.sums_in-before-requires c).After-deref in
    record { few = omega (arith, k.few, ap (λ (rows : List Row). length rows) k.seen, length-append k.front (k.part ++ k.back), length-append k.part k.back) }

pub control_between-requires-clause-within : goal.control_between-requires-clause-within
control_between-requires-clause-within c = (known (goal.at.control_between-requires-clause-within c).After-deref).within

pub control_between-requires-clause-outside : goal.control_between-requires-clause-outside
control_between-requires-clause-outside c = (known (goal.at.control_between-requires-clause-outside c).After-deref).outside

pub sums_in-after-requires : goal.sums_in-after-requires
sums_in-after-requires c =
    let k = known (goal.at.sums_in-after-requires c).After-deref in
    let from = c.places_of-places.result.from in
    let until = c.places_of-places.result.until in
    let step = control_step c.args.moment (target.Array c.args.array) c.args.what in
    let after = ap (λ (bs : List (Vec Row)). rows_in (take (until - from) (drop from bs))) c.deref-2.ensures.value ∙ c.control_between.ensures.part ∙ ap (map step) (sym k.is) in
    record { few = omega (arith, k.few, ap (λ (rows : List Row). length rows) after, length-map k.part step, length-append k.front (k.part ++ k.back), length-append k.part k.back) }

pub without_others-requires : goal.without_others-requires
without_others-requires c =
    let k = known (goal.at.without_others-requires c).After-deref in
    record {
      among = part-among k.front k.part k.back c.self.inside.sums c.sums_in-before.result (subst (λ (rows : List Row). AreSums rows c.self.inside.sums) k.parts c.self.invariant.totals)
          (subst (λ (rows : List Row). AreSums rows c.sums_in-before.result) k.seen c.sums_in-before.ensures);
    }

pub with_others-self-inside-requires-clause-few : goal.with_others-self-inside-requires-clause-few
with_others-self-inside-requires-clause-few c =
    let k = known (goal.at.with_others-self-inside-requires-clause-few c).After-deref in
    subst AreFew (sym c.without_others.ensures) (few-without c.self.inside.sums c.sums_in-before.result (sums-few (k.front ++ (k.part ++ k.back)) c.self.inside.sums k.few (subst (λ (rows : List Row). AreSums rows c.self.inside.sums) k.parts c.self.invariant.totals)))

pub with_others-self-inside-requires-clause-few_others : goal.with_others-self-inside-requires-clause-few_others
with_others-self-inside-requires-clause-few_others c =
    let k = known (goal.at.with_others-self-inside-requires-clause-few_others c).After-deref in
    let from = c.places_of-places.result.from in
    let until = c.places_of-places.result.until in
    let step = control_step c.args.moment (target.Array c.args.array) c.args.what in
    let after = ap (λ (bs : List (Vec Row)). rows_in (take (until - from) (drop from bs))) c.deref-2.ensures.value ∙ c.control_between.ensures.part ∙ ap (map step) (sym k.is) in
    sums-few (map step k.part) c.sums_in-after.result (omega (arith, k.few, length-map k.part step, length-append k.front (k.part ++ k.back), length-append k.part k.back))
    (subst (λ (rows : List Row). AreSums rows c.sums_in-after.result) after c.sums_in-after.ensures)

pub settled_from-self-inside-requires : goal.settled_from-self-inside-requires
settled_from-self-inside-requires c =
    let t = target.Array c.args.array in
    let step = control_step c.args.moment t c.args.what in
    let n = c.self.inside.settled in
    subst (AreFrontSettled n) (sym c.deref-3.ensures.value)
    (settled-mapped step n c.self.inside.blocks.items c.control_between.new.blocks.items (settled-step-row c.args.moment t c.args.what) c.control_between.ensures.len (c.control_between.ensures.rows n) c.self.invariant.settled)

pub invariant_of-self : goal.invariant_of-self
invariant_of-self c =
    let k = known (goal.at.invariant_of-self c).After-deref in
    let t = target.Array c.args.array in
    let step = control_step c.args.moment t c.args.what in
    let from = c.places_of-places.result.from in
    let until = c.places_of-places.result.until in
    let old = c.self.inside.blocks.items in
    let new = c.control_between.new.blocks.items in
    let xs = rows_in old in
    let inv = c.self.invariant in
    let is : rows_in new ≡ map step xs = whole-mapped step old new c.control_between.ensures.len c.control_between.ensures.rows in
    let after = ap (λ (bs : List (Vec Row)). rows_in (take (until - from) (drop from bs))) c.deref-2.ensures.value ∙ c.control_between.ensures.part ∙ ap (map step) (sym k.is) in
    let whole : AreSums (k.front ++ (k.part ++ k.back)) c.self.inside.sums = subst (λ (rows : List Row). AreSums rows c.self.inside.sums) k.parts inv.totals in
    let exchanged = part-exchanged k.front k.part k.back c.self.inside.sums c.sums_in-before.result whole (subst (λ (rows : List Row). AreSums rows c.sums_in-before.result) k.seen c.sums_in-before.ensures)
    (map step k.part) c.sums_in-after.result (subst (λ (rows : List Row). AreSums rows c.sums_in-after.result) after c.sums_in-after.ensures) in
    let joined : k.front ++ (map step k.part ++ k.back) ≡ map step xs = step-parts c.args.moment t c.args.what xs k.front k.part k.back k.parts k.none_front k.none_back in
    record {
      ordered = c.control_between.ensures.are c.self.inside.first_seat c.self.invariant.ordered;
      totals = subst (λ (rows : List Row). AreSums rows c.with_others-self-inside.result) (joined ∙ sym is)
          (subst (λ (sums : Sums). AreSums (k.front ++ (map step k.part ++ k.back)) sums) (sym (c.with_others-self-inside.ensures ∙ ap (λ (sums : Sums). with_others sums c.sums_in-after.result) c.without_others.ensures)) exchanged);
      settled = subst (AreFrontSettled c.settled_from-self-inside.result) c.deref-3.ensures.value c.settled_from-self-inside.ensures.settled;
      greatest = subst (λ (rows : List Row). IsPriorityBound rows c.self.inside.greatest) (sym is) (greatest-step c.args.moment t c.args.what xs c.self.inside.greatest inv.greatest);
      text = same-room (kept_text xs) (kept_text (rows_in new)) c.self.inside.room (ap kept_text is ∙ text-step c.args.moment t c.args.what xs) inv.text;
      members = subst (λ (rows : List Row). AreSpanned rows c.self.inside.spans) (sym is) (spanned-step c.args.moment t c.args.what xs c.self.inside.spans inv.members);
      used = subst (λ (rows : List Row). AreUsed rows c.self.inside.usage) (sym is)
          (used-step c.args.moment t c.args.what xs c.self.inside.usage (subst (λ (r : KeptRows). AllByRecursion (λ (row : Row). IsSound row.wants row.course) r.items) (sym c.self.view_is) c.requires) inv.used);
    }

pub returns-clause-items : goal.returns-clause-items
returns-clause-items c =
    let step = control_step c.args.moment (target.Array c.args.array) c.args.what in
    whole-mapped step c.self.inside.blocks.items c.control_between.new.blocks.items c.control_between.ensures.len c.control_between.ensures.rows ∙ ap (λ (r : KeptRows). map step r.items) c.self.view_is

pub control_between-requires-clause-are : goal.control_between-requires-clause-are
control_between-requires-clause-are c = blocks-any c.self.inside.first_seat (length c.self.inside.blocks.items) 0 c.self.inside.blocks.items c.self.invariant.ordered (omega arith)
