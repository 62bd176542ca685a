use Rattle.std.proofs.Common.{◌≡◌, inl, inr, ⊎_elim, ◌≤◌, ◌<◌, ◌-◌, ◌++◌, ◌∙◌, ◌^◌, ℕ, List, map, take, drop, length, length-append, ap, refl, subst, sym, arith}
use Rattle.std.specs.Global.{Vec}
use Rattle.std.specs.List.{AllByRecursion, flat_map}
use Rattle.std.proofs.lemmas.List.{length-map}
use Rattle.drmaa_types.specs.declared.changes.Change.{Change}
use Rattle.drmaa_types.specs.declared.moments.End.{End}
use Rattle.drmaa_model.specs.declared.courses.Order.{Order}
use Rattle.drmaa_model.specs.declared.reservations.Accepted.{Accepted}
use Rattle.drmaa_model.specs.declared.rows.Row.{Row}
use Rattle.drmaa_model.specs.Fit.{IsSound}
use Rattle.drmaa_model.specs.RowLaws.{all-implied}
use Rattle.drmaa_model.specs.Submitting.{kept_text}
use Rattle.drmaa_model.specs.TimeLaws.{timed}
use Rattle.plan_book.specs.declared.rows.Places.{Places}
use Rattle.plan_book.specs.declared.sums.Sums.{Sums}
use Rattle.plan_book.specs.Blocks.{AreFrontSettled, KeptRows, rows_in}
use Rattle.plan_book.specs.Lapses.{ends, kills_then}
use Rattle.plan_book.specs.Open.{IsPriorityBound}
use Rattle.plan_book.specs.Quiet.{block_of, AreCovered, IsAlarmed, IsOutside, IsSpared}
use Rattle.plan_book.specs.Spans.{AreSpanned}
use Rattle.plan_book.specs.Sums.{AreSums, AreFew, with_others}
use Rattle.plan_book.specs.Usage.{AreUsed}
use Rattle.plan_book.proofs.BlockLaws.{Left, alarmed-part, ends-part, kills-part, left-timed, timed-part}
use Rattle.plan_book.proofs.BlockRows.{blocks-any, blocks-few, outside-both, settled-mapped, three-parts, whole-mapped}
use Rattle.plan_book.proofs.OpenLaws.{greatest-timed, settled-timed-row}
use Rattle.plan_book.proofs.PartLaws.{all-left, all-right, few-without, part-among, part-exchanged}
use Rattle.plan_book.proofs.SpanLaws.{spanned-timed}
use Rattle.plan_book.proofs.SumLaws.{sums-few}
use Rattle.plan_book.proofs.SweptBlocks.{spared-blocks}
use Rattle.plan_book.proofs.TextLaws.{same-room, text-timed}
use Rattle.plan_book.proofs.UsageLaws.{used-timed}
use Rattle.plan_book.proofs.summed_rows.Rows.sweep_rows.Goals as goal
use Rattle.plan_book.proofs.summed_rows.Rows.sweep_rows.Goals.{After-deref}

left-of : (m : ℕ) (es : List End) (rs : List Accepted) (rows : List Row) → AllByRecursion (IsSpared m es rs) rows → AllByRecursion (Left m rs) rows
left-of m es rs rows all = all-implied (IsSpared m es rs) (Left m rs) (λ row spared. spared.now) rows all

-- what is known once the places are
record Known (c : After-deref) : Type 0 where
  pub order : c.max-from.result ≤ c.max-until.result
  pub within : c.max-until.result ≤ length c.self.inside.blocks.items
  pub spared : AllByRecursion (λ (row : Row). IsOutside (record { from = c.max-from.result; until = c.max-until.result }) (block_of row.job.0) → IsSpared c.args.moment c.args.alarm.now.ends.items c.args.rs.now.items row) (rows_in c.self.inside.blocks.items)
  pub front : List Row
  pub part : List Row
  pub back : List Row
  pub is : part ≡ rows_in (take (c.max-until.result - c.max-from.result) (drop c.max-from.result c.self.inside.blocks.items))
  pub parts : rows_in c.self.inside.blocks.items ≡ front ++ (part ++ back)
  pub few : length (front ++ (part ++ back)) < 2 ^ 72
  pub seen : rows_in (take (c.max-until.result - c.max-from.result) (drop c.max-from.result c.deref.result.now)) ≡ part
  pub spared_front : AllByRecursion (IsSpared c.args.moment c.args.alarm.now.ends.items c.args.rs.now.items) front
  pub spared_back : AllByRecursion (IsSpared c.args.moment c.args.alarm.now.ends.items c.args.rs.now.items) back
  pub covered : AreCovered c.args.alarm.now.ends.items (front ++ (part ++ back))
  pub ends_all : flat_map (ends c.args.entry c.args.moment c.args.rs.now.items) part ≡ flat_map (ends c.args.entry c.args.moment c.args.rs.now.items) c.args.self.now.items
  pub kills_all : flat_map (kills_then c.args.moment c.args.rs.now.items) part ≡ flat_map (kills_then c.args.moment c.args.rs.now.items) c.args.self.now.items
  pub timed_all : front ++ (map (timed c.args.moment c.args.rs.now.items) part ++ back) ≡ map (timed c.args.moment c.args.rs.now.items) (rows_in c.self.inside.blocks.items)

known : (c : After-deref) → Known c
known c =
    let m = c.args.moment in
    let es = c.args.alarm.now.ends.items in
    let rs = c.args.rs.now.items in
    let v = c.self.inside.blocks in
    let xs = rows_in v.items in
    let from = c.max-from.result in
    let until = c.max-until.result in
    let inv = c.self.invariant in
    let now : Places = record { from = from; until = until } in
    let order : from ≤ until = omega (arith, c.max-until.ensures) in
    let within : until ≤ length v.items = omega (arith, c.max-until.ensures, c.max-from.ensures, c.min.ensures, c.min-2.ensures, c.len-len.ensures, v.ok.0, inv.settled.within) in
    let out : (b : ℕ) → c.self.inside.settled ≤ b → b < length v.items → IsOutside now b → IsOutside c.args.places b =
    λ b low high. ⊎_elim
    (λ (less : b < from). inl (omega (arith, less, low, c.max-from.ensures, c.min.ensures)))
    (λ (more : until ≤ b). inr (omega (arith, more, high, c.max-until.ensures, c.min-2.ensures, c.len-len.ensures, v.ok.0))) in
    let spared = spared-blocks _ m es rs v.items c.self.inside.settled c.args.places now inv.ordered inv.settled out
    (subst (λ (r : KeptRows). AllByRecursion (λ (row : Row). IsOutside c.args.places (block_of row.job.0) → IsSpared m es rs row) r.items) (sym c.self.view_is) c.requires.outside) in
    let both = outside-both _ (IsSpared m es rs) v.items now order within inv.ordered spared in
    let front = rows_in (take from v.items) in
    let part = rows_in (take (until - from) (drop from v.items)) in
    let back = rows_in (drop until v.items) in
    let parts = three-parts v.items from until order in
    let left_front = left-of m es rs front both.0 in
    let left_back = left-of m es rs back both.1 in
    record {
      order = order;
      within = within;
      spared = spared;
      front = front;
      part = part;
      back = back;
      is = refl;
      parts = parts;
      few = omega (arith, blocks-few _ 0 v.items inv.ordered, v.ok.0, v.ok.1, v.small, ap (λ (rows : List Row). length rows) parts);
      seen = ap (λ (bs : List (Vec Row)). rows_in (take (until - from) (drop from bs))) c.deref.ensures.value;
      spared_front = both.0;
      spared_back = both.1;
      covered = subst (AreCovered es) parts (subst (λ (r : KeptRows). AreCovered es r.items) (sym c.self.view_is) c.requires.covered);
      ends_all = ends-part m rs xs front part back parts left_front left_back c.args.entry ∙ ap (λ (r : KeptRows). flat_map (ends c.args.entry m rs) r.items) c.self.view_is;
      kills_all = kills-part m rs xs front part back parts left_front left_back ∙ ap (λ (r : KeptRows). flat_map (kills_then m rs) r.items) c.self.view_is;
      timed_all = timed-part m rs xs front part back parts left_front left_back;
    }

pub sums_in-before-requires : goal.sums_in-before-requires
sums_in-before-requires c =
    let k = known (goal.at.sums_in-before-requires c).After-deref in
    record { few = omega (arith, k.few, ap (λ (rows : List Row). length rows) k.seen, length-append k.front (k.part ++ k.back), length-append k.part k.back) }

pub sweep_between-after-requires-clause-few : goal.sweep_between-after-requires-clause-few
sweep_between-after-requires-clause-few c =
    let k = known (goal.at.sweep_between-after-requires-clause-few c).After-deref in
    omega (arith, k.few, ap (λ (rows : List Row). length rows) k.is, length-append k.front (k.part ++ k.back), length-append k.part k.back)

pub sweep_between-after-requires-clause-within : goal.sweep_between-after-requires-clause-within
sweep_between-after-requires-clause-within c = (known (goal.at.sweep_between-after-requires-clause-within c).After-deref).within

pub sweep_between-after-requires-clause-outside : goal.sweep_between-after-requires-clause-outside
sweep_between-after-requires-clause-outside c =
    let k = known (goal.at.sweep_between-after-requires-clause-outside c).After-deref in
    let m = c.args.moment in
    let es = c.args.alarm.now.ends.items in
    let rs = c.args.rs.now.items in
    let now : Places = record { from = c.max-from.result; until = c.max-until.result } in
    all-implied (λ (row : Row). IsOutside now (block_of row.job.0) → IsSpared m es rs row) (λ (row : Row). IsOutside now (block_of row.job.0) → timed m rs row ≡ row)
    (λ row says out. left-timed m rs row (says out).now) (rows_in c.self.inside.blocks.items) k.spared

pub sweep_between-after-requires-clause-covered : goal.sweep_between-after-requires-clause-covered
sweep_between-after-requires-clause-covered c =
    let k = known (goal.at.sweep_between-after-requires-clause-covered c).After-deref in
    let P : Row → Type 0 = λ row. block_of row.job.0 < length c.args.alarm.now.ends.items in
    subst (AllByRecursion P) k.is (all-left P k.part k.back (all-right P k.front (k.part ++ k.back) k.covered))

pub sweep_between-after-requires-clause-changes : goal.sweep_between-after-requires-clause-changes
sweep_between-after-requires-clause-changes c =
    let k = known (goal.at.sweep_between-after-requires-clause-changes c).After-deref in
    let f = ends c.args.entry c.args.moment c.args.rs.now.items in
    omega (arith, c.requires.changes, ap (λ (xs : List Change). length xs) k.ends_all, ap (λ (xs : List Row). length (flat_map f xs)) k.is)

pub sweep_between-after-requires-clause-orders : goal.sweep_between-after-requires-clause-orders
sweep_between-after-requires-clause-orders c =
    let k = known (goal.at.sweep_between-after-requires-clause-orders c).After-deref in
    let f = kills_then c.args.moment c.args.rs.now.items in
    omega (arith, c.requires.orders, ap (λ (xs : List Order). length xs) k.kills_all, ap (λ (xs : List Row). length (flat_map f xs)) k.is)

pub without_others-requires : goal.without_others-requires
without_others-requires c =
    let k = known (goal.at.without_others-requires c).After-deref in
    record {
      among = part-among k.front k.part k.back c.self.inside.sums c.sums_in-before.result (subst (λ (rows : List Row). AreSums rows c.self.inside.sums) k.parts c.self.invariant.totals)
          (subst (λ (rows : List Row). AreSums rows c.sums_in-before.result) k.seen c.sums_in-before.ensures);
    }

pub with_others-self-inside-requires-clause-few : goal.with_others-self-inside-requires-clause-few
with_others-self-inside-requires-clause-few c =
    let k = known (goal.at.with_others-self-inside-requires-clause-few c).After-deref in
    subst AreFew (sym c.without_others.ensures) (few-without c.self.inside.sums c.sums_in-before.result (sums-few (k.front ++ (k.part ++ k.back)) c.self.inside.sums k.few (subst (λ (rows : List Row). AreSums rows c.self.inside.sums) k.parts c.self.invariant.totals)))

pub with_others-self-inside-requires-clause-few_others : goal.with_others-self-inside-requires-clause-few_others
with_others-self-inside-requires-clause-few_others c =
    let k = known (goal.at.with_others-self-inside-requires-clause-few_others c).After-deref in
    let step = timed c.args.moment c.args.rs.now.items in
    sums-few (map step k.part) c.sweep_between-after.result (omega (arith, k.few, length-map k.part step, length-append k.front (k.part ++ k.back), length-append k.part k.back))
    (subst (λ (rows : List Row). AreSums (map step rows) c.sweep_between-after.result) (sym k.is) c.sweep_between-after.ensures.sums)

pub settled_from-self-inside-requires : goal.settled_from-self-inside-requires
settled_from-self-inside-requires c =
    let step = timed c.args.moment c.args.rs.now.items in
    let n = c.self.inside.settled in
    subst (AreFrontSettled n) (sym c.deref-2.ensures.value)
    (settled-mapped step n c.self.inside.blocks.items c.sweep_between-after.new.blocks.items (settled-timed-row c.args.moment c.args.rs.now.items) c.sweep_between-after.ensures.len (c.sweep_between-after.ensures.rows n) c.self.invariant.settled)

pub invariant_of-self : goal.invariant_of-self
invariant_of-self c =
    let k = known (goal.at.invariant_of-self c).After-deref in
    let m = c.args.moment in
    let rs = c.args.rs.now.items in
    let step = timed m rs in
    let old = c.self.inside.blocks.items in
    let swept = c.sweep_between-after in
    let new = swept.new.blocks.items in
    let xs = rows_in old in
    let inv = c.self.invariant in
    let is : rows_in new ≡ map step xs = whole-mapped step old new swept.ensures.len swept.ensures.rows in
    let whole : AreSums (k.front ++ (k.part ++ k.back)) c.self.inside.sums = subst (λ (rows : List Row). AreSums rows c.self.inside.sums) k.parts inv.totals in
    let exchanged = part-exchanged k.front k.part k.back c.self.inside.sums c.sums_in-before.result whole (subst (λ (rows : List Row). AreSums rows c.sums_in-before.result) k.seen c.sums_in-before.ensures)
    (map step k.part) swept.result (subst (λ (rows : List Row). AreSums (map step rows) swept.result) (sym k.is) swept.ensures.sums) in
    record {
      ordered = swept.ensures.are c.self.inside.first_seat c.self.invariant.ordered;
      totals = subst (λ (rows : List Row). AreSums rows c.with_others-self-inside.result) (k.timed_all ∙ sym is)
          (subst (λ (sums : Sums). AreSums (k.front ++ (map step k.part ++ k.back)) sums) (sym (c.with_others-self-inside.ensures ∙ ap (λ (sums : Sums). with_others sums swept.result) c.without_others.ensures)) exchanged);
      settled = subst (AreFrontSettled c.settled_from-self-inside.result) c.deref-2.ensures.value c.settled_from-self-inside.ensures.settled;
      greatest = subst (λ (rows : List Row). IsPriorityBound rows c.self.inside.greatest) (sym is) (greatest-timed m rs xs c.self.inside.greatest inv.greatest);
      text = same-room (kept_text xs) (kept_text (rows_in new)) c.self.inside.room (ap kept_text is ∙ text-timed m rs xs) inv.text;
      members = subst (λ (rows : List Row). AreSpanned rows c.self.inside.spans) (sym is) (spanned-timed m rs xs c.self.inside.spans inv.members);
      used = subst (λ (rows : List Row). AreUsed rows c.self.inside.usage) (sym is)
          (used-timed m rs xs c.self.inside.usage (subst (λ (r : KeptRows). AllByRecursion (λ (row : Row). IsSound row.wants row.course) r.items) (sym c.self.view_is) c.requires.sound) inv.used);
    }

pub returns-clause-items : goal.returns-clause-items
returns-clause-items c =
    let step = timed c.args.moment c.args.rs.now.items in
    whole-mapped step c.self.inside.blocks.items c.sweep_between-after.new.blocks.items c.sweep_between-after.ensures.len c.sweep_between-after.ensures.rows ∙ ap (λ (r : KeptRows). map step r.items) c.self.view_is

pub returns-clause-changes : goal.returns-clause-changes
returns-clause-changes c =
    let k = known (goal.at.returns-clause-changes c).After-deref in
    let f = ends c.args.entry c.args.moment c.args.rs.now.items in
    c.sweep_between-after.ensures.changes ∙ ap (λ (xs : List Change). c.args.changes.now.items ++ xs) (ap (flat_map f) (sym k.is) ∙ k.ends_all)

pub returns-clause-changes_len : goal.returns-clause-changes_len
returns-clause-changes_len c =
    let k = known (goal.at.returns-clause-changes_len c).After-deref in
    let f = ends c.args.entry c.args.moment c.args.rs.now.items in
    omega (arith, c.sweep_between-after.ensures.changes_len, ap (λ (xs : List Row). length (flat_map f xs)) k.is, ap (λ (xs : List Change). length xs) k.ends_all)

pub returns-clause-orders : goal.returns-clause-orders
returns-clause-orders c =
    let k = known (goal.at.returns-clause-orders c).After-deref in
    let f = kills_then c.args.moment c.args.rs.now.items in
    c.sweep_between-after.ensures.orders ∙ ap (λ (xs : List Order). c.args.orders.now.items ++ xs) (ap (flat_map f) (sym k.is) ∙ k.kills_all)

pub returns-clause-orders_len : goal.returns-clause-orders_len
returns-clause-orders_len c =
    let k = known (goal.at.returns-clause-orders_len c).After-deref in
    let f = kills_then c.args.moment c.args.rs.now.items in
    omega (arith, c.sweep_between-after.ensures.orders_len, ap (λ (xs : List Row). length (flat_map f xs)) k.is, ap (λ (xs : List Order). length xs) k.kills_all)

pub returns-clause-alarmed : goal.returns-clause-alarmed
returns-clause-alarmed c =
    let k = known (goal.at.returns-clause-alarmed c).After-deref in
    let m = c.args.moment in
    let es = c.args.alarm.now.ends.items in
    let rs = c.args.rs.now.items in
    let swept = c.sweep_between-after in
    let new = swept.new.alarm.ends.items in
    let step = timed m rs in
    let P : Row → Type 0 = λ row. block_of row.job.0 < length es in
    let is : rows_in swept.new.blocks.items ≡ map step (rows_in c.self.inside.blocks.items) = whole-mapped step c.self.inside.blocks.items swept.new.blocks.items swept.ensures.len swept.ensures.rows in
    subst (AllByRecursion (IsAlarmed new rs)) (k.timed_all ∙ sym is)
    (alarmed-part m es new rs k.front (map step k.part) k.back swept.ensures.kept
    (all-left P k.front (k.part ++ k.back) k.covered) k.spared_front (all-right P k.part k.back (all-right P k.front (k.part ++ k.back) k.covered)) k.spared_back
    (subst (λ (rows : List Row). AllByRecursion (IsAlarmed new rs) (map step rows)) (sym k.is) swept.ensures.alarmed))

pub sweep_between-after-requires-clause-are : goal.sweep_between-after-requires-clause-are
sweep_between-after-requires-clause-are c = blocks-any c.self.inside.first_seat (length c.self.inside.blocks.items) 0 c.self.inside.blocks.items c.self.invariant.ordered (omega arith)
