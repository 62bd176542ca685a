use Rattle.std.proofs.Common.{length, rules, FitsSigned, ◌≡◌, ◌∙◌, not, List, Some, filter, ap, sym, subst, arith, to_z-of_z, w32}
use Rattle.std.specs.Prelude.{IfSome}
use Rattle.std.specs.List.{remove}
use Rattle.drmaa_model.specs.declared.rows.Row.{Row}
use Rattle.drmaa_model.specs.Rows.{is_of}
use Rattle.drmaa_model.specs.Submitting.{kept_text}
use Rattle.plan_book.specs.Blocks.{KeptRows, rows_in}
use Rattle.plan_book.specs.Open.{IsPriorityBound}
use Rattle.plan_book.specs.Spans.{AreSpanned}
use Rattle.plan_book.specs.Texts.{IsRoomBeside}
use Rattle.plan_book.specs.Usage.{AreUsed}
use Rattle.plan_book.proofs.BlockRows.{blocks-any, Found, all-others, blocks-few, filter-others, found-at, removed-is, rising-in, settled-kept, whole-kept}
use Rattle.plan_book.proofs.OpenLaws.{greatest-removed}
use Rattle.plan_book.proofs.SpanLaws.{spanned-removed}
use Rattle.plan_book.proofs.SumLaws.{sums-few, removed-parts, sums-removed}
use Rattle.plan_book.proofs.TextLaws.{room-removed}
use Rattle.plan_book.proofs.UsageLaws.{used-removed}
use Rattle.plan_book.proofs.summed_rows.Rows.drop_row.Goals as goal
use Rattle.plan_book.proofs.summed_rows.Rows.drop_row.Goals.{After-room_without_job-known, After-remove}

-- where the row stands
there : (c : After-room_without_job-known) → Found c.args.job (rows_in c.self.inside.blocks.items) c.in-Some.row.now
there c = found-at c.args.job (rows_in c.self.inside.blocks.items) c.in-Some.row.now (sym c.in-Some.ensures)

kept : (c : After-remove) → rows_in c.remove.new.blocks.items ≡ filter (λ (row : Row). not (is_of c.args.job row)) (rows_in c.self.inside.blocks.items)
kept c = whole-kept (λ (row : Row). not (is_of c.args.job row)) c.self.inside.blocks.items c.remove.new.blocks.items c.remove.ensures.len c.remove.ensures.rows

gone : (c : After-remove) (found : Found c.args.job (rows_in c.self.inside.blocks.items) c.in-Some.row.now) → rows_in c.remove.new.blocks.items ≡ remove (rows_in c.self.inside.blocks.items) found.place
gone c found =
    let old = c.self.inside.blocks.items in
    kept c ∙ sym (removed-is c.args.job (rows_in old) found.place c.in-Some.row.now (rising-in _ 0 old c.self.invariant.ordered) found.at)

pub without_job-self-inside-requires-clause-few : goal.without_job-self-inside-requires-clause-few
without_job-self-inside-requires-clause-few c =
    let v = c.self.inside.blocks in
    sums-few (rows_in v.items) c.self.inside.sums (omega (arith, blocks-few _ 0 v.items c.self.invariant.ordered, v.ok.0, v.ok.1, v.small)) c.self.invariant.totals

pub without_job-self-inside-requires-clause-parts : goal.without_job-self-inside-requires-clause-parts
without_job-self-inside-requires-clause-parts c =
    let f = there (goal.at.without_job-self-inside-requires-clause-parts c).After-room_without_job-known in
    removed-parts (rows_in c.self.inside.blocks.items) f.place c.in-Some.row.now c.self.inside.sums f.at.within f.is c.self.invariant.totals

pub room_beside-self-inside-requires : goal.room_beside-self-inside-requires
room_beside-self-inside-requires c =
    let at = goal.at.room_beside-self-inside-requires c in
    let f = there at.After-room_without_job-known in
    let left = rows_in c.remove.new.blocks.items in
    let known = c.room_without_job-known in
    subst (λ (rows : List Row). IfSome known.result (λ (room : _). IsRoomBeside (kept_text rows) (Some room))) (sym (ap rows_in c.deref.ensures.value))
    (known.ensures (kept_text left) (room-removed (rows_in c.self.inside.blocks.items) left f.place c.in-Some.row.now c.self.inside.room f.at.within f.is (gone at.After-remove f) c.self.invariant.text))

pub greatest_without-self-inside-requires : goal.greatest_without-self-inside-requires
greatest_without-self-inside-requires c =
    let at = goal.at.greatest_without-self-inside-requires c in
    let f = there at.After-room_without_job-known in
    let fits : FitsSigned w32 c.self.inside.greatest = search rules in
    subst (IsPriorityBound (rows_in c.deref-in-Some.result.now)) (sym (to_z-of_z fits))
    (greatest-removed (rows_in c.self.inside.blocks.items) (rows_in c.deref-in-Some.result.now) f.place c.self.inside.greatest (ap rows_in c.deref-in-Some.ensures.value ∙ gone at.After-remove f) c.self.invariant.greatest)

pub prune-requires : goal.prune-requires
prune-requires c =
    let at = goal.at.prune-requires c in
    let f = there at.After-room_without_job-known in
    subst (λ (rows : List Row). AreSpanned rows c.self.inside.spans) (sym (ap rows_in c.deref-in-Some-2.ensures.value ∙ gone at.After-remove f))
    (spanned-removed (rows_in c.self.inside.blocks.items) f.place c.self.inside.spans c.self.invariant.members)

pub invariant_of-self : goal.invariant_of-self
invariant_of-self c =
    let at = goal.at.invariant_of-self c in
    let f = there at.After-room_without_job-known in
    let old = c.self.inside.blocks.items in
    let new = c.remove.new.blocks.items in
    let xs = rows_in old in
    let row = c.in-Some.row.now in
    let inv = c.self.invariant in
    let left : rows_in new ≡ remove xs f.place = gone at.After-remove f in
    let fits : FitsSigned w32 c.greatest_without-self-inside.result = search rules in
    record {
      ordered = c.remove.ensures.are c.self.inside.first_seat c.self.invariant.ordered;
      totals = sums-removed xs f.place row c.self.inside.sums f.at.within f.is inv.totals (rows_in new) c.without_job-self-inside.result left c.without_job-self-inside.ensures.value;
      text = subst (λ (rows : List Row). IsRoomBeside (kept_text rows) c.room_beside-self-inside.result) (ap rows_in c.deref.ensures.value) c.room_beside-self-inside.ensures;
      settled = settled-kept (λ (r : Row). not (is_of c.args.job r)) c.self.inside.settled old new c.remove.ensures.len (c.remove.ensures.rows c.self.inside.settled) inv.settled;
      members = subst (λ (rows : List Row). AreSpanned rows c.prune.new.self) (ap rows_in c.deref-in-Some-2.ensures.value) c.prune.ensures;
      used = subst (λ (rows : List Row). AreUsed rows c.exchange.new.self) (sym left) (used-removed xs f.place row c.self.inside.usage c.exchange.new.self f.at.within f.is c.exchange.ensures inv.used);
      greatest = subst (IsPriorityBound (rows_in new)) (sym (to_z-of_z fits)) (subst (λ (rows : List Row). IsPriorityBound rows c.greatest_without-self-inside.result) (ap rows_in c.deref-in-Some.ensures.value) c.greatest_without-self-inside.ensures);
    }

pub returns-in-Some-clause-items : goal.returns-in-Some-clause-items
returns-in-Some-clause-items c = c.let_go.ensures.items ∙ kept (goal.at.returns-in-Some-clause-items c).After-remove ∙ ap (λ (v : KeptRows). filter (λ (row : Row). not (is_of c.args.job row)) v.items) c.self.view_is

pub returns-in-None-clause-items : goal.returns-in-None-clause-items
returns-in-None-clause-items c =
    let xs = rows_in c.self.inside.blocks.items in
    subst (λ (v : KeptRows). v.items ≡ filter (λ (row : Row). not (is_of c.args.job row)) v.items) c.self.view_is (sym (filter-others c.args.job xs (all-others c.args.job xs (sym c.in-None.ensures))))

pub row_of-requires : goal.row_of-requires
row_of-requires c = blocks-any c.self.inside.first_seat (length c.self.inside.blocks.items) 0 c.self.inside.blocks.items c.self.invariant.ordered (omega arith)

pub remove-requires : goal.remove-requires
remove-requires c = blocks-any c.self.inside.first_seat (length c.self.inside.blocks.items) 0 c.self.inside.blocks.items c.self.invariant.ordered (omega arith)
