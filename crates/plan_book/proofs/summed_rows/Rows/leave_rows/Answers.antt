use Rattle.std.proofs.Common.{◌≡◌, ◌∙◌, ◌++◌, ◌<◌, ℕ, List, get_or, map, take, drop, length, ap, refl, subst, sym}
use Rattle.std.specs.Global.{Vec}
use Rattle.drmaa_model.specs.declared.rows.Row.{Row}
use Rattle.drmaa_model.specs.Effects.{left_by}
use Rattle.drmaa_model.specs.Submitting.{kept_text}
use Rattle.plan_book.specs.Blocks.{AreBlocks, KeptRows, rows_in}
use Rattle.plan_book.specs.Open.{IsPriorityBound}
use Rattle.plan_book.specs.Spans.{AreSpanned}
use Rattle.plan_book.specs.Sums.{AreSums, AreRows}
use Rattle.plan_book.specs.Usage.{AreUsed}
use Rattle.plan_book.proofs.BlockRows.{each-mapped, settled-mapped, whole-mapped, written-all}
use Rattle.plan_book.proofs.OpenLaws.{greatest-map}
use Rattle.plan_book.proofs.SpanLaws.{spanned-left}
use Rattle.plan_book.proofs.SumLaws.{sums-map}
use Rattle.plan_book.proofs.TextLaws.{same-room, text-map}
use Rattle.plan_book.proofs.UsageLaws.{used-homeless}
use Rattle.plan_book.proofs.summed_rows.Rows.leave_rows.Goals as goal
use Rattle.plan_book.proofs.summed_rows.Rows.leave_rows.Goals.{After-leave_rows}

-- the blocks then
record Then (c : After-leave_rows) : Type 0 where
  pub written : take c.self.inside.blocks.len (c.leave_rows.new.blocks ++ drop (length c.leave_rows.new.blocks) c.self.inside.blocks.items) ≡ c.leave_rows.new.blocks
  pub len : length c.leave_rows.new.blocks ≡ length c.self.inside.blocks.items
  pub each : (n : ℕ) → rows_in (take n c.leave_rows.new.blocks) ≡ map (λ (row : Row). record row { home = left_by c.args.home row.home }) (rows_in (take n c.self.inside.blocks.items))

then : (c : After-leave_rows) → Then c
then c =
    let f : Row → Row = λ (row : Row). record row { home = left_by c.args.home row.home } in
    let old = c.self.inside.blocks.items in
    let new = c.leave_rows.new.blocks in
    let seen : c.deref_mut.result.now ≡ old = c.deref_mut.ensures.value in
    let len : length new ≡ length old = c.leave_rows.ensures.len ∙ ap (λ (bs : List (Vec Row)). length bs) seen in
    record {
      written = written-all c.self.inside.blocks new len;
      len = len;
      each = each-mapped f old new len (subst (λ (bs : List (Vec Row)). (j : ℕ) (d : Vec Row) → j < length bs → (get_or new j d).items ≡ map f (get_or bs j d).items) seen c.leave_rows.ensures.each);
    }

pub invariant_of-self : goal.invariant_of-self
invariant_of-self c =
    let t = then (goal.at.invariant_of-self c).After-leave_rows in
    let f : Row → Row = λ (row : Row). record row { home = left_by c.args.home row.home } in
    let old = c.self.inside.blocks.items in
    let new = c.leave_rows.new.blocks in
    let was = rows_in old in
    let inv = c.self.invariant in
    let is : rows_in new ≡ map f was = whole-mapped f old new t.len t.each in
    subst (λ (bs : List (Vec Row)). AreRows bs c.self.inside.first_seat c.self.inside.sums c.self.inside.room c.self.inside.settled c.self.inside.greatest c.self.inside.spans c.self.inside.usage) (sym t.written) (record {
      ordered = c.leave_rows.ensures.are c.self.inside.first_seat 0 (subst (AreBlocks c.self.inside.first_seat 0) (sym c.deref_mut.ensures.value) inv.ordered);
      totals = subst (λ (rows : List Row). AreSums rows c.self.inside.sums) (sym is) (sums-map f (λ row. refl) was c.self.inside.sums inv.totals);
      text = same-room (kept_text was) (kept_text (rows_in new)) c.self.inside.room (ap kept_text is ∙ text-map f (λ row. refl) was) inv.text;
      settled = settled-mapped f c.self.inside.settled old new (λ row settled. settled) t.len (t.each c.self.inside.settled) inv.settled;
      greatest = subst (λ (rows : List Row). IsPriorityBound rows c.self.inside.greatest) (sym is) (greatest-map f (λ row. refl) was c.self.inside.greatest inv.greatest);
      members = subst (λ (rows : List Row). AreSpanned rows c.self.inside.spans) (sym is) (spanned-left c.args.home was c.self.inside.spans inv.members);
      used = subst (λ (rows : List Row). AreUsed rows c.self.inside.usage) (sym is) (used-homeless c.args.home was c.self.inside.usage inv.used);
    })

pub returns-clause-items : goal.returns-clause-items
returns-clause-items c =
    let t = then (goal.at.returns-clause-items c).After-leave_rows in
    let f : Row → Row = λ (row : Row). record row { home = left_by c.args.home row.home } in
    ap rows_in t.written ∙ whole-mapped f c.self.inside.blocks.items c.leave_rows.new.blocks t.len t.each ∙ ap (λ (v : KeptRows). map f v.items) c.self.view_is
