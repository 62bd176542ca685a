use Rattle.std.proofs.Common.{length, ◌≡◌, ◌∙◌, List, Some, true, map, take, ap, sym, subst, arith}
use Rattle.std.specs.List.{AllByRecursion}
use Rattle.drmaa_model.specs.declared.rows.Row.{Row}
use Rattle.drmaa_model.specs.Rows.{row_of, with_course}
use Rattle.drmaa_model.specs.Submitting.{kept_text}
use Rattle.plan_book.specs.declared.sums.Sums.{Sums}
use Rattle.plan_book.specs.Blocks.{AreFrontSettled, KeptRows, rows_in}
use Rattle.plan_book.specs.Open.{IsPriorityBound}
use Rattle.plan_book.specs.Settled.{is_settled}
use Rattle.plan_book.specs.Spans.{AreSpanned}
use Rattle.plan_book.specs.Sums.{AreSums}
use Rattle.plan_book.specs.Usage.{AreUsed}
use Rattle.plan_book.proofs.BlockRows.{blocks-any, all-others, blocks-few, front-fewer, front-others, map-others, rising-in, whole-mapped}
use Rattle.plan_book.proofs.OpenLaws.{greatest-course}
use Rattle.plan_book.proofs.SpanLaws.{spanned-course}
use Rattle.plan_book.proofs.SumLaws.{sums-few, sums-parts, sums-change}
use Rattle.plan_book.proofs.TextLaws.{same-room, text-course}
use Rattle.plan_book.proofs.UsageLaws.{used-course}
use Rattle.plan_book.proofs.summed_rows.Rows.put_course.Goals as goal

pub going_on-self-inside-requires-clause-few : goal.going_on-self-inside-requires-clause-few
going_on-self-inside-requires-clause-few c =
    let v = c.self.inside.blocks in
    sums-few (rows_in v.items) c.self.inside.sums (omega (arith, blocks-few _ 0 v.items c.self.invariant.ordered, v.ok.0, v.ok.1, v.small)) c.self.invariant.totals

pub going_on-self-inside-requires-clause-parts : goal.going_on-self-inside-requires-clause-parts
going_on-self-inside-requires-clause-parts c =
    let old = c.self.inside.blocks.items in
    sums-parts c.args.job c.args.course.now (rows_in old) c.in-Some.row.now c.self.inside.sums (rising-in _ 0 old c.self.invariant.ordered) (sym c.in-Some.ensures) c.self.invariant.totals

pub settled_from-self-inside-requires : goal.settled_from-self-inside-requires
settled_from-self-inside-requires c =
    let old = c.self.inside.blocks.items in
    let new = c.put_course.new.blocks.items in
    let n = c.min.result in
    let job = c.args.job in
    let fewer : AreFrontSettled n old = front-fewer old c.self.inside.settled n (omega (arith, c.min.ensures)) c.self.invariant.settled in
    let others = front-others _ job n 0 old c.self.invariant.ordered (omega (arith, c.min.ensures, c.block_of.ensures)) in
    let same : rows_in (take n new) ≡ rows_in (take n old) = c.put_course.ensures.rows n ∙ map-others job c.args.course.now (rows_in (take n old)) others in
    subst (AreFrontSettled n) (sym c.deref.ensures.value) (record { within = omega (arith, fewer.within, c.put_course.ensures.len); settled = subst (AllByRecursion (λ (row : Row). is_settled row ≡ true)) (sym same) fewer.settled })

pub invariant_of-self : goal.invariant_of-self
invariant_of-self c =
    let old = c.self.inside.blocks.items in
    let new = c.put_course.new.blocks.items in
    let xs = rows_in old in
    let row = c.in-Some.row.now in
    let job = c.args.job in
    let course = c.args.course.now in
    let inv = c.self.invariant in
    let rising = rising-in _ 0 old inv.ordered in
    let there : row_of job xs ≡ Some row = sym c.in-Some.ensures in
    let is : rows_in new ≡ map (with_course job course) xs = whole-mapped (with_course job course) old new c.put_course.ensures.len c.put_course.ensures.rows in
    record {
      ordered = c.put_course.ensures.are c.self.inside.first_seat c.self.invariant.ordered;
      totals = subst (λ (rows : List Row). AreSums rows c.going_on-self-inside.result) (sym is)
          (subst (λ (sums : Sums). AreSums (map (with_course job course) xs) sums) (sym c.going_on-self-inside.ensures.value)
          (sums-change job course xs row c.self.inside.sums rising there inv.totals c.going_on-self-inside.ensures.small));
      settled = subst (AreFrontSettled c.settled_from-self-inside.result) c.deref.ensures.value c.settled_from-self-inside.ensures.settled;
      members = subst (λ (rows : List Row). AreSpanned rows c.self.inside.spans) (sym is) (spanned-course job course xs c.self.inside.spans inv.members);
      used = subst (λ (rows : List Row). AreUsed rows c.exchange.new.self) (sym is) (used-course job course xs row c.self.inside.usage c.exchange.new.self rising there c.exchange.ensures inv.used);
      greatest = subst (λ (rows : List Row). IsPriorityBound rows c.self.inside.greatest) (sym is) (greatest-course job course xs c.self.inside.greatest inv.greatest);
      text = same-room (kept_text xs) (kept_text (rows_in new)) c.self.inside.room (ap kept_text is ∙ text-course job course xs) inv.text;
    }

pub returns-in-Some-clause-items : goal.returns-in-Some-clause-items
returns-in-Some-clause-items c =
    let f = with_course c.args.job c.args.course.now in
    whole-mapped f c.self.inside.blocks.items c.put_course.new.blocks.items c.put_course.ensures.len c.put_course.ensures.rows ∙ ap (λ (v : KeptRows). map f v.items) c.self.view_is

pub returns-in-None-clause-items : goal.returns-in-None-clause-items
returns-in-None-clause-items c =
    let f = with_course c.args.job c.args.course.now in
    let xs = rows_in c.self.inside.blocks.items in
    subst (λ (v : KeptRows). v.items ≡ map f v.items) c.self.view_is (sym (map-others c.args.job c.args.course.now xs (all-others c.args.job xs (sym c.in-None.ensures))))

pub row_of-requires : goal.row_of-requires
row_of-requires c = blocks-any c.self.inside.first_seat (length c.self.inside.blocks.items) 0 c.self.inside.blocks.items c.self.invariant.ordered (omega arith)

pub put_course-requires : goal.put_course-requires
put_course-requires c = blocks-any c.self.inside.first_seat (length c.self.inside.blocks.items) 0 c.self.inside.blocks.items c.self.invariant.ordered (omega arith)
