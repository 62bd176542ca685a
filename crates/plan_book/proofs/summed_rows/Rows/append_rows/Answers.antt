use Rattle.std.proofs.Common.{rules, FitsSigned, ◌≡◌, ◌+◌, ◌++◌, ◌<◌, ◌≤◌, ◌∙◌, List, true, take, length, ap, sym, subst, arith, to_z-of_z, w32}
use Rattle.std.proofs.lemmas.List.Sums.{sum_by-append}
use Rattle.std.specs.Global.{Vec}
use Rattle.std.specs.List.{AllByRecursion}
use Rattle.job_template.specs.Texts.{text_length}
use Rattle.drmaa_model.specs.declared.rows.Row.{Row}
use Rattle.drmaa_model.specs.Fit.{IsRising, number_of}
use Rattle.drmaa_model.specs.RowLaws.{all-implied}
use Rattle.drmaa_model.specs.Submitting.{kept_text}
use Rattle.plan_book.specs.declared.sums.Sums.{Sums}
use Rattle.plan_book.specs.Blocks.{AreBlocks, AreFrontSettled, IsInside, KeptRows, rows_in}
use Rattle.plan_book.specs.Open.{IsPriorityBound}
use Rattle.plan_book.specs.Quiet.{block_of}
use Rattle.plan_book.specs.Settled.{is_settled}
use Rattle.plan_book.specs.Spans.{AreSpanned, IsSpanned}
use Rattle.plan_book.specs.Sums.{AreSums}
use Rattle.plan_book.specs.Usage.{AreUsed}
use Rattle.plan_book.proofs.BlockRows.{blocks-few, blocks-later, front-fewer}
use Rattle.plan_book.proofs.SpanLaws.{spanned-append}
use Rattle.plan_book.proofs.SumLaws.{sums-few, sums-append}
use Rattle.plan_book.proofs.TextLaws.{same-room}
use Rattle.plan_book.proofs.summed_rows.Rows.append_rows.Goals as goal

pub put_rows-requires : goal.put_rows-requires
put_rows-requires c = c.self.invariant.members.sorted

pub with_others-self-inside-requires-clause-few : goal.with_others-self-inside-requires-clause-few
with_others-self-inside-requires-clause-few c =
    let v = c.self.inside.blocks in
    sums-few (rows_in v.items) c.self.inside.sums (omega (arith, blocks-few _ 0 v.items c.self.invariant.ordered, v.ok.0, v.ok.1, v.small)) c.self.invariant.totals

pub with_others-self-inside-requires-clause-few_others : goal.with_others-self-inside-requires-clause-few_others
with_others-self-inside-requires-clause-few_others c =
    let vec = c.args.more in
    sums-few vec.items c.sums_of.result (omega (arith, vec.ok.0, vec.ok.1, vec.small)) (subst (λ (rows : List Row). AreSums rows c.sums_of.result) c.deref.ensures.value c.sums_of.ensures)

pub append-requires-clause-room : goal.append-requires-clause-room
append-requires-clause-room c =
    let seats = c.args.self.now.seats in
    all-implied (λ (row : Row). IsInside seats (block_of row.job.0)) (λ (row : Row). block_of row.job.0 < length c.self.inside.blocks.items)
    (λ row inside. (let below = inside.1 in omega (arith, below, ap (λ (v : KeptRows). v.seats.until) c.self.view_is))) c.args.more.items c.requires.room

pub append-requires-clause-are : goal.append-requires-clause-are
append-requires-clause-are c =
    let seats = c.args.self.now.seats in
    let blocks = c.self.inside.blocks.items in
    all-implied (λ (row : Row). IsInside seats (block_of row.job.0)) (λ (row : Row). AreBlocks (block_of row.job.0) 0 blocks)
    (λ row inside. (let above = inside.0 in blocks-later (block_of row.job.0) 0 blocks c.self.invariant.ordered (omega (arith, above, ap (λ (v : KeptRows). v.seats.from) c.self.view_is)))) c.args.more.items c.requires.room

pub append-requires-clause-rising : goal.append-requires-clause-rising
append-requires-clause-rising c = subst (λ (v : KeptRows). IsRising number_of (v.items ++ c.args.more.items)) (sym c.self.view_is) c.requires.rising

pub invariant_of-self : goal.invariant_of-self
invariant_of-self c =
    let old = c.self.inside.blocks.items in
    let new = c.append.new.blocks.items in
    let xs = rows_in old in
    let more = c.args.more.items in
    let inv = c.self.invariant in
    let is : rows_in new ≡ xs ++ more = c.append.ensures.rows in
    let n = c.first_block-self-inside.result in
    let fewer : AreFrontSettled n old = front-fewer old c.self.inside.settled n c.first_block-self-inside.ensures.less inv.settled in
    let same : take n new ≡ take n old = c.append.ensures.front n (subst (AllByRecursion (λ (row : Row). n ≤ block_of row.job.0)) c.deref-4.ensures.value c.first_block-self-inside.ensures.before) in
    let fits : FitsSigned w32 c.self.inside.greatest = search rules in
    let now_fits : FitsSigned w32 c.greatest_with-self-inside.result = search rules in
    record {
      ordered = c.append.ensures.are c.self.inside.first_seat c.self.invariant.ordered;
      totals = subst (λ (rows : List Row). AreSums rows c.with_others-self-inside.result) (sym is)
          (subst (λ (sums : Sums). AreSums (xs ++ more) sums) (sym c.with_others-self-inside.ensures)
          (sums-append xs more c.self.inside.sums c.sums_of.result inv.totals (subst (λ (rows : List Row). AreSums rows c.sums_of.result) c.deref.ensures.value c.sums_of.ensures)));
      settled = record { within = omega (arith, fewer.within, c.append.ensures.len); settled = subst (λ (bs : List (Vec Row)). AllByRecursion (λ (row : Row). is_settled row ≡ true) (rows_in bs)) (sym same) fewer.settled };
      greatest = subst (IsPriorityBound (rows_in new)) (sym (to_z-of_z now_fits))
          (subst (λ (rows : List Row). IsPriorityBound rows c.greatest_with-self-inside.result) (sym is)
          (c.greatest_with-self-inside.ensures xs (subst (IsPriorityBound xs) (sym (to_z-of_z fits)) inv.greatest)));
      text = same-room (kept_text xs + kept_text more) (kept_text (rows_in new)) c.room_with-self-inside.result
          (ap kept_text is ∙ sum_by-append (λ (row : Row). text_length row.template) xs more) (c.room_with-self-inside.ensures (kept_text xs) inv.text);
      members = subst (λ (rows : List Row). AreSpanned rows c.put_rows.new.self) (sym is)
          (spanned-append xs more c.self.inside.spans c.put_rows.new.self inv.members c.put_rows.ensures.sorted c.put_rows.ensures.arrays c.put_rows.ensures.homes
          (subst (AllByRecursion (IsSpanned c.put_rows.new.self)) c.deref-2.ensures.value c.put_rows.ensures.members));
      used = subst (λ (rows : List Row). AreUsed rows c.add_rows.new.self) (sym is) (subst (λ (rows : List Row). AreUsed (xs ++ rows) c.add_rows.new.self) c.deref-3.ensures.value (c.add_rows.ensures xs inv.used));
    }
