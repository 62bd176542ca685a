use Rattle.std.proofs.Common.{◌≡◌, ◌∙◌, ◌++◌, ◌-◌, true, List, take, drop, length, ap, subst, sym}
use Rattle.std.proofs.lemmas.List.{take_rest}
use Rattle.drmaa_model.specs.declared.rows.Row.{Row}
use Rattle.drmaa_model.specs.RowLaws.{all-implied}
use Rattle.plan_book.specs.Blocks.{KeptRows, rows_in}
use Rattle.plan_book.specs.Open.{AreOpen, is_over}
use Rattle.plan_book.specs.Settled.{is_settled}
use Rattle.plan_book.specs.BlockWalks.{both-parts}
use Rattle.plan_book.proofs.SettledLaws.{settled-over}
use Rattle.plan_book.proofs.summed_rows.Rows.open_blocks.Goals as goal

pub returns : goal.returns
returns c =
    let blocks = c.self.inside.blocks.items in
    let xs = c.deref.result.now in
    let n = c.self.inside.settled in
    let rest = take (length xs - n) (drop n xs) in
    let same : rows_in (drop n blocks) ≡ rows_in rest = ap rows_in (ap (drop n) (sym c.deref.ensures.value) ∙ sym (take_rest xs n)) in
    let are : AreOpen (rows_in blocks) (rows_in rest) = record {
      front = rows_in (take n blocks);
      over = all-implied (λ (row : Row). is_settled row ≡ true) (λ (row : Row). is_over row ≡ true) settled-over (rows_in (take n blocks)) c.self.invariant.settled.settled;
      parts = both-parts blocks n ∙ ap (λ (rows : List Row). rows_in (take n blocks) ++ rows) same;
    } in
    subst (λ (v : KeptRows). AreOpen v.items (rows_in rest)) c.self.view_is are
