use Rattle.std.proofs.Common.{◌≡◌, ◌∙◌, ◌+◌, ◌-◌, ◌≤◌, ◌++◌, ℕ, List, Option, None, take, ap, sym, subst, arith}
use Rattle.std.specs.Prelude.{SomeIff}
use Rattle.std.proofs.lemmas.List.Sums.{sum_by-append}
use Rattle.job_template.specs.Texts.{text_length}
use Rattle.drmaa_model.specs.declared.rows.Row.{Row}
use Rattle.drmaa_model.specs.Submitting.{kept_text}
use Rattle.plan_book.specs.Blocks.{rows_in}
use Rattle.plan_book.specs.BlockWalks.{front-more, front-whole}
use Rattle.plan_book.proofs.BlockRows.{front-sum}
use Rattle.plan_book.proofs.block_walks.without_blocks.Goals as goal
use Rattle.plan_book.proofs.block_walks.without_blocks.Goals.{After-without_rows}

-- with one block more
next : (c : After-without_rows) → kept_text (rows_in (take (c.loop-block.block-index + 1) c.args.blocks.now)) ≡ kept_text (rows_in (take c.loop-block.block-index c.args.blocks.now)) + kept_text c.deref.result.now
next c =
    let bs = c.args.blocks.now in
    let i = c.loop-block.block-index in
    let v = c.block-item.result in
    ap kept_text (front-more bs i v c.loop-block-test.true c.block-item.is ∙ ap (λ (xs : List Row). rows_in (take i bs) ++ xs) (sym c.deref.ensures.value))
    ∙ sum_by-append (λ (row : Row). text_length row.template) (rows_in (take i bs)) c.deref.result.now

pub returns-in_err-room : goal.returns-in_err-room
returns-in_err-room c =
    let bs = c.args.blocks.now in
    let i = c.loop-block.block-index in
    let all = kept_text (rows_in bs) in
    let front = front-sum (λ (row : Row). text_length row.template) bs (i + 1) in
    let more = next (goal.at.returns-in_err-room c).After-without_rows in
    let large = c.in_err-room.ensures {u = tt} in
    let none : c.from_residual.result ≡ None = c.from_residual.ensures in
    subst (λ (o : Option ℕ). SomeIff o (all ≤ c.args.room) (c.args.room - all)) (sym none) (λ fits. large (omega (arith, fits, front, more, c.loop-block.invariant)))

pub loop-block-preserved : goal.loop-block-preserved
loop-block-preserved c =
    let more = next (goal.at.loop-block-preserved c).After-without_rows in
    let fits = c.in_ok-room.ensures {u = tt} in
    omega (arith, more, fits.0, fits.1, c.loop-block.invariant)

pub returns : goal.returns
returns c =
    let whole = ap kept_text (front-whole c.args.blocks.now c.loop-block.block-index (omega (arith, c.loop-block-test.false))) in
    (omega (arith, whole, c.loop-block.invariant), omega (arith, whole, c.loop-block.invariant))
