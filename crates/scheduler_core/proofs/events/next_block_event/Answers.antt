use Rattle.std.proofs.Common.{◌≡◌, ◌∙◌, ℕ, Option, take, ap, sym, arith}
use Rattle.drmaa_model.specs.Events.{is_row_event}
use Rattle.plan_book.specs.BlockWalks.{front-more, front-whole}
use Rattle.plan_book.specs.Blocks.{rows_in}
use Rattle.scheduler_core.specs.Afters.{earlier, first_row_event}
use Rattle.scheduler_core.proofs.AfterLaws.{after-append, after-none}
use Rattle.scheduler_core.proofs.events.next_block_event.Goals as goal

pub loop-block-init : goal.loop-block-init
loop-block-init c = sym (after-none c.args.after)

pub loop-block-preserved : goal.loop-block-preserved
loop-block-preserved c =
    let after = c.args.after in
    let bs = c.args.blocks.now in
    let i = c.loop-block.block-index in
    let v = c.block-item.result in
    let front = rows_in (take i bs) in
    let here : c.next_row_event.result ≡ first_row_event after v.items = c.next_row_event.ensures ∙ ap (first_row_event after) c.deref.ensures.value in
    c.earlier-best.ensures ∙ ap (λ (b : Option ℕ). earlier b c.next_row_event.result) c.loop-block.invariant ∙ ap (earlier (first_row_event after front)) here
    ∙ sym (after-append after is_row_event front v.items) ∙ ap (first_row_event after) (sym (front-more bs i v c.loop-block-test.true c.block-item.is))

pub returns : goal.returns
returns c = c.loop-block.invariant ∙ ap (first_row_event c.args.after) (front-whole c.args.blocks.now c.loop-block.block-index (omega (arith, c.loop-block-test.false)))
