use Rattle.std.proofs.Common.{◌≡◌, ◌∙◌, ◌+◌, ◌++◌, ◌&&◌, Bool, List, filter, drop, Some, ap, sym, arith}
use Rattle.std.proofs.lemmas.List.Elements.{filter-append}
use Rattle.std.proofs.lemmas.List.Sums.{sum_by-append}
use Rattle.job_template.specs.Texts.{text_length}
use Rattle.drmaa_model.specs.declared.rows.Row.{Row}
use Rattle.drmaa_model.specs.Controlling.{is_done}
use Rattle.drmaa_model.specs.Submitting.{kept_text}
use Rattle.drmaa_model.specs.Targets.{is_meant}
use Rattle.plan_book.specs.Blocks.{rows_in}
use Rattle.plan_book.specs.BlockWalks.{back-more, back-none}
use Rattle.plan_book.proofs.TextLaws.{same-room}
use Rattle.plan_book.proofs.block_walks.room_without_members.Goals as goal

pub loop-block-preserved : goal.loop-block-preserved
loop-block-preserved c =
    let leaves : Row → Bool = λ (row : Row). is_meant c.args.target.now row && is_done row in
    let bs = c.args.blocks.now in
    let i = c.loop-block.block-index in
    let v = c.block-item.result in
    let here = kept_text (filter leaves c.deref.result.now) in
    let rest = kept_text (filter leaves (rows_in (drop (i + 1) bs))) in
    let both : kept_text (filter leaves (rows_in (drop i bs))) ≡ here + rest =
    ap (λ (xs : List Row). kept_text (filter leaves xs)) (back-more bs i v c.loop-block-test.true c.block-item.is ∙ ap (λ (xs : List Row). xs ++ rows_in (drop (i + 1) bs)) (sym c.deref.ensures.value))
    ∙ ap kept_text (filter-append leaves c.deref.result.now (rows_in (drop (i + 1) bs))) ∙ sum_by-append (λ (row : Row). text_length row.template) (filter leaves c.deref.result.now) (filter leaves (rows_in (drop (i + 1) bs))) in
    let says = c.in_ok-room-2.ensures {u = tt} in
    record {
      text = λ text beside. says.room (text + rest) (same-room (text + kept_text (filter leaves (rows_in (drop i bs)))) (text + rest + here) (Some c.loop-block.room) (omega (arith, both)) (c.loop-block.invariant.text text beside));
      most = says.most;
    }

pub returns : goal.returns
returns c = λ text beside.
    (let leaves : Row → Bool = λ (row : Row). is_meant c.args.target.now row && is_done row in
    let bs = c.args.blocks.now in
    let i = c.loop-block.block-index in
    let none = ap (λ (xs : List Row). kept_text (filter leaves xs)) (back-none bs i (omega (arith, c.loop-block-test.false))) in
    same-room (text + kept_text (filter leaves (rows_in (drop i bs)))) text (Some c.loop-block.room) (omega (arith, none)) (c.loop-block.invariant.text text beside))
