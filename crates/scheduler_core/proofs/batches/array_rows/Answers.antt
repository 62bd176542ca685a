use Rattle.std.proofs.Common.{◌<◌, Bool, cond, not, ◌++◌, ◌∷◌, [], ◌∙◌, ap, arith}
use Rattle.drmaa_model.specs.declared.rows.Row.{Row}
use Rattle.drmaa_model.specs.Submitting.{index_count, new_text}
use Rattle.scheduler_core.specs.Batches.{batch_rows, members_from}
use Rattle.scheduler_core.proofs.BatchLaws.{rows-more, text-over, text-left}
use Rattle.scheduler_core.proofs.batches.array_rows.Goals as goal

pub returns-in_default-without_row-clause-err : goal.returns-in_default-without_row-clause-err
returns-in_default-without_row-clause-err c = λ too_much. (
    let i = c.args.i.now in
    let less : c.loop-place.place < index_count i = omega arith in
    text-over c.args.queues.now c.args.b.now c.args.t.now i (index_count i) c.loop-place.place c.loop-place.room c.args.room
    (new_text (members_from c.args.b.now c.args.t.now i i.begin (index_count i))) c.in_ok-row.row less (c.in_ok-row.ensures {u = tt}).row c.in_default-without_row.ensures c.loop-place.invariant.text)

pub loop-place-preserved : goal.loop-place-preserved
loop-place-preserved c =
    let i = c.args.i.now in
    let less : c.loop-place.place < index_count i = omega arith in
    let row = (c.in_ok-row.ensures {u = tt}).row in
    record {
      rows = rows-more c.args.queues.now c.args.b.now c.args.t.now i (index_count i) c.loop-place.place c.loop-place.rows.items c.push.new.self.items
          (batch_rows c.args.queues.now c.args.b.now c.args.b.now.first (members_from c.args.b.now c.args.t.now i i.begin (index_count i))) less
          (c.push.ensures.items
          ∙ ap (λ (b : Bool). cond b (c.loop-place.rows.items ++ c.in_ok-row.row ∷ []) c.loop-place.rows.items) (c.is_err.ensures.negation ∙ ap not c.if-is_err.false)
          ∙ ap (λ (r : Row). c.loop-place.rows.items ++ r ∷ []) row) c.loop-place.invariant.rows;
      text = text-left c.args.queues.now c.args.b.now c.args.t.now i (index_count i) c.loop-place.place c.loop-place.room c.in-Some.left c.args.room
          (new_text (members_from c.args.b.now c.args.t.now i i.begin (index_count i))) c.in_ok-row.row less row c.in-Some.ensures c.loop-place.invariant.text;
    }
