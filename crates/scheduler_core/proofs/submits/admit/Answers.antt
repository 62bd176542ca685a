use Rattle.std.proofs.Common.{◌≡◌, ℕ, ◌+◌, ◌≤◌, inl, sym, ◌∙◌, ap, subst, arith}
use Rattle.drmaa_types.specs.declared.refusals.Refusal.TheVariants.{OutOfResource}
use Rattle.drmaa_types.specs.declared.refusals.Limit.TheVariants.{KeptText}
use Rattle.drmaa_model.specs.Fit.{IsFit}
use Rattle.drmaa_model.specs.FitLaws.{advance-fit}
use Rattle.drmaa_model.specs.Submitting.{kept_text, new_text, members, most_kept_text, submit}
use Rattle.plan_book.specs.Book.{plan_of, joined}
use Rattle.scheduler_core.specs.declared.batches.Batch.{Batch}
use Rattle.scheduler_core.specs.Batches.{batch_rows, batch_members, told_of}
use Rattle.plan_book.specs.MeetLaws.{refused-meets}
use Rattle.plan_book.specs.Occasions.{plan_at}
use Rattle.scheduler_core.proofs.SubmitSteps.{MayJoin, may-join, submitted-rows, submitted-text, text-then, text-refuses, joined-ok, joined-err}
use Rattle.scheduler_core.proofs.submits.admit.Goals as goal
use Rattle.scheduler_core.proofs.submits.admit.Goals.{After-rows_of, In-Ok}

-- the text that the templates would have
text : (c : After-rows_of) → let q = plan_at c.args.occasion (plan_of c.args.book.now) in
    kept_text c.args.book.now.rows.items + new_text (batch_members c.batch_of-batch.result c.args.template c.args.indices)
    ≡ kept_text q.rows + new_text (members c.args.template c.args.indices q)
text c =
    let p = plan_of c.args.book.now in
    let q = plan_at c.args.occasion p in
    let t = c.args.template in
    let old = text-then c.args.occasion.entry c.args.occasion.at p in
    let new : new_text (batch_members c.batch_of-batch.result t c.args.indices) ≡ new_text (members t c.args.indices q) =
    ap (λ (b : Batch). new_text (batch_members b t c.args.indices)) c.batch_of-batch.ensures ∙ submitted-text c.args.home q t c.args.indices in
    omega (arith, old, new)

-- the rows may come in
joins : (c : In-Ok) → MayJoin c.args.home c.args.template c.args.indices c.args.occasion.entry (plan_at c.args.occasion (plan_of c.args.book.now)) c.in-Ok.rows.items
joins c =
    let p = plan_of c.args.book.now in
    let q = plan_at c.args.occasion p in
    let t = c.args.template in
    may-join c.args.home t c.args.indices c.args.occasion.entry q c.in-Ok.rows.items (advance-fit c.args.occasion.entry c.args.occasion.at p c.requires.book.fit) c.requires.free
    (subst (λ (n : ℕ). n ≤ most_kept_text) (text c.before) (c.in-Ok.ensures {u = tt}).fits)
    ((c.in-Ok.ensures {u = tt}).rows ∙ ap (λ (b : Batch). batch_rows p.queues b b.first (batch_members b t c.args.indices)) c.batch_of-batch.ensures ∙ submitted-rows c.args.home q t c.args.indices)

pub push_rows-requires-clause-few : goal.push_rows-requires-clause-few
push_rows-requires-clause-few c = (let may = joins c.before.before in let count = may.count in let few = may.few in omega (arith, count, few))

pub push_rows-requires-clause-waits : goal.push_rows-requires-clause-waits
push_rows-requires-clause-waits c = (joins c.before.before).waits

pub push_rows-requires-clause-fit : goal.push_rows-requires-clause-fit
push_rows-requires-clause-fit c =
    subst (λ (n : ℕ). IsFit (joined c.in-Ok.rows.items n (plan_at c.args.occasion (plan_of c.args.book.now)))) (sym c.arrays_used.ensures) (joins c.before.before).fit

pub returns-in-Ok-push_rows-clause-meets : goal.returns-in-Ok-push_rows-clause-meets
returns-in-Ok-push_rows-clause-meets c =
    inl (joined-ok c.args.home c.args.template c.args.indices c.args.occasion c.arrays_used.result (plan_of c.args.book.now) (plan_of c.push_rows.new.self) c.in-Ok.rows.items c.push_rows.result
    (joins c.before.before.before.before.before.before) c.arrays_used.ensures c.push_rows.ensures.meets c.told_of.result c.in-Ok-push_rows.field-0
    (c.told_of.ensures ∙ ap (λ (b : Batch). told_of b c.args.indices) c.batch_of-batch.ensures) c.in-Ok-push_rows.is)

pub returns-in-Ok-push_rows-clause-spare : goal.returns-in-Ok-push_rows-clause-spare
returns-in-Ok-push_rows-clause-spare c =
    (let may = joins c.before.before.before.before.before.before in let count = may.count in let used = c.push_rows.ensures.spare in omega (arith, count, used))

pub returns-in-Err-clause-meets : goal.returns-in-Err-clause-meets
returns-in-Err-clause-meets c =
    inl (joined-err c.args.home c.args.template c.args.indices c.args.occasion c.arrays_used.result (plan_of c.args.book.now) (plan_of c.push_rows.new.self) c.in-Ok.rows.items c.push_rows.result
    (joins c.before.before.before.before) c.arrays_used.ensures c.push_rows.ensures.meets c.in-Err.fault c.in-Err.is)

pub returns-in-Err-clause-spare : goal.returns-in-Err-clause-spare
returns-in-Err-clause-spare c =
    (let may = joins c.before.before.before.before in let count = may.count in let used = c.push_rows.ensures.spare in omega (arith, count, used))

pub returns-in-Err-TooMuchText-clause-meets : goal.returns-in-Err-TooMuchText-clause-meets
returns-in-Err-TooMuchText-clause-meets c =
    let q = plan_at c.args.occasion (plan_of c.args.book.now) in
    let t = c.args.template in
    let above = (c.in-Err-TooMuchText.ensures {u = tt}).err c.in-Err-TooMuchText.field-0-is in
    inl (refused-meets (submit c.args.home t c.args.indices) c.args.occasion (plan_of c.args.book.now) (plan_of c.refuse.new.self) (OutOfResource KeptText) c.refuse.result
    (text-refuses c.args.home t c.args.indices q c.requires.free (let same = text c.before.before.before in omega (arith, above, same)))
    c.refuse.ensures.meets)
