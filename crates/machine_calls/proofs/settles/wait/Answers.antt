use Rattle.std.proofs.Common.{sym, ◌≡◌, ℕ, Bool, true, false, Option, Some, None, refl, ◌∙◌, ap}
use Rattle.drmaa_model.specs.declared.calls.Call.TheVariants as call
use Rattle.drmaa_model.specs.declared.replies.Reply.{Reply}
use Rattle.drmaa_model.specs.AnswerLaws.{served-gives}
use Rattle.drmaa_model.specs.Effects.{makes, not_yet, wait_answer}
use Rattle.drmaa_model.specs.Waiting.{is_timed_out}
use Rattle.drmaa_model.specs.World.{World}
use Rattle.machine_readings.specs.Stores.{world_at}
use Rattle.machine_calls.specs.declared.replies.Replies.{Replies}
use Rattle.machine_calls.specs.Serving.{IsLooked}
use Rattle.machine_calls.specs.Serving.Comes.{waits}
use Rattle.machine_calls.proofs.settles.wait.Goals as goal

pub returns-in-Some-clause-comes : goal.returns-in-Some-clause-comes
returns-in-Some-clause-comes c = c.refuse.ensures.comes (call.Wait c.args.session c.args.jobs.now c.args.kind c.args.begun c.args.timeout) (sym (c.in-Some.ensures {u = tt}))

record Looked (v : World) (job : Option ℕ) (over : Bool) (replies : Replies) : Type 0 where
  told : wait_answer job over v ≡ makes replies.told v
  twice : replies.recorded ≡ replies.told

looked-some : (v : World) (job : Option ℕ) (over : Bool) (replies : Replies) → IsLooked job over (Some replies) → Looked v job over replies
looked-some v (Some job) over replies is = record { told = ap (λ (r : Reply). makes r v) (sym is.told); twice = is.recorded ∙ sym is.told }
looked-some v None true replies is = record { told = ap (λ (r : Reply). makes r v) (sym is.told); twice = is.recorded ∙ sym is.told }
looked-some v None false replies is = absurd (cc)

looked-none : (v : World) (job : Option ℕ) (over : Bool) → IsLooked job over None → wait_answer job over v ≡ not_yet
looked-none v (Some job) over is = absurd is
looked-none v None true is = absurd is
looked-none v None false is = refl

pub settle-requires-clause-twice : goal.settle-requires-clause-twice
settle-requires-clause-twice c = (looked-some (world_at c.args.at c.args.store.now) c.first_reached-job.result c.is_timed_out-over.result c.in-Some-looked.replies (c.in-Some-looked.ensures {u = tt})).twice

pub returns-in-Some-looked-clause-comes : goal.returns-in-Some-looked-clause-comes
returns-in-Some-looked-clause-comes c =
    (let v = world_at c.args.at c.args.store.now in
    let asked = call.Wait c.args.session c.args.jobs.now c.args.kind c.args.begun c.args.timeout in
    c.settle.ensures.comes asked (served-gives c.args.at v asked (sym (c.in-None.ensures {u = tt}))
    ∙ ap (λ o. wait_answer o (is_timed_out c.args.at c.args.begun c.args.timeout) v) (sym c.first_reached-job.ensures)
    ∙ ap (λ b. wait_answer c.first_reached-job.result b v) (sym c.is_timed_out-over.ensures)
    ∙ (looked-some v c.first_reached-job.result c.is_timed_out-over.result c.in-Some-looked.replies (c.in-Some-looked.ensures {u = tt})).told))

pub returns-in-None-looked-clause-comes : goal.returns-in-None-looked-clause-comes
returns-in-None-looked-clause-comes c =
    (let v = world_at c.args.at c.args.store.now in
    let asked = call.Wait c.args.session c.args.jobs.now c.args.kind c.args.begun c.args.timeout in
    waits refl (served-gives c.args.at v asked (sym (c.in-None.ensures {u = tt}))
    ∙ ap (λ o. wait_answer o (is_timed_out c.args.at c.args.begun c.args.timeout) v) (sym c.first_reached-job.ensures)
    ∙ ap (λ b. wait_answer c.first_reached-job.result b v) (sym c.is_timed_out-over.ensures)
    ∙ looked-none v c.first_reached-job.result c.is_timed_out-over.result (c.in-None-looked.ensures {u = tt})) refl)
