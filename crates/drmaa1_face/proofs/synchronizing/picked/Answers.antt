use Rattle.std.proofs.Common.{refl, []}
use Rattle.std.proofs.lemmas.Result.{IfOk-weaker, IfErr-weaker}
use Rattle.drmaa_model.specs.declared.calls.Call.TheVariants as call
use Rattle.drmaa_model.specs.declared.replies.Reply.TheVariants as reply
use Rattle.drmaa_types.specs.Filters.{all as every_job}
use Rattle.wait_calls.proofs.Seats.{still-same}
use Rattle.drmaa1_face.specs.Steps.Ask.{at_once}
use Rattle.drmaa1_face.proofs.Making.{made-none, stops-first}
use Rattle.drmaa1_face.proofs.synchronizing.picked.Goals as goal

pub returns-in-All-clause-ok : goal.returns-in-All-clause-ok
returns-in-All-clause-ok g c = rw c.in-All.is (IfOk-weaker c.every_job.result _ _ (λ jobs m. (tt, m)) c.every_job.ensures.ok)

pub returns-in-All-clause-err : goal.returns-in-All-clause-err
returns-in-All-clause-err g c =
    rw c.in-All.is (IfErr-weaker c.every_job.result _ _ (λ reason h jobs. (tt, stops-first _ _ _ (at_once (call.GetJobs c.args.session every_job)) (reply.Jobs jobs) [] reason h)) c.every_job.ensures.err)

pub returns-in-These-clause-desk : goal.returns-in-These-clause-desk
returns-in-These-clause-desk g c = still-same _ _ c.requires

pub returns-in-These-clause-ok : goal.returns-in-These-clause-ok
returns-in-These-clause-ok g c = rw c.in-These.is (refl, made-none _ _)
