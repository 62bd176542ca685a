use Rattle.std.proofs.lemmas.Result.{IfOk-weaker, IfErr-weaker}
use Rattle.wait_calls.proofs.Seats.{still-same}
use Rattle.drmaa1_face.proofs.Awaited.{halts-unasked}
use Rattle.drmaa1_face.proofs.Making.{made-none}
use Rattle.drmaa1_face.proofs.waiting.listed.Goals as goal

pub returns-in-None-clause-ok : goal.returns-in-None-clause-ok
returns-in-None-clause-ok g c = rw c.in-None.is (IfOk-weaker c.every_job.result _ _ (λ jobs m. (tt, m)) c.every_job.ensures.ok)

pub returns-in-None-clause-err : goal.returns-in-None-clause-err
returns-in-None-clause-err g c = rw c.in-None.is (IfErr-weaker c.every_job.result _ _ (λ reason h timeout. h) c.every_job.ensures.err)

pub returns-in-Some-clause-desk : goal.returns-in-Some-clause-desk
returns-in-Some-clause-desk g c = still-same _ _ c.requires

pub returns-in-Some-clause-ok : goal.returns-in-Some-clause-ok
returns-in-Some-clause-ok g c = rw c.in-Some.is (IfOk-weaker c.one_job.result _ _ (λ jobs e. (e, made-none _ _)) c.one_job.ensures.ok)

pub returns-in-Some-clause-err : goal.returns-in-Some-clause-err
returns-in-Some-clause-err g c = rw c.in-Some.is (IfErr-weaker c.one_job.result _ _ (λ reason e timeout. halts-unasked _ _ _ _ 0 timeout reason e) c.one_job.ensures.err)
