use Rattle.std.proofs.Common.{refl}
use Rattle.std.proofs.lemmas.Result.{IfOk-weaker, IfErr-weaker}
use Rattle.wait_calls.proofs.Seats.{still-both}
use Rattle.drmaa1_face.specs.FaceEntries.{listing, waits_for}
use Rattle.drmaa1_face.specs.FaceEntries.FaceCall.{wait}
use Rattle.drmaa1_face.proofs.Making.{made-then, stops-then}
use Rattle.drmaa1_face.proofs.Stopped.{listed-stops}
use Rattle.drmaa1_face.proofs.waiting.wait_in.Goals as goal

pub returns-in-Ok-clause-desk : goal.returns-in-Ok-clause-desk
returns-in-Ok-clause-desk g c = still-both _ _ _ _ _ _ c.listed.ensures.desk c.wait_for_any.ensures.desk

pub returns-in-Ok-clause-ok : goal.returns-in-Ok-clause-ok
returns-in-Ok-clause-ok g c =
    IfOk-weaker c.wait_for_any.result _ _ (λ info p. (
      wait c.args.job c.args.timeout c.in-Ok.jobs p.0 p.1 info,
      (c.in-Ok.jobs, p.0, p.1, c.in-Ok.ensures.ok.0, refl),
      made-then _ _ c.listed.ensures.desk.shared_is _ _ _ (listing c.args.session c.args.job c.in-Ok.jobs) (waits_for c.args.session c.in-Ok.jobs c.args.timeout p.0 p.1 info) c.in-Ok.ensures.ok.1 p.2,
    )) c.wait_for_any.ensures.ok

pub returns-in-Ok-clause-err : goal.returns-in-Ok-clause-err
returns-in-Ok-clause-err g c =
    IfErr-weaker c.wait_for_any.result _ _ (λ reason p. (
      p.2,
      wait c.args.job c.args.timeout c.in-Ok.jobs p.0 p.1 p.2,
      (c.in-Ok.jobs, p.0, p.1, c.in-Ok.ensures.ok.0, refl),
      stops-then _ _ c.listed.ensures.desk.shared_is _ _ _ (listing c.args.session c.args.job c.in-Ok.jobs) (waits_for c.args.session c.in-Ok.jobs c.args.timeout p.0 p.1 p.2) c.in-Ok.ensures.ok.1 reason p.3,
    )) c.wait_for_any.ensures.err

pub returns-in-Err-clause-err : goal.returns-in-Err-clause-err
returns-in-Err-clause-err g c = listed-stops _ _ _ c.args.session c.args.job c.args.timeout c.in-Err.why (c.in-Err.ensures.err c.args.timeout)
