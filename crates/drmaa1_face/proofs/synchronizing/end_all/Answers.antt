use Rattle.std.proofs.lemmas.Result.{IfOk-weaker, IfErr-weaker}
use Rattle.wait_calls.proofs.Seats.{still-both}
use Rattle.drmaa1_face.specs.FaceEntries.{waits_of, disposing}
use Rattle.drmaa1_face.proofs.Making.{made-then, stops-then, stops-before}
use Rattle.drmaa1_face.proofs.synchronizing.end_all.Goals as goal

pub returns-in-Ok-clause-desk : goal.returns-in-Ok-clause-desk
returns-in-Ok-clause-desk g c = still-both _ _ _ _ _ _ c.wait_for_each.ensures.desk c.dispose_of.ensures.desk

pub returns-in-Ok-clause-ok : goal.returns-in-Ok-clause-ok
returns-in-Ok-clause-ok g c =
    let p = c.in-Ok.ensures.ok in
    IfOk-weaker c.dispose_of.result _ _ (λ told m. (
      p.0,
      p.1,
      made-then _ _ c.wait_for_each.ensures.desk.shared_is _ _ _ (waits_of c.args.session c.args.timeout c.args.first p.0) (disposing c.args.session c.args.dispose c.args.jobs.now) p.2 m,
    )) c.dispose_of.ensures.ok

pub returns-in-Ok-clause-err : goal.returns-in-Ok-clause-err
returns-in-Ok-clause-err g c =
    let p = c.in-Ok.ensures.ok in
    IfErr-weaker c.dispose_of.result _ _ (λ reason s. (
      p.0,
      p.1,
      stops-then _ _ c.wait_for_each.ensures.desk.shared_is _ _ _ (waits_of c.args.session c.args.timeout c.args.first p.0) (disposing c.args.session c.args.dispose c.args.jobs.now) p.2 reason s,
    )) c.dispose_of.ensures.err

pub returns-in-Ok-clause-late : goal.returns-in-Ok-clause-late
returns-in-Ok-clause-late g c low is = absurd (c.dispose_of.ensures.timely is)

pub returns-in-Err-clause-err : goal.returns-in-Err-clause-err
returns-in-Err-clause-err g c =
    let p = c.in-Err.ensures.err in
    (p.0, p.1, stops-before _ _ _ (waits_of c.args.session c.args.timeout c.args.first p.0) (disposing c.args.session c.args.dispose c.args.jobs.now) c.in-Err.why p.2)

pub returns-in-Err-clause-late : goal.returns-in-Err-clause-late
returns-in-Err-clause-late g c low is = c.wait_for_each.ensures.late low (cc)
