use Rattle.std.proofs.Common.{refl, [], ◌∙◌, subst, sym, List, ℕ}
use Rattle.std.proofs.lemmas.Result.{IfOk-weaker, IfErr-weaker}
use Rattle.wait_calls.proofs.Seats.{still-both}
use Rattle.drmaa1_face.specs.Answers.{IsPicked}
use Rattle.drmaa1_face.specs.FaceEntries.{picking}
use Rattle.drmaa1_face.specs.FaceEntries.FaceCall.{synchronize}
use Rattle.drmaa1_face.proofs.Whole.{whole-made, whole-stops, picked-stops, late-from, least-behind}
use Rattle.drmaa1_face.proofs.synchronizing.synchronize_in.Goals as goal

pub returns-in-Ok-clause-desk : goal.returns-in-Ok-clause-desk
returns-in-Ok-clause-desk g c = still-both _ _ _ _ _ _ c.picked.ensures.desk c.end_all.ensures.desk

pub returns-in-Ok-clause-ok : goal.returns-in-Ok-clause-ok
returns-in-Ok-clause-ok g c =
    let q = c.in-Ok.ensures.ok in
    IfOk-weaker c.end_all.result _ _ (λ told p. (
      synchronize c.args.pick c.args.timeout c.args.dispose c.now-first.result p.0,
      (c.now-first.result, p.0, subst (λ (l : List ℕ). IsPicked c.args.pick l) (sym (p.1 ∙ c.as_slice.ensures)) q.0, refl),
      whole-made _ _ _ c.args.session c.args.pick c.args.timeout c.args.dispose c.now-first.result (record { told = c.now-first.ensures.given; least = c.now-first.ensures.least; rising = c.now-first.ensures.rising }) refl _ c.picked.ensures.desk.shared_is _ _ p.0 c.in-Ok.jobs (p.1 ∙ c.as_slice.ensures) q.1 (rw c.as_slice.ensures at p.2),
    )) c.end_all.ensures.ok

pub returns-in-Ok-clause-err : goal.returns-in-Ok-clause-err
returns-in-Ok-clause-err g c =
    let q = c.in-Ok.ensures.ok in
    IfErr-weaker c.end_all.result _ _ (λ reason p. (
      synchronize c.args.pick c.args.timeout c.args.dispose c.now-first.result p.0,
      (c.now-first.result, p.0, subst (λ (l : List ℕ). IsPicked c.args.pick l) (sym (p.1 ∙ c.as_slice.ensures)) q.0, refl),
      whole-stops _ _ _ c.args.session c.args.pick c.args.timeout c.args.dispose c.now-first.result (record { told = c.now-first.ensures.given; least = c.now-first.ensures.least; rising = c.now-first.ensures.rising }) refl _ c.picked.ensures.desk.shared_is _ _ p.0 c.in-Ok.jobs reason (p.1 ∙ c.as_slice.ensures) q.1 (rw c.as_slice.ensures at p.2),
    )) c.end_all.ensures.err

pub returns-in-Ok-clause-late : goal.returns-in-Ok-clause-late
returns-in-Ok-clause-late g c is = record {
  first = c.now-first.result;
  clock = _;
  read = (record { told = c.now-first.ensures.given; least = c.now-first.ensures.least; rising = c.now-first.ensures.rising });
  late = late-from _ _ c.picked.ensures.desk.shared_is c.now-first.result c.args.timeout _ _ _ c.picked.ensures.desk.number
      (c.end_all.ensures.late (least-behind _ _ _ (picking c.args.session c.args.pick c.in-Ok.jobs) c.now-first.result c.now-first.ensures.rising c.in-Ok.ensures.ok.1) is);
}

pub returns-in-Err-clause-err : goal.returns-in-Err-clause-err
returns-in-Err-clause-err g c =
    let q = c.in-Err.ensures.err [] in (
      synchronize c.args.pick c.args.timeout c.args.dispose c.now-first.result [],
      (c.now-first.result, [], q.0, refl),
      picked-stops c.args.desk.now.shared.now _ _ c.args.session c.args.pick c.args.timeout c.args.dispose c.now-first.result (record { told = c.now-first.ensures.given; least = c.now-first.ensures.least; rising = c.now-first.ensures.rising }) refl _ c.in-Err.why q.1,
    )

pub returns-in-Err-clause-late : goal.returns-in-Err-clause-late
returns-in-Err-clause-late g c is = absurd (c.picked.ensures.timely (cc))
