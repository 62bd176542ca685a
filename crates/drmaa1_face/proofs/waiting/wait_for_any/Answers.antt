use Rattle.std.proofs.Common.{[], ◌∷◌}
use Rattle.std.proofs.lemmas.Result.{IfOk-weaker, IfErr-weaker}
use Rattle.drmaa_model.specs.declared.replies.Reply.TheVariants as reply
use Rattle.wait_calls.proofs.Seats.{still-both, still-stays}
use Rattle.drmaa1_face.specs.FaceEntries.{takes}
use Rattle.drmaa1_face.specs.Steps.Ask.{waiting}
use Rattle.drmaa1_face.specs.Steps.Step.{enters}
use Rattle.drmaa1_face.proofs.Awaited.{waits-reached, halts-wait}
use Rattle.drmaa1_face.proofs.Making.{made-one, made-then, stops-then, stops-first}
use Rattle.drmaa1_face.proofs.Lists.{no_info}
use Rattle.drmaa1_face.proofs.waiting.wait_for_any.Goals as goal

pub returns-in-Ok-clause-desk : goal.returns-in-Ok-clause-desk
returns-in-Ok-clause-desk g c = still-both _ _ _ _ _ _ (still-stays _ _ _ _ c.wait.ensures.desk c.wait.ensures.begins) c.take_info.ensures.desk

pub returns-in-Ok-clause-ok : goal.returns-in-Ok-clause-ok
returns-in-Ok-clause-ok g c =
    let w = c.in-Ok.ensures.ok in
    IfOk-weaker c.take_info.result _ _ (λ info m. (
      w.begun,
      c.in-Ok.job,
      made-then _ _ c.wait.ensures.desk.shared_is _ _ _ (enters (waiting c.args.session c.args.jobs w.begun c.args.timeout) (reply.Reached c.in-Ok.job) ∷ []) (takes c.args.session c.in-Ok.job info)
          (made-one _ _ _ (waiting c.args.session c.args.jobs w.begun c.args.timeout) (reply.Reached c.in-Ok.job) c.wait.ensures.desk.number (waits-reached _ _ _ c.args.session c.args.jobs c.args.timeout c.in-Ok.job w)) m,
    )) c.take_info.ensures.ok

pub returns-in-Ok-clause-err : goal.returns-in-Ok-clause-err
returns-in-Ok-clause-err g c =
    let w = c.in-Ok.ensures.ok in
    IfErr-weaker c.take_info.result _ _ (λ reason s. (
      w.begun,
      c.in-Ok.job,
      s.0,
      stops-then _ _ c.wait.ensures.desk.shared_is _ _ _ (enters (waiting c.args.session c.args.jobs w.begun c.args.timeout) (reply.Reached c.in-Ok.job) ∷ []) (takes c.args.session c.in-Ok.job s.0)
          (made-one _ _ _ (waiting c.args.session c.args.jobs w.begun c.args.timeout) (reply.Reached c.in-Ok.job) c.wait.ensures.desk.number (waits-reached _ _ _ c.args.session c.args.jobs c.args.timeout c.in-Ok.job w)) reason s.1,
    )) c.take_info.ensures.err

pub returns-in-Err-clause-desk : goal.returns-in-Err-clause-desk
returns-in-Err-clause-desk g c = still-stays _ _ _ _ c.wait.ensures.desk c.wait.ensures.begins

pub returns-in-Err-clause-err : goal.returns-in-Err-clause-err
returns-in-Err-clause-err g c =
    let w = c.in-Err.ensures.err in (
      w.begun,
      record { 0 = 0 },
      no_info,
      stops-first _ _ _ (waiting c.args.session c.args.jobs w.begun c.args.timeout) (reply.Reached (record { 0 = 0 })) (takes c.args.session (record { 0 = 0 }) no_info) c.in-Err.why
          (halts-wait _ _ _ c.args.session c.args.jobs c.args.timeout c.in-Err.why w c.wait.ensures.desk.number),
    )
