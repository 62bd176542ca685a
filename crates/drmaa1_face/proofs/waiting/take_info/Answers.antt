use Rattle.std.proofs.Common.{[], ◌∷◌}
use Rattle.std.proofs.lemmas.Result.{IfErr-weaker}
use Rattle.drmaa_model.specs.declared.calls.Call.TheVariants as call
use Rattle.drmaa_model.specs.declared.calls.Target.TheVariants as target
use Rattle.drmaa_model.specs.declared.replies.Reply.TheVariants as reply
use Rattle.wait_calls.proofs.Seats.{still-both}
use Rattle.drmaa1_face.specs.FaceEntries.{asks}
use Rattle.drmaa1_face.specs.Steps.Ask.{at_once}
use Rattle.drmaa1_face.proofs.Making.{made-then, halts-then, stops-first}
use Rattle.drmaa1_face.proofs.Lists.{no_info, told-both}
use Rattle.drmaa1_face.proofs.waiting.take_info.Goals as goal

pub returns-in-Ok-clause-desk : goal.returns-in-Ok-clause-desk
returns-in-Ok-clause-desk g c = still-both _ _ _ _ _ _ c.ask_for.ensures.desk c.reap_told.ensures.desk

pub returns-in-Ok-clause-ok : goal.returns-in-Ok-clause-ok
returns-in-Ok-clause-ok g c =
    told-both _ _ c.reap_told.result c.in-Ok.info
    (λ info m. made-then _ _ c.ask_for.ensures.desk.shared_is _ _ _ (asks (call.GetInfo c.args.session c.args.job) (reply.Info c.in-Ok.info) ∷ []) (asks (call.Reap c.args.session (target.Job c.args.job)) reply.Unit ∷ []) c.in-Ok.ensures.ok m)
    c.reap_told.ensures.told c.reap_told.ensures.ok

pub returns-in-Ok-clause-err : goal.returns-in-Ok-clause-err
returns-in-Ok-clause-err g c =
    IfErr-weaker c.reap_told.result _ _ (λ reason h. (
      c.in-Ok.info,
      halts-then _ _ c.ask_for.ensures.desk.shared_is _ _ _ (asks (call.GetInfo c.args.session c.args.job) (reply.Info c.in-Ok.info) ∷ []) [] c.in-Ok.ensures.ok (at_once (call.Reap c.args.session (target.Job c.args.job))) reply.Unit [] reason h,
    )) c.reap_told.ensures.err

pub returns-in-Err-clause-err : goal.returns-in-Err-clause-err
returns-in-Err-clause-err g c =
    (no_info, stops-first _ _ _ (at_once (call.GetInfo c.args.session c.args.job)) (reply.Info no_info) (asks (call.Reap c.args.session (target.Job c.args.job)) reply.Unit ∷ []) c.in-Err.why c.in-Err.ensures.err)
