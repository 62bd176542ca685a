use Rattle.std.proofs.lemmas.Result.{IfOk-weaker, IfErr-weaker}
use Rattle.drmaa_types.specs.declared.identifiers.JobId.{JobId}
use Rattle.drmaa_model.specs.declared.calls.Call.TheVariants as call
use Rattle.drmaa_model.specs.declared.replies.Reply.TheVariants as reply
use Rattle.drmaa1_face.specs.Steps.Ask.{at_once}
use Rattle.drmaa1_face.proofs.Making.{made-one, halts-asked, still-asked}
use Rattle.drmaa1_face.proofs.asking.ask_to_run.Goals as goal

pub returns-clause-desk : goal.returns-clause-desk
returns-clause-desk g c =
    still-asked c.args.desk.now.shared.now _ _ _ c.args.desk.now.client c.ask_to_run.new.self.client (call.RunJob c.args.session c.args.template) (λ (told : JobId). reply.Job told) c.ask_to_run.result c.ask_to_run.ensures.desk c.ask_to_run.ensures.ok c.ask_to_run.ensures.err

pub returns-clause-ok : goal.returns-clause-ok
returns-clause-ok g c = IfOk-weaker c.ask_to_run.result _ _ (λ told s. made-one _ _ _ (at_once (call.RunJob c.args.session c.args.template)) (reply.Job told) c.ask_to_run.ensures.desk.number s) c.ask_to_run.ensures.ok

pub returns-clause-err : goal.returns-clause-err
returns-clause-err g c = IfErr-weaker c.ask_to_run.result _ _ (λ reason r. halts-asked _ _ _ (call.RunJob c.args.session c.args.template) reason c.ask_to_run.ensures.desk.number r) c.ask_to_run.ensures.err
