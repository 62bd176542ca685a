use Rattle.std.proofs.lemmas.Result.{IfOk-weaker, IfErr-weaker}
use Rattle.call_history.specs.declared.told.JobNumbers.{JobNumbers}
use Rattle.drmaa_model.specs.declared.calls.Call.TheVariants as call
use Rattle.drmaa_model.specs.declared.replies.Reply.TheVariants as reply
use Rattle.drmaa1_face.specs.Steps.Ask.{at_once}
use Rattle.drmaa1_face.proofs.Making.{made-one, halts-asked, still-asked}
use Rattle.drmaa1_face.proofs.asking.ask_for_jobs.Goals as goal

pub returns-clause-desk : goal.returns-clause-desk
returns-clause-desk g c =
    still-asked c.args.desk.now.shared.now _ _ _ c.args.desk.now.client c.ask_for_jobs.new.self.client (call.GetJobs c.args.session c.args.filter) (λ (told : JobNumbers). reply.Jobs told.numbers) c.ask_for_jobs.result c.ask_for_jobs.ensures.desk c.ask_for_jobs.ensures.ok c.ask_for_jobs.ensures.err

pub returns-clause-ok : goal.returns-clause-ok
returns-clause-ok g c = IfOk-weaker c.ask_for_jobs.result _ _ (λ told s. made-one _ _ _ (at_once (call.GetJobs c.args.session c.args.filter)) (reply.Jobs told.numbers) c.ask_for_jobs.ensures.desk.number s) c.ask_for_jobs.ensures.ok

pub returns-clause-err : goal.returns-clause-err
returns-clause-err g c = IfErr-weaker c.ask_for_jobs.result _ _ (λ reason r. halts-asked _ _ _ (call.GetJobs c.args.session c.args.filter) reason c.ask_for_jobs.ensures.desk.number r) c.ask_for_jobs.ensures.err
