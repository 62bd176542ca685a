use Rattle.std.proofs.lemmas.Result.{IfOk-weaker, IfErr-weaker}
use Rattle.call_history.specs.declared.told.SubmittedArray.{SubmittedArray}
use Rattle.drmaa_model.specs.declared.calls.Call.TheVariants as call
use Rattle.drmaa_model.specs.declared.replies.Reply.TheVariants as reply
use Rattle.drmaa1_face.specs.Steps.Ask.{at_once}
use Rattle.drmaa1_face.proofs.Making.{made-one, halts-asked, still-asked}
use Rattle.drmaa1_face.proofs.asking.ask_to_run_array.Goals as goal

pub returns-clause-desk : goal.returns-clause-desk
returns-clause-desk g c =
    still-asked c.args.desk.now.shared.now _ _ _ c.args.desk.now.client c.ask_to_run_array.new.self.client (call.RunBulk c.args.session c.args.template c.args.indices) (λ (told : SubmittedArray). reply.Array told.array told.first told.count) c.ask_to_run_array.result c.ask_to_run_array.ensures.desk c.ask_to_run_array.ensures.ok c.ask_to_run_array.ensures.err

pub returns-clause-ok : goal.returns-clause-ok
returns-clause-ok g c = IfOk-weaker c.ask_to_run_array.result _ _ (λ told s. made-one _ _ _ (at_once (call.RunBulk c.args.session c.args.template c.args.indices)) (reply.Array told.array told.first told.count) c.ask_to_run_array.ensures.desk.number s) c.ask_to_run_array.ensures.ok

pub returns-clause-err : goal.returns-clause-err
returns-clause-err g c = IfErr-weaker c.ask_to_run_array.result _ _ (λ reason r. halts-asked _ _ _ (call.RunBulk c.args.session c.args.template c.args.indices) reason c.ask_to_run_array.ensures.desk.number r) c.ask_to_run_array.ensures.err
