use Rattle.std.proofs.Common.{refl}
use Rattle.drmaa_model.specs.declared.calls.Call.TheVariants as call
use Rattle.call_history.proofs.Wanting.{short-submission}
use Rattle.call_history.proofs.desks.Desk.give_up_submission.Goals as goal

pub returns-clause-job : goal.returns-clause-job
returns-clause-job g c = λ session t.
    short-submission c.args.self.now.shared.now.fixed _ _ c.args.self.now.client c.look.new.self.client _ c.look.result (call.RunJob session t) refl refl refl c.look.ensures.answer

pub returns-clause-array : goal.returns-clause-array
returns-clause-array g c = λ session t indices.
    short-submission c.args.self.now.shared.now.fixed _ _ c.args.self.now.client c.look.new.self.client _ c.look.result (call.RunBulk session t indices) refl refl refl c.look.ensures.answer
