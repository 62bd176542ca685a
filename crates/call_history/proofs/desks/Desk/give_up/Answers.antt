use Rattle.std.proofs.Common.{refl}
use Rattle.drmaa_model.specs.declared.calls.Call.TheVariants as call
use Rattle.call_history.proofs.Wanting.{looked-refused, jobs-add, all-jobs-add, request-adds}
use Rattle.call_history.proofs.desks.Desk.give_up.Goals as goal

pub returns-clause-jobs : goal.returns-clause-jobs
returns-clause-jobs g c = λ session f.
    looked-refused c.args.self.now.shared.now.fixed _ _ c.args.self.now.client c.look-answer.new.self.client (call.GetJobs session f) c.look-answer.result c.shortage_in.result c.shortage_in.ensures refl refl
    (λ w at. jobs-add at w session f) c.look-answer.ensures.answer

pub returns-clause-all_jobs : goal.returns-clause-all_jobs
returns-clause-all_jobs g c = λ session f.
    looked-refused c.args.self.now.shared.now.fixed _ _ c.args.self.now.client c.look-answer.new.self.client (call.AllJobs session f) c.look-answer.result c.shortage_in.result c.shortage_in.ensures refl refl
    (λ w at. all-jobs-add at w session f) c.look-answer.ensures.answer

pub returns-clause-reservation : goal.returns-clause-reservation
returns-clause-reservation g c = λ session t.
    looked-refused c.args.self.now.shared.now.fixed _ _ c.args.self.now.client c.look-answer.new.self.client (call.RequestReservation session t) c.look-answer.result c.shortage_in.result c.shortage_in.ensures refl refl
    (λ w at. request-adds at w session t) c.look-answer.ensures.answer
