use Rattle.drmaa_model.specs.declared.looks.Answer.TheVariants as told
use Rattle.drmaa_model.specs.declared.looks.Question.TheVariants as question
use Rattle.call_history.proofs.Lookups.{looked-told, looked-in-vain}
use Rattle.call_history.proofs.desks.Desk.session_name.Goals as goal

pub returns-clause-ok : goal.returns-clause-ok
returns-clause-ok g c =
    looked-told c.args.self.now.shared.now.fixed _ c.args.self.now.client _ c.look-answer.new.self.client c.look-answer.result (question.SessionName c.args.session) told.SessionName c.name_in.result
    c.name_in.ensures.ok c.look-answer.ensures.answer

pub returns-clause-err : goal.returns-clause-err
returns-clause-err g c =
    looked-in-vain c.args.self.now.shared.now.fixed _ c.args.self.now.client _ c.look-answer.new.self.client c.look-answer.result (question.SessionName c.args.session) told.SessionName _ c.name_in.result
    c.name_in.ensures.err c.look-answer.ensures.answer.told c.look-answer.ensures.answer
