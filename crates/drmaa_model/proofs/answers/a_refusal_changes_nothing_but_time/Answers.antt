use Rattle.drmaa_model.specs.AnswerLaws.{refused-gives, served-gives}
use Rattle.drmaa_model.specs.Time.{advance}
use Rattle.drmaa_model.proofs.answers.a_refusal_changes_nothing_but_time.Goals as goal

pub returns-clause-refused : goal.returns-clause-refused
returns-clause-refused c = λ w at call why is. refused-gives at (advance w at) call why is

pub returns-clause-served : goal.returns-clause-served
returns-clause-served c = λ w at call is. served-gives at (advance w at) call is
