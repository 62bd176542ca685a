use Rattle.drmaa_model.specs.AnswerLaws.{first-of, none-holds}
use Rattle.drmaa_model.proofs.answers.a_refusal_is_the_first_that_holds.Goals as goal

pub returns-clause-first : goal.returns-clause-first
returns-clause-first c = first-of

pub returns-clause-none : goal.returns-clause-none
returns-clause-none c = none-holds
