use Rattle.drmaa_model.specs.Time.{advance}
use Rattle.drmaa_model.specs.WaitLaws.{wait-reached, wait-timeout, wait-not_yet}
use Rattle.drmaa_model.proofs.answers.a_wait_answers_what_is_reached.Goals as goal

pub returns-clause-reached : goal.returns-clause-reached
returns-clause-reached c = λ w at session jobs kind begun timeout job free is. wait-reached (advance w at) at session jobs kind begun timeout free job is

pub returns-clause-timeout : goal.returns-clause-timeout
returns-clause-timeout c = λ w at session jobs kind begun timeout free is over. wait-timeout (advance w at) at session jobs kind begun timeout free is over

pub returns-clause-not_yet : goal.returns-clause-not_yet
returns-clause-not_yet c = λ w at session jobs kind begun timeout free is going. wait-not_yet (advance w at) at session jobs kind begun timeout free is going
