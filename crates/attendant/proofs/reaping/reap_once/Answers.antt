use Rattle.attendant.proofs.Causes.{round_taking, round_refused}
use Rattle.attendant.proofs.reaping.reap_once.Goals as goal

pub returns-clause-taking : goal.returns-clause-taking
returns-clause-taking g c = round_taking _ _ _ _ _ _ _ _ c.reap_round.result c.requires c.reap_round.ensures.steps

pub returns-clause-err : goal.returns-clause-err
returns-clause-err g c = round_refused _ _ _ _ _ _ _ _ c.reap_round.result c.requires c.reap_round.ensures.steps
