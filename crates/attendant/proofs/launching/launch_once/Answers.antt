use Rattle.attendant.proofs.Launches.{round_fates, round_tends, round_keeps, round_agrees, launch_refused}
use Rattle.attendant.proofs.launching.launch_once.Goals as goal

pub returns-clause-fates : goal.returns-clause-fates
returns-clause-fates g c = round_fates _ _ _ _ _ _ _ _ _ _ c.launch_round.ensures.steps

pub returns-clause-tends : goal.returns-clause-tends
returns-clause-tends g c reaped t = rw c.launch_round.ensures.order (round_tends _ _ _ reaped _ _ _ _ _ _ _ _ c.launch_round.ensures.steps t)

pub returns-clause-keeps : goal.returns-clause-keeps
returns-clause-keeps g c reaped k = rw c.launch_round.ensures.order (round_keeps _ _ _ reaped _ _ _ _ _ _ _ _ c.launch_round.ensures.steps k)

pub returns-clause-agrees : goal.returns-clause-agrees
returns-clause-agrees g c reaped good k a = round_agrees _ _ _ reaped _ _ _ _ _ _ _ _ c.launch_round.ensures.steps good k a

pub returns-clause-err : goal.returns-clause-err
returns-clause-err g c = launch_refused _ _ _ _ _ _ _ _ _ _ c.launch_round.ensures.steps
