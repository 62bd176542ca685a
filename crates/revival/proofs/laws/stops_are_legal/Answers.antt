use Rattle.revival.specs.StoppingLaws.{stops-legal}
use Rattle.revival.proofs.laws.stops_are_legal.Goals as goal

pub returns-clause-legal : goal.returns-clause-legal
returns-clause-legal c = λ config entries legal. (stops-legal config entries legal).0

pub returns-clause-keeps : goal.returns-clause-keeps
returns-clause-keeps c = λ config entries legal. (stops-legal config entries legal).1
