use Rattle.change_callbacks.proofs.Listens.{EachHeard-begun}
use Rattle.change_callbacks.proofs.ears.Ears.new.Goals as goal

pub returns-clause-heard : goal.returns-clause-heard
returns-clause-heard g c = EachHeard-begun _ _ _ _ _ c.nothing.ensures c.of-begun.ensures c.into_vec.ensures
