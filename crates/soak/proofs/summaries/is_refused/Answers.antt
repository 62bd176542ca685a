use Rattle.soak.specs.Summaries.{is_refused}
use Rattle.soak.proofs.summaries.is_refused.Goals as goal

pub returns : goal.returns
unfolding is_refused
returns c = c.is_refusal.ensures
