use Rattle.job_states.proofs.Edges.{exits}
use Rattle.job_states.proofs.laws.exits_go_along_edges.Goals as goal

pub returns : goal.returns
returns c = exits
