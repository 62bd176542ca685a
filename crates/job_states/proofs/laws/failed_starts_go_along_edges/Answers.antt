use Rattle.job_states.proofs.Edges.{failed_starts}
use Rattle.job_states.proofs.laws.failed_starts_go_along_edges.Goals as goal

pub returns : goal.returns
returns c = failed_starts
