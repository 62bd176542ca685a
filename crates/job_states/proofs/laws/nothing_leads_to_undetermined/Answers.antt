use Rattle.job_states.proofs.Edges.{never_undetermined}
use Rattle.job_states.proofs.laws.nothing_leads_to_undetermined.Goals as goal

pub returns : goal.returns
returns c = never_undetermined
