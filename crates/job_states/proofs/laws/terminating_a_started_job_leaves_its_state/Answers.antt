use Rattle.job_states.proofs.Edges.{terminating}
use Rattle.job_states.proofs.laws.terminating_a_started_job_leaves_its_state.Goals as goal

pub returns : goal.returns
returns c = terminating
