use Rattle.job_states.proofs.Edges.{ended_stays}
use Rattle.job_states.proofs.laws.nothing_leaves_an_ended_job.Goals as goal

pub returns : goal.returns
returns c = ended_stays
