use Rattle.job_states.proofs.Edges.{keeps_started, keeps_terminated}
use Rattle.job_states.proofs.laws.edges_keep_what_has_come.Goals as goal

pub returns : goal.returns
returns c = record { started = keeps_started; terminated = keeps_terminated }
