use Rattle.job_states.proofs.Edges.{other_calls, other_states}
use Rattle.job_states.proofs.laws.controls_go_along_edges.Goals as goal

pub returns : goal.returns
returns c = record { other_calls = other_calls; other_states = other_states }
