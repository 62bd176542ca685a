use Rattle.wait_reasons.proofs.Exactly.{exactly}
use Rattle.wait_reasons.proofs.laws.a_reason_stands_exactly_where_it_is_so.Goals as goal

pub returns : goal.returns
returns c = exactly
