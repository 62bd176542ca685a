use Rattle.wait_reasons.proofs.ReasonLaws.{ready_where_none}
use Rattle.wait_reasons.proofs.laws.no_reason_where_ready.Goals as goal

pub returns : goal.returns
returns c = ready_where_none
