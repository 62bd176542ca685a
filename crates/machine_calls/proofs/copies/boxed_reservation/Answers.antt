use Rattle.std.proofs.Common.{◌∙◌}
use Rattle.std.proofs.lemmas.Result.{IfOk-weaker}
use Rattle.machine_calls.proofs.copies.boxed_reservation.Goals as goal

pub returns : goal.returns
returns c = IfOk-weaker c.new.result _ _ (λ boxed is. is ∙ c.in_ok-copy.ensures {u = tt}) c.new.ensures
