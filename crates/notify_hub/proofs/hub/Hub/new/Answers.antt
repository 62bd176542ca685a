use Rattle.notify_hub.proofs.Noting.{hub-silent}
use Rattle.notify_hub.proofs.hub.Hub.new.Goals as goal

pub invariant_of-result : goal.invariant_of-result
invariant_of-result g c = hub-silent c.args.callbacks c.in-Ok.ears c.in-Ok.ensures.ok
