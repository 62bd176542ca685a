use Rattle.drmaa_model.specs.History.{now_of}
use Rattle.wait_reasons.proofs.finding.reasons_of.Goals as goal

pub reasons_with-requires : goal.reasons_with-requires
reasons_with-requires c = record { known = c.new.ensures (now_of c.args.machine.now.ledger).plan.rows }
