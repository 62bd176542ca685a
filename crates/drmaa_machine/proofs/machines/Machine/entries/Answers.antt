use Rattle.std.proofs.Common.{◌≤◌, length, subst}
use Rattle.drmaa_machine.specs.View.{View}
use Rattle.drmaa_machine.proofs.Storing.{few-entries}
use Rattle.drmaa_machine.proofs.machines.Machine.entries.Goals as goal

pub returns-clause-few : goal.returns-clause-few
returns-clause-few c = subst (λ (v : View). length v.ledger.history ≤ 4000000) c.self.view_is (few-entries c.self.inside.store c.self.invariant)
