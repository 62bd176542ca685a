use Rattle.std.proofs.Common.{arith}
use Rattle.drmaa_model.specs.Time.{rows_at}
use Rattle.machine_readings.proofs.RangeSteps.{through-none, through-past}
use Rattle.machine_readings.proofs.store.Store.next_facts_through.Goals as goal

pub returns-else-number-last : goal.returns-else-number-last
returns-else-number-last c =
    through-past (rows_at c.args.at c.args.self.now.core.plan) c.args.from c.args.last c.in-Some.facts (c.in-Some.ensures {u = tt}) (omega arith)

pub returns-in-None : goal.returns-in-None
returns-in-None c = through-none (rows_at c.args.at c.args.self.now.core.plan) c.args.from c.args.last (c.in-None.ensures {u = tt})
