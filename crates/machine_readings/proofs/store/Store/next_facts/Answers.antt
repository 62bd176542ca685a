use Rattle.std.proofs.Common.{arith}
use Rattle.machine_readings.proofs.RowSteps.{after-row, after-none}
use Rattle.machine_readings.proofs.store.Store.next_facts.Goals as goal

pub returns-in-Some : goal.returns-in-Some
returns-in-Some c =
    let s = c.args.self.now in
    let jobs = c.requires.consistent.jobs in
    let within = c.requires.within in
    let journal = c.requires.journal in
    after-row c.args.at c.args.from s.core.plan c.in-Some.job c.row.result c.requires.consistent.fit (omega (arith, jobs, within, journal)) (c.in-Some.ensures {u = tt}) c.row.ensures

pub returns-in-None : goal.returns-in-None
returns-in-None c = after-none c.args.at c.args.from c.args.self.now.core.plan (c.in-None.ensures {u = tt})
