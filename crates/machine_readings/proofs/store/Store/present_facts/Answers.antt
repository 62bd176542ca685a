use Rattle.std.proofs.Common.{arith}
use Rattle.machine_readings.proofs.RowSteps.{row-now, none-now}
use Rattle.machine_readings.proofs.store.Store.present_facts.Goals as goal

pub returns-in-Some : goal.returns-in-Some
returns-in-Some c =
    let s = c.args.self.now in
    let jobs = c.requires.consistent.jobs in
    let within = c.requires.within in
    let journal = c.requires.journal in
    row-now c.args.from s.core.plan c.in-Some.job c.present_row.result c.requires.consistent.fit (omega (arith, jobs, within, journal)) (c.in-Some.ensures {u = tt}) c.present_row.ensures

pub returns-in-None : goal.returns-in-None
returns-in-None c = none-now c.args.from c.args.self.now.core.plan (c.in-None.ensures {u = tt})
