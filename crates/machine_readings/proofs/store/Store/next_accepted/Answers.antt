use Rattle.std.proofs.Common.{arith}
use Rattle.std.specs.Option.{option_copied}
use Rattle.drmaa_model.specs.FitLaws.{advance-fit}
use Rattle.drmaa_model.specs.Time.{advance_plan}
use Rattle.machine_readings.proofs.RowSteps.{after-number, after-no_number}
use Rattle.machine_readings.proofs.store.Store.next_accepted.Goals as goal

pub returns-in-Some : goal.returns-in-Some
returns-in-Some c =
    let s = c.args.self.now in
    let q = advance_plan 0 c.args.at s.core.plan in
    let numbers = c.requires.consistent.reservations in
    let within = c.requires.within in
    let journal = c.requires.journal in
    let fits = advance-fit 0 c.args.at s.core.plan c.requires.consistent.fit in
    after-number c.args.from s.core.plan.next_reservation q.reservations c.in-Some.number (option_copied c.reservation.result) fits.accepted.rising fits.accepted.below (omega (arith, numbers, within, journal)) (c.in-Some.ensures {u = tt}) c.reservation.ensures

pub returns-in-None : goal.returns-in-None
returns-in-None c = after-no_number c.args.from (advance_plan 0 c.args.at c.args.self.now.core.plan).reservations (c.in-None.ensures {u = tt})
