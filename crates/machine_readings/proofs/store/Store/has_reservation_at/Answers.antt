use Rattle.std.proofs.Common.{◌∙◌}
use Rattle.drmaa_model.specs.declared.reservations.Accepted.{Accepted}
use Rattle.drmaa_model.specs.FitLaws.{advance-fit}
use Rattle.drmaa_model.specs.Homes.{is_same_home}
use Rattle.drmaa_model.specs.Time.{advance_plan}
use Rattle.machine_readings.proofs.RowSteps.{own-reservation, no-reservation}
use Rattle.machine_readings.proofs.store.Store.has_reservation_at.Goals as goal

pub returns-in-Some : goal.returns-in-Some
returns-in-Some c =
    let q = advance_plan 0 c.args.at c.args.self.now.core.plan in
    c.is_same_home.ensures ∙ own-reservation (λ (a : Accepted). is_same_home c.args.home a.home) c.args.number q.reservations (advance-fit 0 c.args.at c.args.self.now.core.plan c.requires.consistent.fit).accepted.rising c.in-Some.accepted.now (c.in-Some.ensures {u = tt})

pub returns-in-None : goal.returns-in-None
returns-in-None c =
    let q = advance_plan 0 c.args.at c.args.self.now.core.plan in
    no-reservation (λ (a : Accepted). is_same_home c.args.home a.home) c.args.number q.reservations (advance-fit 0 c.args.at c.args.self.now.core.plan c.requires.consistent.fit).accepted.rising (c.in-None.ensures {u = tt})
