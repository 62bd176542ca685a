use Rattle.std.proofs.Common.{ℕ, Option, filter, sym, ◌∙◌, ap}
use Rattle.drmaa_model.specs.declared.calls.Call.TheVariants as call
use Rattle.drmaa_model.specs.declared.replies.Reply.{Reply}
use Rattle.drmaa_model.specs.declared.replies.Reply.TheVariants as reply
use Rattle.drmaa_model.specs.Effects.{makes}
use Rattle.drmaa_model.specs.Homes.{is_same_home}
use Rattle.drmaa_model.specs.Infos.{reservation_numbers}
use Rattle.drmaa_model.specs.declared.reservations.Accepted.{Accepted}
use Rattle.machine_readings.specs.Stores.{world_at}
use Rattle.machine_readings.proofs.Tellings.{refused, told}
use Rattle.machine_readings.proofs.store.Store.reservations.Goals as goal

pub returns-in-Some : goal.returns-in-Some
returns-in-Some c = refused c.args.self.now c.args.at (call.GetReservations c.args.session) c.in-Some.why (c.in-Some.ensures {u = tt})

pub returns-in_ok-reservations_of-in-None : goal.returns-in_ok-reservations_of-in-None
returns-in_ok-reservations_of-in-None c =
    (let v = world_at c.args.at c.args.self.now in
    told c.args.self.now c.args.at (call.GetReservations c.args.session) _ (c.in-None.ensures {u = tt})
    (ap (λ (r : Reply). makes r v) (ap reply.Reservations (ap (λ (h : Option ℕ). reservation_numbers (filter (λ (a : Accepted). is_same_home h a.home) v.plan.reservations)) (sym c.home_in.ensures) ∙ sym (c.in_ok-reservations_of-in-None.ensures {u = tt})))))
