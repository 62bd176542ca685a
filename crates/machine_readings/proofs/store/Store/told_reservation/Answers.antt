use Rattle.std.proofs.Common.{Option, ◌∙◌, ap}
use Rattle.std.specs.Option.{option_map_or}
use Rattle.drmaa_model.specs.declared.replies.Reply.TheVariants as reply
use Rattle.drmaa_model.specs.declared.reservations.Accepted.{Accepted}
use Rattle.drmaa_model.specs.Infos.{reservation_info}
use Rattle.machine_readings.specs.Stores.{world_at}
use Rattle.machine_readings.proofs.store.Store.told_reservation.Goals as goal

pub returns-in_ok-new-in-Some : goal.returns-in_ok-new-in-Some
returns-in_ok-new-in-Some c =
    (let v = world_at c.args.at c.args.self.now in
    ap reply.Reservation (c.in_ok-new-in-Some.ensures {u = tt} ∙ c.in_ok-info-in-Some.ensures {u = tt} c.args.at)
    ∙ ap (λ (o : Option Accepted). option_map_or (λ (a : Accepted). reply.Reservation (reservation_info v a)) o reply.Unit) (c.in-Some.ensures {u = tt}))
