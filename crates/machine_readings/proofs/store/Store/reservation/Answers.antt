use Rattle.std.proofs.Common.{◌≡◌, sym, ap}
use Rattle.drmaa_model.specs.declared.calls.Call.TheVariants as call
use Rattle.drmaa_model.specs.declared.replies.Reply.{Reply}
use Rattle.drmaa_model.specs.Effects.{makes, reservation_reply}
use Rattle.machine_readings.specs.Stores.{world_at}
use Rattle.machine_readings.proofs.Tellings.{refused, told, ok-then}
use Rattle.machine_readings.specs.Telling.{IsReply}
use Rattle.machine_readings.proofs.store.Store.reservation.Goals as goal

pub returns-in-Some : goal.returns-in-Some
returns-in-Some c = refused c.args.self.now c.args.at (call.GetReservation c.args.session c.args.number) c.in-Some.why (c.in-Some.ensures {u = tt})

pub returns-in-None : goal.returns-in-None
returns-in-None c =
    (let s = c.args.self.now in
    let v = world_at c.args.at s in
    let asked = call.GetReservation c.args.session c.args.number in
    ok-then c.told_reservation.result (λ (r : Reply). r ≡ reservation_reply v c.args.number) (IsReply s c.args.at asked) c.told_reservation.ensures
    (λ r is. told s c.args.at asked r (c.in-None.ensures {u = tt}) (ap (λ (x : Reply). makes x v) (sym is))))
