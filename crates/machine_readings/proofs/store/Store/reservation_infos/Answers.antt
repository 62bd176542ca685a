use Rattle.std.proofs.Common.{◌≡◌, ◌+◌, ◌∷◌, append_assoc, sym, ◌∙◌, ◌++◌, [], List, map, ap}
use Rattle.drmaa_types.specs.declared.infos.ReservationInfo.{ReservationInfo}
use Rattle.drmaa_model.specs.declared.reservations.Accepted.{Accepted}
use Rattle.drmaa_model.specs.Fit.{reservation_number}
use Rattle.drmaa_model.specs.Infos.{reservation_info}
use Rattle.drmaa_model.specs.Time.{advance_plan}
use Rattle.machine_readings.specs.Stores.{world_at}
use Rattle.machine_readings.specs.Walks.{on-all, from_on}
use Rattle.machine_readings.proofs.store.Store.reservation_infos.Goals as goal

pub loop-accepted-init : goal.loop-accepted-init
loop-accepted-init c =
    (let s = c.args.self.now in
    let F : List Accepted → List ReservationInfo = λ rs. map (reservation_info (world_at c.args.at s)) rs in
    let none : c.new-list.result.items ≡ [] = cc in
    ap (λ items. items ++ F (from_on reservation_number 0 (advance_plan 0 c.args.at s.core.plan).reservations)) none ∙ ap F (on-all reservation_number (advance_plan 0 c.args.at s.core.plan).reservations))

pub loop-accepted-preserved : goal.loop-accepted-preserved
loop-accepted-preserved c =
    (let s = c.args.self.now in
    let a = c.in-Some.accepted.now in
    let F : List Accepted → List ReservationInfo = λ rs. map (reservation_info (world_at c.args.at s)) rs in
    let all = (advance_plan 0 c.args.at s.core.plan).reservations in
    let rest = from_on reservation_number (a.reservation.0 + 1) all in
    let old = c.loop-accepted.list.items in
    let split : from_on reservation_number c.loop-accepted.from all ≡ a ∷ rest = (c.in-Some.ensures {u = tt}).split in
    ap (λ items. items ++ F rest) (c.in_ok-push.ensures {u = tt}).items
    ∙ append_assoc old (c.in_ok-reservation_info.field-0 ∷ []) (F rest)
    ∙ ap (λ (i : ReservationInfo). old ++ (i ∷ F rest)) (c.in_ok-reservation_info.ensures {u = tt} c.args.at)
    ∙ ap (λ xs. old ++ F xs) (sym split) ∙ c.loop-accepted.invariant)
