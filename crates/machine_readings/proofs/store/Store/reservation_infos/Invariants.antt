use Rattle.std.proofs.Common.{◌≡◌, ◌++◌, length, map}
use Rattle.drmaa_model.specs.Fit.{reservation_number}
use Rattle.drmaa_model.specs.Infos.{reservation_info}
use Rattle.drmaa_model.specs.Time.{advance_plan}
use Rattle.machine_readings.specs.Stores.{world_at}
use Rattle.machine_readings.specs.Walks.{from_on}
use Rattle.machine_readings.proofs.store.Store.reservation_infos.Given as goal

abbrev pub invariant-loop-accepted : goal.invariant-loop-accepted
invariant-loop-accepted l =
    l.list.items ++ map (reservation_info (world_at l.at l.self)) (from_on reservation_number l.from (advance_plan 0 l.at l.self.core.plan).reservations) ≡ map (reservation_info (world_at l.at l.self)) (advance_plan 0 l.at l.self.core.plan).reservations

abbrev pub decreases-loop-accepted : goal.decreases-loop-accepted
decreases-loop-accepted l = length (from_on reservation_number l.from (advance_plan 0 l.at l.self.core.plan).reservations)
