use Rattle.std.proofs.Common.{◌≡◌, ◌++◌, Bool, length, filter}
use Rattle.drmaa_model.specs.declared.reservations.Accepted.{Accepted}
use Rattle.drmaa_model.specs.Fit.{reservation_number}
use Rattle.drmaa_model.specs.Homes.{is_same_home}
use Rattle.drmaa_model.specs.Infos.{reservation_numbers}
use Rattle.drmaa_model.specs.Time.{advance_plan}
use Rattle.machine_readings.specs.Walks.{from_on}
use Rattle.machine_readings.proofs.store.Store.reservations_of.Given as goal

abbrev pub invariant-loop-accepted : goal.invariant-loop-accepted
invariant-loop-accepted l =
    (let P : Accepted → Bool = λ a. is_same_home l.home a.home in
    l.list.items ++ reservation_numbers (filter P (from_on reservation_number l.from (advance_plan 0 l.at l.self.core.plan).reservations)) ≡ reservation_numbers (filter P (advance_plan 0 l.at l.self.core.plan).reservations))

abbrev pub decreases-loop-accepted : goal.decreases-loop-accepted
decreases-loop-accepted l = length (from_on reservation_number l.from (advance_plan 0 l.at l.self.core.plan).reservations)
