use Rattle.std.proofs.Common.{◌≡◌, ◌++◌, length, map}
use Rattle.drmaa_model.specs.Fit.{number_of}
use Rattle.drmaa_model.specs.Infos.{info}
use Rattle.machine_readings.specs.Stores.{world_of}
use Rattle.machine_readings.specs.Walks.{from_on}
use Rattle.machine_readings.proofs.store.Store.present_infos.Given as goal

abbrev pub invariant-loop-facts : goal.invariant-loop-facts
invariant-loop-facts l =
    (let F = map (info (world_of l.self)) in
    l.infos.items ++ F (from_on number_of l.from l.self.core.plan.rows) ≡ F l.self.core.plan.rows)

abbrev pub decreases-loop-facts : goal.decreases-loop-facts
decreases-loop-facts l = length (from_on number_of l.from l.self.core.plan.rows)
