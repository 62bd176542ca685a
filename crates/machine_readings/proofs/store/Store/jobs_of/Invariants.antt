use Rattle.std.proofs.Common.{◌≡◌, ◌++◌, ◌&&◌, Bool, length, filter}
use Rattle.drmaa_types.specs.Filters.{matches}
use Rattle.drmaa_model.specs.declared.rows.Row.{Row}
use Rattle.drmaa_model.specs.Fit.{number_of}
use Rattle.drmaa_model.specs.Homes.{is_same_home}
use Rattle.drmaa_model.specs.Infos.{info, numbers}
use Rattle.drmaa_model.specs.Time.{rows_at}
use Rattle.machine_readings.specs.Stores.{world_at}
use Rattle.machine_readings.specs.Walks.{from_on}
use Rattle.machine_readings.proofs.store.Store.jobs_of.Given as goal

abbrev pub invariant-loop-facts : goal.invariant-loop-facts
invariant-loop-facts l =
    (let P : Row → Bool = λ row. is_same_home l.home row.home && matches l.wanted (info (world_at l.at l.self) row) in
    l.jobs.items ++ numbers (filter P (from_on number_of l.from (rows_at l.at l.self.core.plan))) ≡ numbers (filter P (rows_at l.at l.self.core.plan)))

abbrev pub decreases-loop-facts : goal.decreases-loop-facts
decreases-loop-facts l = length (from_on number_of l.from (rows_at l.at l.self.core.plan))
