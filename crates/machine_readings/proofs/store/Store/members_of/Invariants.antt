use Rattle.std.proofs.Common.{◌≡◌, ◌++◌, ◌&&◌, Bool, length, filter}
use Rattle.drmaa_model.specs.declared.rows.Row.{Row}
use Rattle.drmaa_model.specs.Fit.{number_of}
use Rattle.drmaa_model.specs.Homes.{is_same_home}
use Rattle.drmaa_model.specs.Infos.{numbers}
use Rattle.drmaa_model.specs.Load.{is_member}
use Rattle.drmaa_model.specs.Time.{rows_at}
use Rattle.machine_readings.specs.Walks.{from_on}
use Rattle.machine_readings.proofs.store.Store.members_of.Given as goal

abbrev pub invariant-loop-facts : goal.invariant-loop-facts
invariant-loop-facts l =
    (let P : Row → Bool = λ row. is_same_home l.home row.home && is_member l.array row in
    l.jobs.items ++ numbers (filter P (from_on number_of l.from (rows_at l.at l.self.core.plan))) ≡ numbers (filter P (rows_at l.at l.self.core.plan)))

abbrev pub decreases-loop-facts : goal.decreases-loop-facts
decreases-loop-facts l = length (from_on number_of l.from (rows_at l.at l.self.core.plan))
