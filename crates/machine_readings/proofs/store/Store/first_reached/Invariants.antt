use Rattle.std.proofs.Common.{◌≡◌, drop, find}
use Rattle.drmaa_model.specs.Time.{rows_at}
use Rattle.drmaa_model.specs.Waiting.{is_reached_by}
use Rattle.machine_readings.proofs.store.Store.first_reached.Given as goal

abbrev pub invariant-loop-job : goal.invariant-loop-job
invariant-loop-job l =
    find (is_reached_by l.kind (rows_at l.at l.self.core.plan)) (drop l.job-index l.job-items) ≡ find (is_reached_by l.kind (rows_at l.at l.self.core.plan)) l.job-items
