use Rattle.std.proofs.Common.{◌∙◌}
use Rattle.drmaa_model.specs.Time.{rows_at}
use Rattle.machine_readings.proofs.RowSteps.{kept-any}
use Rattle.machine_readings.proofs.store.Store.has_job.Goals as goal

pub returns : goal.returns
returns c = c.is_some.ensures ∙ kept-any c.args.job (rows_at c.args.at c.args.self.now.core.plan) c.row.result c.row.ensures
