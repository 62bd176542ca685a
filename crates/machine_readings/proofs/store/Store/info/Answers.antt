use Rattle.std.proofs.Common.{◌∙◌}
use Rattle.machine_readings.specs.Stores.{world_at}
use Rattle.machine_readings.specs.Told.{name_in}
use Rattle.machine_readings.proofs.RowSteps.{facts-info, name-at}
use Rattle.machine_readings.proofs.store.Store.info.Goals as goal
use Rattle.std.proofs.lemmas.Result.{IfOk-weaker}

pub returns : goal.returns
returns c =
    let facts = c.args.facts.now in
    let s = c.args.self.now in
    IfOk-weaker c.told_at.result _ _ (λ i is row found facts_are. is ∙ facts-info (world_at c.args.at s) row facts (name_in facts.job s.core.plan.rows) c.moment_at.result facts_are (name-at c.args.at s.core.plan facts.job row found) c.moment_at.ensures) c.told_at.ensures
