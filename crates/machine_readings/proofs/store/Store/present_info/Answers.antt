use Rattle.std.proofs.Common.{◌∙◌}
use Rattle.machine_readings.specs.Stores.{world_of}
use Rattle.machine_readings.specs.Told.{name_in}
use Rattle.machine_readings.proofs.RowSteps.{facts-info, name-now}
use Rattle.machine_readings.proofs.store.Store.present_info.Goals as goal
use Rattle.std.proofs.lemmas.Result.{IfOk-weaker}

pub returns : goal.returns
returns c =
    let facts = c.args.facts.now in
    let s = c.args.self.now in
    IfOk-weaker c.told_at.result _ _ (λ i is row found facts_are. is ∙ facts-info (world_of s) row facts (name_in facts.job s.core.plan.rows) c.moment.result facts_are (name-now facts.job s.core.plan.rows row found) c.moment.ensures) c.told_at.ensures
