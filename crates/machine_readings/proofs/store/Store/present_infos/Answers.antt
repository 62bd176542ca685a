use Rattle.std.proofs.Common.{◌≡◌, ◌∙◌, ◌++◌, [], List, map, ap}
use Rattle.drmaa_types.specs.declared.infos.JobInfo.{JobInfo}
use Rattle.drmaa_model.specs.declared.rows.Row.{Row}
use Rattle.drmaa_model.specs.Fit.{number_of}
use Rattle.drmaa_model.specs.Infos.{info}
use Rattle.machine_readings.specs.Stores.{world_of}
use Rattle.machine_readings.specs.Walks.{on-all, from_on}
use Rattle.machine_readings.proofs.store.Store.present_infos.Goals as goal

pub loop-facts-init : goal.loop-facts-init
loop-facts-init c =
    (let s = c.args.self.now in
    let F : List Row → List JobInfo = map (info (world_of s)) in
    let none : c.new-infos.result.items ≡ [] = cc in
    ap (λ items. items ++ F (from_on number_of 0 s.core.plan.rows)) none ∙ ap F (on-all number_of s.core.plan.rows))
