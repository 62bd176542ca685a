use Rattle.std.proofs.Common.{◌≡◌, ◌∙◌, ◌++◌, [], List, map, filter, ap}
use Rattle.drmaa_types.specs.Filters.{matches}
use Rattle.drmaa_types.specs.declared.infos.JobInfo.{JobInfo}
use Rattle.drmaa_model.specs.declared.rows.Row.{Row}
use Rattle.drmaa_model.specs.Fit.{number_of}
use Rattle.drmaa_model.specs.Infos.{info}
use Rattle.drmaa_model.specs.Time.{rows_at}
use Rattle.machine_readings.specs.Stores.{world_at}
use Rattle.machine_readings.specs.Walks.{on-all, from_on}
use Rattle.machine_readings.proofs.store.Store.infos_of.Goals as goal

pub loop-facts-init : goal.loop-facts-init
loop-facts-init c =
    (let s = c.args.self.now in
    let F : List Row → List JobInfo = λ rows. map (info (world_at c.args.at s)) (filter (λ (row : Row). matches c.args.wanted.now (info (world_at c.args.at s) row)) rows) in
    let none : c.new-infos.result.items ≡ [] = cc in
    ap (λ items. items ++ F (from_on number_of 0 (rows_at c.args.at s.core.plan))) none ∙ ap F (on-all number_of (rows_at c.args.at s.core.plan)))
