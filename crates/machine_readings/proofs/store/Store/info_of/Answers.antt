use Rattle.std.proofs.Common.{◌≡◌, Some, Option, sym, ◌∙◌, ap}
use Rattle.std.specs.Option.{option_map}
use Rattle.drmaa_types.specs.declared.infos.JobInfo.{JobInfo}
use Rattle.drmaa_model.specs.Infos.{info}
use Rattle.drmaa_model.specs.RowLaws.{row_of-is}
use Rattle.drmaa_model.specs.Rows.{row_of}
use Rattle.drmaa_model.specs.Time.{rows_at}
use Rattle.scheduler_core.specs.declared.facts.RowFacts.{RowFacts}
use Rattle.machine_readings.specs.Stores.{world_at}
use Rattle.machine_readings.proofs.RowSteps.{facts-some}
use Rattle.machine_readings.proofs.store.Store.info_of.Goals as goal

pub returns-in_ok-info-in-Some : goal.returns-in_ok-info-in-Some
returns-in_ok-info-in-Some c =
    let rows = rows_at c.args.at c.args.self.now.core.plan in
    let w = world_at c.args.at c.args.self.now in
    let f = facts-some (row_of c.args.job rows) c.in-Some.facts (c.in-Some.ensures {u = tt}) in
    let job_is : c.in-Some.facts.job.0 ≡ c.args.job.0 = ap (λ (x : RowFacts). x.job.0) f.facts_are ∙ row_of-is c.args.job rows f.row f.found in
    let found : row_of c.in-Some.facts.job rows ≡ Some f.row = ap (λ n. row_of (record { 0 = n }) rows) job_is ∙ f.found in
    ap (λ (i : JobInfo). let o : Option JobInfo = Some i in o) (c.in_ok-info-in-Some.ensures {u = tt} f.row found f.facts_are) ∙ ap (option_map (info w)) (sym f.found)
