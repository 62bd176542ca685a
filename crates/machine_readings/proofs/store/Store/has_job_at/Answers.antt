use Rattle.std.proofs.Common.{◌∙◌, ap}
use Rattle.drmaa_model.specs.declared.rows.Row.{Row}
use Rattle.drmaa_model.specs.Homes.{is_same_home}
use Rattle.drmaa_model.specs.Time.{rows_at}
use Rattle.scheduler_core.specs.declared.facts.RowFacts.{RowFacts}
use Rattle.machine_readings.proofs.RowSteps.{found-one, found-none, rising-at}
use Rattle.machine_readings.proofs.store.Store.has_job_at.Goals as goal

pub returns-in-Some : goal.returns-in-Some
returns-in-Some c =
    let p = c.args.self.now.core.plan in
    found-one (λ (row : Row). is_same_home c.args.home row.home) c.args.job (rows_at c.args.at p) (rising-at c.args.at p c.requires.consistent.fit) c.in-Some.facts (c.in-Some.ensures {u = tt}) c.is_same_home.result
    (λ row is. c.is_same_home.ensures ∙ ap (λ (f : RowFacts). is_same_home c.args.home f.home) is)

pub returns-in-None : goal.returns-in-None
returns-in-None c =
    let p = c.args.self.now.core.plan in
    found-none (λ (row : Row). is_same_home c.args.home row.home) c.args.job (rows_at c.args.at p) (rising-at c.args.at p c.requires.consistent.fit) (c.in-None.ensures {u = tt})
