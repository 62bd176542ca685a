use Rattle.std.proofs.Common.{◌∙◌, ap}
use Rattle.drmaa_model.specs.declared.rows.Row.{Row}
use Rattle.drmaa_model.specs.Time.{rows_at}
use Rattle.drmaa_model.specs.Waiting.{has_reached}
use Rattle.scheduler_core.specs.declared.facts.RowFacts.{RowFacts}
use Rattle.machine_readings.proofs.RowSteps.{both-one, both-none, rising-at}
use Rattle.machine_readings.proofs.store.Store.is_reached_by.Goals as goal

pub returns-in-Some : goal.returns-in-Some
returns-in-Some c =
    let p = c.args.self.now.core.plan in
    both-one (λ (row : Row). has_reached c.args.kind row.course.state) (record { 0 = c.args.job }) (rows_at c.args.at p) (rising-at c.args.at p c.requires.consistent.fit) c.in-Some.facts (c.in-Some.ensures {u = tt}) c.has_reached.result
    (λ row is. c.has_reached.ensures ∙ ap (λ (f : RowFacts). has_reached c.args.kind f.state) is)

pub returns-in-None : goal.returns-in-None
returns-in-None c =
    let p = c.args.self.now.core.plan in
    both-none (λ (row : Row). has_reached c.args.kind row.course.state) (record { 0 = c.args.job }) (rows_at c.args.at p) (rising-at c.args.at p c.requires.consistent.fit) (c.in-None.ensures {u = tt})
