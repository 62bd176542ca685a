use Rattle.std.proofs.Common.{◌≡◌, ℕ, Bool, true, false, not, Option, Some, None, refl, ◌∙◌, ap}
use Rattle.std.specs.Prelude.{is_some, is_none}
use Rattle.drmaa_model.specs.declared.rows.Row.{Row}
use Rattle.drmaa_model.specs.Time.{rows_at}
use Rattle.scheduler_core.specs.declared.facts.RowFacts.{RowFacts}
use Rattle.machine_readings.proofs.RowSteps.{both-one, both-none, rising-at}
use Rattle.machine_readings.proofs.store.Store.has_left_job.Goals as goal

flip : (b : Bool) (o : Option ℕ) → is_some o ≡ not b → b ≡ is_none o
flip true None is = refl
flip true (Some x) is = absurd (cc)
flip false None is = absurd (cc)
flip false (Some x) is = refl

pub returns-in-Some : goal.returns-in-Some
returns-in-Some c =
    let p = c.args.self.now.core.plan in
    both-one (λ (row : Row). is_none row.home) c.args.job (rows_at c.args.at p) (rising-at c.args.at p c.requires.consistent.fit) c.in-Some.facts (c.in-Some.ensures {u = tt}) c.is_none.result
    (λ row is. flip c.is_none.result c.in-Some.facts.home c.is_none.ensures ∙ ap (λ (f : RowFacts). is_none f.home) is)

pub returns-in-None : goal.returns-in-None
returns-in-None c =
    let p = c.args.self.now.core.plan in
    both-none (λ (row : Row). is_none row.home) c.args.job (rows_at c.args.at p) (rising-at c.args.at p c.requires.consistent.fit) (c.in-None.ensures {u = tt})
