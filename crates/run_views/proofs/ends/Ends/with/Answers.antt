use Rattle.std.proofs.Common.{ℕ, List, Some, ap, ◌∙◌}
use Rattle.std.specs.Prelude.{if◌then◌else◌}
use Rattle.run_views.specs.declared.runs.RunEnd.{RunEnd}
use Rattle.run_views.specs.Ends.{is_key, end_in}
use Rattle.run_views.proofs.ends.Ends.with.Goals as goal

pub returns-in-Ok : goal.returns-in-Ok
returns-in-Ok c = λ job attempt.
    (c.in-Ok.ensures {u = tt}).updates.0 (job, attempt)
    ∙ ap (λ (es : List ((ℕ × ℕ) × RunEnd)). if is_key c.args.report.job.0 c.args.report.attempt (job, attempt) then Some c.args.report.end else end_in es job attempt) c.self.view_is
