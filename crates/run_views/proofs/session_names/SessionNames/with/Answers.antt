use Rattle.std.proofs.Common.{ℕ, List, Some, ap, ◌∙◌, nat_eq}
use Rattle.std.specs.Map.{lookup}
use Rattle.std.specs.Prelude.{if◌then◌else◌}
use Rattle.run_views.proofs.session_names.SessionNames.with.Goals as goal

pub returns-in-Ok : goal.returns-in-Ok
returns-in-Ok c = λ session.
    (c.in-Ok.ensures {u = tt}).updates.0 session
    ∙ ap (λ (names : List (ℕ × List ℕ)). if nat_eq c.args.session.0 session then Some c.args.name else lookup (nat_eq session) names) c.self.view_is
