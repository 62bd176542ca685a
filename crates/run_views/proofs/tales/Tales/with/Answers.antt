use Rattle.std.proofs.Common.{ℕ, List, Option, Some, ap, ◌∙◌, nat_eq}
use Rattle.std.specs.Map.{lookup}
use Rattle.std.specs.Option.{unwrap_or}
use Rattle.std.specs.Prelude.{if◌then◌else◌}
use Rattle.run_views.specs.declared.told.Told.{Told}
use Rattle.run_views.specs.Told.{nothing, after}
use Rattle.run_views.proofs.Tellings.{heard}
use Rattle.run_views.proofs.tales.Tales.with.Goals as goal

pub returns-in-Ok : goal.returns-in-Ok
returns-in-Ok c = λ job.
    ap (λ (o : Option Told). unwrap_or o nothing)
    ((c.in-Ok.ensures {u = tt}).updates.0 job
    ∙ ap (λ (tales : List (ℕ × Told)). if nat_eq c.args.event.now.job.0 job then Some c.after-told.result else lookup (nat_eq job) tales) c.self.view_is
    ∙ ap (λ (told : Told). if nat_eq c.args.event.now.job.0 job then Some told else lookup (nat_eq job) c.args.self)
    (c.after-told.ensures ∙ ap (after c.args.event.now.what) c.find.ensures))
    ∙ heard c.args.self c.args.event.now job
