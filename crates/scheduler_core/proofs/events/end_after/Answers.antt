use Rattle.std.proofs.Common.{sym, ◌∙◌, ap}
use Rattle.drmaa_types.specs.declared.moments.End.{End}
use Rattle.drmaa_model.specs.Events.{is_end_at}
use Rattle.drmaa_model.specs.Events.{first_after}
use Rattle.scheduler_core.proofs.AfterLaws.{after-none}
use Rattle.scheduler_core.proofs.events.end_after.Goals as goal

pub returns-in-Never : goal.returns-in-Never
returns-in-Never c = sym (after-none c.args.after) ∙ ap (λ (o : End). first_after c.args.after (λ x. is_end_at x o)) (sym c.in-Never.is)
