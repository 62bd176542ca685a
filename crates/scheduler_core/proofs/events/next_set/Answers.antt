use Rattle.std.proofs.Common.{sym, ◌∙◌, ap, Option, ℕ}
use Rattle.drmaa_model.specs.Events.{is_set_to}
use Rattle.drmaa_model.specs.Events.{first_after}
use Rattle.scheduler_core.proofs.AfterLaws.{after-none}
use Rattle.scheduler_core.proofs.events.next_set.Goals as goal

pub returns-in-None : goal.returns-in-None
returns-in-None c = sym (after-none c.args.after) ∙ ap (λ (o : Option ℕ). first_after c.args.after (λ x. is_set_to x o)) (sym c.in-None.is)
