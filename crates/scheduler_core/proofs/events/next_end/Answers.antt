use Rattle.std.proofs.Common.{sym, ◌∙◌, ap, Option, false}
use Rattle.std.specs.Option.{option_map_or}
use Rattle.drmaa_types.specs.declared.moments.End.{End}
use Rattle.drmaa_model.specs.Events.{is_end_at}
use Rattle.drmaa_model.specs.Events.{first_after}
use Rattle.scheduler_core.proofs.AfterLaws.{after-none}
use Rattle.scheduler_core.proofs.events.next_end.Goals as goal

pub returns-in-None : goal.returns-in-None
returns-in-None c = sym (after-none c.args.after) ∙ ap (λ (o : Option End). first_after c.args.after (λ x. option_map_or (is_end_at x) o false)) (sym c.in-None.is)
