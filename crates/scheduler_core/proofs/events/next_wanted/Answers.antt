use Rattle.std.proofs.Common.{◌&&◌, ◌||◌, ◌∙◌, ap, sym, Bool}
use Rattle.drmaa_model.specs.Events.{is_set_to}
use Rattle.drmaa_model.specs.Events.{first_after}
use Rattle.scheduler_core.proofs.AfterLaws.{joined, after-none}
use Rattle.scheduler_core.proofs.events.next_wanted.Goals as goal

pub returns-then-is_waiting : goal.returns-then-is_waiting
returns-then-is_waiting c =
    joined c.args.after (λ x. is_set_to x c.args.row.now.wants.start) (λ x. is_set_to x c.args.row.now.wants.deadline)
    c.next_set.result c.next_set-then-is_waiting.result c.earlier.result c.earlier.ensures c.next_set.ensures c.next_set-then-is_waiting.ensures
    ∙ ap (λ (b : Bool). first_after c.args.after (λ x. b && (is_set_to x c.args.row.now.wants.start || is_set_to x c.args.row.now.wants.deadline))) (sym (sym c.is_waiting.ensures ∙ c.if-is_waiting.true))

pub returns-else-is_waiting : goal.returns-else-is_waiting
returns-else-is_waiting c =
    sym (after-none c.args.after)
    ∙ ap (λ (b : Bool). first_after c.args.after (λ x. b && (is_set_to x c.args.row.now.wants.start || is_set_to x c.args.row.now.wants.deadline))) (sym (sym c.is_waiting.ensures ∙ c.if-is_waiting.false))
