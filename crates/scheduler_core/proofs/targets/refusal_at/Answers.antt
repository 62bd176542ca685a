use Rattle.std.proofs.Common.{Some, None, cond, not, sym, ◌∙◌, ap}
use Rattle.drmaa_types.specs.declared.refusals.Refusal.TheVariants.{InvalidArgument, InvalidState}
use Rattle.drmaa_types.specs.declared.refusals.Which.{Which}
use Rattle.drmaa_model.specs.Time.{rows_at}
use Rattle.plan_book.specs.Book.{plan_of}
use Rattle.scheduler_core.proofs.TargetLaws.{refusal-lost, refusal-kept}
use Rattle.scheduler_core.proofs.targets.refusal_at.Goals as goal

pub returns-in_default : goal.returns-in_default
returns-in_default c =
    ap (λ (w : Which). Some (InvalidArgument w)) c.argument_of.ensures
    ∙ sym (refusal-lost c.args.act c.args.target.now (rows_at c.args.at (plan_of c.args.book.now)) (c.in_default.ensures {u = tt}))

pub returns-then-is_any_permitted : goal.returns-then-is_any_permitted
returns-then-is_any_permitted c =
    let rows = rows_at c.args.at (plan_of c.args.book.now) in
    sym (refusal-kept c.args.act c.args.target.now rows c.in-Some.state (c.in-Some.ensures {u = tt})
    ∙ ap (λ b. cond (not b) (Some (InvalidState c.in-Some.state)) None) (sym c.is_any_permitted.ensures ∙ c.if-is_any_permitted.true))

pub returns-else-is_any_permitted : goal.returns-else-is_any_permitted
returns-else-is_any_permitted c =
    let rows = rows_at c.args.at (plan_of c.args.book.now) in
    sym (refusal-kept c.args.act c.args.target.now rows c.in-Some.state (c.in-Some.ensures {u = tt})
    ∙ ap (λ b. cond (not b) (Some (InvalidState c.in-Some.state)) None) (sym c.is_any_permitted.ensures ∙ c.if-is_any_permitted.false))
