use Rattle.std.proofs.Common.{◌≡◌, None, sym, ◌∙◌}
use Rattle.std.proofs.lemmas.Result.{err_from_is_err_and}
use Rattle.drmaa_model.specs.Controlling.{reap}
use Rattle.plan_book.specs.Book.{plan_of}
use Rattle.plan_book.specs.Occasions.{plan_at}
use Rattle.scheduler_core.proofs.Steps.{unit-missed, unit-served}
use Rattle.scheduler_core.proofs.ViewSteps.{seen-meets, seen-refused}
use Rattle.scheduler_core.proofs.cores.Core.reap.Goals as goal

pub returns-in-Some-clause-meets : goal.returns-in-Some-clause-meets
returns-in-Some-clause-meets c =
    seen-refused (reap c.args.target) c.args.occasion c.self.inside.book c.self.view_is c.in-Some.why c.refuse.result (plan_of c.refuse.new.self)
    (sym c.refusal_at.ensures ∙ c.in-Some.is) c.refuse.ensures.meets

pub returns-clause-meets : goal.returns-clause-meets
returns-clause-meets c =
    let op = reap c.args.target in
    let p = plan_of c.self.inside.book in
    let new = plan_of c.drop_rows.new.self in
    let free : op.refusal (plan_at c.args.occasion p) ≡ None = sym c.refusal_at.ensures ∙ c.in_default.is in
    seen-meets op c.args.occasion c.self.inside.book c.self.view_is _ new (unit-served op c.args.occasion p new c.drop_rows.result free c.drop_rows.ensures.meets c.in_ok-drop_rows.field-0 (c.in_ok-drop_rows.was {u = tt}))

pub returns-in_err-drop_rows-clause-meets : goal.returns-in_err-drop_rows-clause-meets
returns-in_err-drop_rows-clause-meets c =
    let op = reap c.args.target in
    let p = plan_of c.self.inside.book in
    let new = plan_of c.drop_rows.new.self in
    let free : op.refusal (plan_at c.args.occasion p) ≡ None = sym c.refusal_at.ensures ∙ c.in_default.is in
    let e = err_from_is_err_and c.from_residual.result c.from_residual.ensures.1 in
    rw (e.1, e.2) (seen-meets op c.args.occasion c.self.inside.book c.self.view_is _ new (unit-missed op c.args.occasion p new c.drop_rows.result free c.drop_rows.ensures.meets c.in_err-drop_rows.field-0.0 (c.in_err-drop_rows.was {u = tt})))
