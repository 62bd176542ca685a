use Rattle.std.proofs.Common.{ℕ, Bool, cond, Option, None, sym, ◌∙◌, ap}
use Rattle.drmaa_types.specs.declared.moments.End.TheVariants.{At}
use Rattle.drmaa_model.specs.Load.{first_overfull}
use Rattle.plan_book.specs.Book.{plan_of}
use Rattle.scheduler_core.proofs.starts.denied_at.Goals as goal

pub returns : goal.returns
returns c =
    let book = c.args.book.now in
    let f = c.args.frame.now in
    c.overfull_from.ensures
    ∙ sym (ap (λ (b : Bool). cond {A = Option ℕ} b None (first_overfull (plan_of book) f.min f.from (At f.until))) (sym c.is_loose.ensures ∙ c.if-is_loose.false))
