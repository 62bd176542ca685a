use Rattle.std.proofs.Common.{Option, inl, sym, ◌∙◌, subst}
use Rattle.std.specs.Prelude.{◌⊎◌, IsSome}
use Rattle.drmaa_types.specs.Refusals.{first_refusal}
use Rattle.drmaa_types.specs.declared.refusals.Refusal.{Refusal}
use Rattle.drmaa_model.specs.Submitting.{submit}
use Rattle.plan_book.specs.Book.{plan_of}
use Rattle.plan_book.specs.Occasions.{IsUnsized, MeetsAt, plan_at}
use Rattle.scheduler_core.specs.Early.{early_tests}
use Rattle.scheduler_core.specs.View.{View}
use Rattle.scheduler_core.proofs.SubmitSteps.{early-refuses}
use Rattle.scheduler_core.proofs.ViewSteps.{seen-refused}
use Rattle.scheduler_core.proofs.cores.Core.submit.Goals as goal
use Rattle.scheduler_core.proofs.cores.Core.submit.Goals.{After-refuse, After-admit}

-- it is refused
refused : (c : After-refuse) → MeetsAt c.args.occasion (submit c.args.home c.args.template c.args.indices) c.args.self.now.plan c.refuse.result (plan_of c.refuse.new.self)
refused c =
    seen-refused (submit c.args.home c.args.template c.args.indices) c.args.occasion c.self.inside.book c.self.view_is c.in-Some.why c.refuse.result (plan_of c.refuse.new.self)
    (early-refuses c.args.home c.args.template c.args.indices (plan_at c.args.occasion (plan_of c.self.inside.book)) c.in-Some.why (sym c.refusal_of.ensures.first ∙ c.in-Some.is)) c.refuse.ensures.meets

pub returns-in-Some-clause-meets : goal.returns-in-Some-clause-meets
returns-in-Some-clause-meets c = inl (refused (goal.at.returns-in-Some-clause-meets c).After-refuse)

pub returns-in-Some-clause-early : goal.returns-in-Some-clause-early
returns-in-Some-clause-early c = λ some. refused (goal.at.returns-in-Some-clause-early c).After-refuse

pub returns-in-None-clause-meets : goal.returns-in-None-clause-meets
returns-in-None-clause-meets c =
    subst (λ (v : View). MeetsAt c.args.occasion (submit c.args.home c.args.template c.args.indices) v.plan c.admit.result (plan_of c.admit.new.book) ⊎ IsUnsized v.plan c.admit.result (plan_of c.admit.new.book)) c.self.view_is
    c.admit.ensures.meets

-- no early test refuses it
passes : (c : After-admit) → IsSome (first_refusal (early_tests c.args.template c.args.indices (plan_at c.args.occasion c.args.self.now.plan))) → ⊥
passes c =
    subst (λ (v : View). IsSome (first_refusal (early_tests c.args.template c.args.indices (plan_at c.args.occasion v.plan))) → ⊥) c.self.view_is
    (λ some. (let none = subst (λ (o : Option Refusal). IsSome o) (sym c.refusal_of.ensures.first ∙ c.in-None.is) some in absurd (cc)))

pub returns-in-None-clause-early : goal.returns-in-None-clause-early
returns-in-None-clause-early c = λ some. absurd (passes (goal.at.returns-in-None-clause-early c).After-admit some)

pub returns-in-None-clause-memory : goal.returns-in-None-clause-memory
returns-in-None-clause-memory c = λ has some. absurd (passes (goal.at.returns-in-None-clause-memory c).After-admit some)
