use Rattle.std.proofs.Common.{◌≡◌, ◌+◌, ◌≤◌, Option, None, false, true, sym, ◌∙◌, subst, arith}
use Rattle.std.proofs.lemmas.Bool.{false≢true}
use Rattle.std.proofs.lemmas.Result.{err_from_is_err_and}
use Rattle.std.specs.Prelude.{◌≢◌, IsSome, Err}
use Rattle.drmaa_types.specs.declared.refusals.Refusal.{Refusal}
use Rattle.drmaa_model.specs.declared.faults.NoEntry.TheVariants.{OutOfMemory}
use Rattle.drmaa_model.specs.Controlling.{control}
use Rattle.drmaa_model.specs.Time.{rows_at}
use Rattle.plan_book.specs.Book.{plan_of, spare}
use Rattle.plan_book.specs.Occasions.{plan_at}
use Rattle.plan_book.specs.Sweeps.{acted, growth, may_add_order}
use Rattle.scheduler_core.specs.Targets.{is_one_quiet}
use Rattle.scheduler_core.specs.View.{View}
use Rattle.scheduler_core.proofs.ControlLaws.{grows-one, asks-none}
use Rattle.scheduler_core.proofs.Steps.{err-lacks, unit-missed, unit-served}
use Rattle.scheduler_core.proofs.ViewSteps.{seen-meets, seen-refused}
use Rattle.scheduler_core.proofs.cores.Core.control.Goals as goal
use Rattle.scheduler_core.proofs.cores.Core.control.Goals.{After-control}

pub returns-in-Some-clause-meets : goal.returns-in-Some-clause-meets
returns-in-Some-clause-meets c =
    seen-refused (control c.args.target c.args.what) c.args.occasion c.self.inside.book c.self.view_is c.in-Some.why c.refuse.result (plan_of c.refuse.new.self)
    (sym c.refusal_at.ensures ∙ c.in-Some.is) c.refuse.ensures.meets

-- the call is not refused
free : (c : After-control) → (control c.args.target c.args.what).refusal (plan_at c.args.occasion (plan_of c.self.inside.book)) ≡ None
free c = sym c.refusal_at.ensures ∙ c.in_default.is

pub returns-clause-meets : goal.returns-clause-meets
returns-clause-meets c =
    let op = control c.args.target c.args.what in
    let p = plan_of c.self.inside.book in
    let new = plan_of c.control.new.self in
    let free : op.refusal (plan_at c.args.occasion p) ≡ None = free (goal.at.returns-clause-meets c).After-control in
    seen-meets op c.args.occasion c.self.inside.book c.self.view_is _ new (unit-served op c.args.occasion p new c.control.result free c.control.ensures.meets c.in_ok-control.field-0 (c.in_ok-control.was {u = tt}))

pub returns-in_err-control-clause-meets : goal.returns-in_err-control-clause-meets
returns-in_err-control-clause-meets c =
    let op = control c.args.target c.args.what in
    let p = plan_of c.self.inside.book in
    let new = plan_of c.control.new.self in
    let free : op.refusal (plan_at c.args.occasion p) ≡ None = free (goal.at.returns-in_err-control-clause-meets c).After-control in
    let e = err_from_is_err_and c.from_residual.result c.from_residual.ensures.1 in
    rw (e.1, e.2) (seen-meets op c.args.occasion c.self.inside.book c.self.view_is _ new (unit-missed op c.args.occasion p new c.control.result free c.control.ensures.meets c.in_err-control.field-0.0 (c.in_err-control.was {u = tt})))

used : (c : After-control) → c.args.self.now.spare ≤ spare c.control.new.self + growth c.args.what (acted c.args.target c.args.what (rows_at c.args.occasion.at c.args.self.now.plan))
used c = subst (λ (v : View). v.spare ≤ spare c.control.new.self + growth c.args.what (acted c.args.target c.args.what (rows_at c.args.occasion.at v.plan))) c.self.view_is c.control.ensures.spare

pub returns-clause-spare : goal.returns-clause-spare
returns-clause-spare c = used (goal.at.returns-clause-spare c).After-control

pub returns-in_err-control-clause-spare : goal.returns-in_err-control-clause-spare
returns-in_err-control-clause-spare c = used (goal.at.returns-in_err-control-clause-spare c).After-control

one : (c : After-control) → is_one_quiet c.args.target c.args.what ≡ true → c.args.self.now.spare ≤ spare c.control.new.self + 1
one c =
    subst (λ (v : View). is_one_quiet c.args.target c.args.what ≡ true → v.spare ≤ spare c.control.new.self + 1) c.self.view_is
    (λ quiet. (let few = grows-one c.args.target c.args.what c.args.occasion.at (plan_of c.self.inside.book) c.self.invariant.fit quiet in let used = c.control.ensures.spare in omega (arith, few, used)))

pub returns-clause-one : goal.returns-clause-one
returns-clause-one c = one (goal.at.returns-clause-one c).After-control

pub returns-in_err-control-clause-one : goal.returns-in_err-control-clause-one
returns-in_err-control-clause-one c = one (goal.at.returns-in_err-control-clause-one c).After-control

pub returns-in_err-control-clause-enough : goal.returns-in_err-control-clause-enough
returns-in_err-control-clause-enough c = λ has.
    (let e = err_from_is_err_and c.from_residual.result c.from_residual.ensures.1 in
    subst (λ (v : View). growth c.args.what (acted c.args.target c.args.what (rows_at c.args.occasion.at v.plan)) ≤ v.spare → may_add_order c.args.what ≡ false → c.from_residual.result ≢ Err OutOfMemory) c.self.view_is
    (λ enough quiet. err-lacks c.control.result c.in_err-control.field-0.0 c.from_residual.result e.0 (c.in_err-control.was {u = tt}) e.1 e.2 (c.control.ensures.memory has enough quiet)))

pub returns-in_err-control-clause-memory : goal.returns-in_err-control-clause-memory
returns-in_err-control-clause-memory c = λ has.
    (let e = err_from_is_err_and c.from_residual.result c.from_residual.ensures.1 in
    subst (λ (v : View). is_one_quiet c.args.target c.args.what ≡ true → 1 ≤ v.spare → c.from_residual.result ≢ Err OutOfMemory) c.self.view_is
    (λ quiet enough.
    (let few = grows-one c.args.target c.args.what c.args.occasion.at (plan_of c.self.inside.book) c.self.invariant.fit quiet in
    err-lacks c.control.result c.in_err-control.field-0.0 c.from_residual.result e.0 (c.in_err-control.was {u = tt}) e.1 e.2
    (c.control.ensures.memory has (omega (arith, few, enough)) (asks-none c.args.target c.args.what quiet)))))

pub returns-in_err-control-clause-refused : goal.returns-in_err-control-clause-refused
returns-in_err-control-clause-refused c = λ has.
    (subst (λ (v : View). IsSome ((control c.args.target c.args.what).refusal (plan_at c.args.occasion v.plan)) → c.from_residual.result ≢ Err OutOfMemory) c.self.view_is
    (λ there. absurd (false≢true (subst (λ (o : Option Refusal). IsSome o) (free (goal.at.returns-in_err-control-clause-refused c).After-control) there))))
