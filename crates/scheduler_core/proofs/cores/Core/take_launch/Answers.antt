use Rattle.std.proofs.Common.{◌≤◌, sym, subst, ap, arith}
use Rattle.std.specs.Prelude.{OnErr}
use Rattle.drmaa_model.specs.Launching.{launch}
use Rattle.drmaa_model.specs.Plan.{Plan}
use Rattle.plan_book.specs.Book.{plan_of, spare}
use Rattle.plan_book.specs.Occasions.{Meets, StepsAt}
use Rattle.scheduler_core.specs.View.{View}
use Rattle.scheduler_core.proofs.LaunchSteps.{may-go}
use Rattle.scheduler_core.proofs.cores.Core.take_launch.Goals as goal

pub make-requires-clause-may : goal.make-requires-clause-may
make-requires-clause-may c = (may-go c.args.occasion c.self.inside.book c.args.self.now c.args.next.now c.self.invariant c.self.view_is c.requires.next).may

pub make-requires-clause-beside : goal.make-requires-clause-beside
make-requires-clause-beside c = (may-go c.args.occasion c.self.inside.book c.args.self.now c.args.next.now c.self.invariant c.self.view_is c.requires.next).beside

pub make-requires-clause-move_is : goal.make-requires-clause-move_is
make-requires-clause-move_is c = (may-go c.args.occasion c.self.inside.book c.args.self.now c.args.next.now c.self.invariant c.self.view_is c.requires.next).is

pub make-requires-clause-fit : goal.make-requires-clause-fit
make-requires-clause-fit c = (may-go c.args.occasion c.self.inside.book c.args.self.now c.args.next.now c.self.invariant c.self.view_is c.requires.next).fits

pub make-requires-clause-tie : goal.make-requires-clause-tie
make-requires-clause-tie c = (may-go c.args.occasion c.self.inside.book c.args.self.now c.args.next.now c.self.invariant c.self.view_is c.requires.next).ties

pub returns-clause-meets : goal.returns-clause-meets
returns-clause-meets c =
    let o = c.args.occasion in
    let new = plan_of c.make.new.self in
    subst (λ (v : View). StepsAt o (launch.effect o.entry) v.plan c.make.result new) c.self.view_is
    (subst (λ (q : Plan). Meets o tt q (plan_of c.self.inside.book) c.make.result new) (sym (may-go c.args.occasion c.self.inside.book c.args.self.now c.args.next.now c.self.invariant c.self.view_is c.requires.next).leads) c.make.ensures.meets)

pub returns-clause-spare : goal.returns-clause-spare
returns-clause-spare c =
    let most = (may-go c.args.occasion c.self.inside.book c.args.self.now c.args.next.now c.self.invariant c.self.view_is c.requires.next).few in
    let used = c.make.ensures.spare in
    let seen = ap (λ (v : View). v.spare) c.self.view_is in
    omega (arith, most, used, seen)

pub returns-clause-err : goal.returns-clause-err
returns-clause-err c = subst (λ (v : View). OnErr c.make.result (v.spare ≤ spare c.make.new.self)) c.self.view_is c.make.ensures.err
