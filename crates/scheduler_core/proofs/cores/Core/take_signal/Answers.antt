use Rattle.std.proofs.Common.{sym, subst}
use Rattle.drmaa_model.specs.Fit.{IsFit}
use Rattle.drmaa_model.specs.Launching.{signal}
use Rattle.drmaa_model.specs.Plan.{Plan}
use Rattle.plan_book.specs.declared.moves.Move.{Move}
use Rattle.plan_book.specs.Book.{IsMove, moved, plan_of}
use Rattle.plan_book.specs.Occasions.{Meets, StepsAt, plan_at}
use Rattle.plan_book.specs.Ties.{KeepsTie}
use Rattle.scheduler_core.specs.View.{View}
use Rattle.scheduler_core.proofs.SignalLaws.{takes-at}
use Rattle.scheduler_core.proofs.cores.Core.take_signal.Goals as goal

pub make-requires-clause-move_is : goal.make-requires-clause-move_is
make-requires-clause-move_is c = subst (IsMove (plan_at c.args.occasion (plan_of c.self.inside.book))) (sym c.take_move-m.ensures) (takes-at c.args.occasion c.self.inside.book c.args.self.now c.args.next.now c.self.invariant c.self.view_is c.requires.next).is

pub make-requires-clause-fit : goal.make-requires-clause-fit
make-requires-clause-fit c =
    let q = plan_at c.args.occasion (plan_of c.self.inside.book) in
    subst (λ (m : Move). IsFit (moved c.args.occasion.entry m q)) (sym c.take_move-m.ensures) (takes-at c.args.occasion c.self.inside.book c.args.self.now c.args.next.now c.self.invariant c.self.view_is c.requires.next).fits

pub make-requires-clause-tie : goal.make-requires-clause-tie
make-requires-clause-tie c =
    let q = plan_at c.args.occasion (plan_of c.self.inside.book) in
    subst (λ (m : Move). KeepsTie m.booked m.job q (moved c.args.occasion.entry m q)) (sym c.take_move-m.ensures) (takes-at c.args.occasion c.self.inside.book c.args.self.now c.args.next.now c.self.invariant c.self.view_is c.requires.next).ties

pub returns-clause-meets : goal.returns-clause-meets
returns-clause-meets c =
    let o = c.args.occasion in
    let p = plan_of c.self.inside.book in
    let new = plan_of c.make.new.self in
    let made = subst (λ (m : Move). StepsAt o (moved o.entry m) p c.make.result new) c.take_move-m.ensures c.make.ensures.meets in
    subst (λ (v : View). StepsAt o (signal.effect o.entry) v.plan c.make.result new) c.self.view_is
    (subst (λ (q : Plan). Meets o tt q p c.make.result new) (sym (takes-at c.args.occasion c.self.inside.book c.args.self.now c.args.next.now c.self.invariant c.self.view_is c.requires.next).leads) made)
