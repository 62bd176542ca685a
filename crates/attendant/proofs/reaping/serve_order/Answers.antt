use Rattle.attendant.specs.Posts.{post}
use Rattle.attendant.specs.PairLaws.{post-itself}
use Rattle.attendant.proofs.Desks.{still-free, still-both}
use Rattle.std.proofs.Common.{None, refl}
use Rattle.std.proofs.lemmas.Result.{err_from_is_err_and}
use Rattle.slab.specs.Slab.{get}
use Rattle.attendant.proofs.Ends.{take_order_keeping, take_order_agreeing, keeping_on, agreeing_on}
use Rattle.attendant.proofs.reaping.serve_order.Goals as goal

pub returns-in_err-take_order-clause-keeping : goal.returns-in_err-take_order-clause-keeping
returns-in_err-take_order-clause-keeping g c = take_order_keeping g.T.Child.told _ _ (get c.args.reaper.now.children) _ _ c.take_order.result c.take_order.ensures.steps

pub returns-in_err-take_order-clause-agreeing : goal.returns-in_err-take_order-clause-agreeing
returns-in_err-take_order-clause-agreeing g c = take_order_agreeing _ _ _ _ c.take_order.result c.take_order.ensures.steps

pub returns-in-Some-clause-keeping : goal.returns-in-Some-clause-keeping
returns-in-Some-clause-keeping g c = keeping_on g.T.Child.told _ _ _ _ _ _ _ _ _
    (take_order_keeping g.T.Child.told _ _ (get c.args.reaper.now.children) _ _ c.take_order.result c.take_order.ensures.steps) c.serve_hand.ensures.keeping

pub returns-in-Some-clause-agreeing : goal.returns-in-Some-clause-agreeing
returns-in-Some-clause-agreeing g c = agreeing_on _ _ _ (take_order_agreeing _ _ _ _ c.take_order.result c.take_order.ensures.steps) c.serve_hand.ensures.agreeing

pub returns-in_err-take_order-clause-steps : goal.returns-in_err-take_order-clause-steps
returns-in_err-take_order-clause-steps g c =
    let none = c.in_err-take_order.ensures.err refl in
    let p = err_from_is_err_and c.from_residual.result c.from_residual.ensures.1 in
    record {
      taken = post g.C.Clock.given g.C.Clock.least c.take_order.new.desk;
      hand_taken = None;
      take = c.take_order.result;
      to_taken = c.take_order.ensures.desk;
      takes = rw none at c.take_order.ensures.steps;
      to_new = post-itself _ (still-free _ _ c.take_order.ensures.desk);
      serves = rw (c.in_err-take_order.was, p.1, p.2) (record { mine_is = refl; hand_is = none; same = λ k. refl; unasked = refl }, refl);
    }

pub returns-in-Some-clause-desk : goal.returns-in-Some-clause-desk
returns-in-Some-clause-desk g c = still-both _ _ _ c.take_order.ensures.desk c.serve_hand.ensures.desk

pub returns-in-None-clause-steps : goal.returns-in-None-clause-steps
returns-in-None-clause-steps g c = record {
  taken = post g.C.Clock.given g.C.Clock.least c.take_order.new.desk;
  hand_taken = None;
  take = c.take_order.result;
  to_taken = c.take_order.ensures.desk;
  takes = rw c.in-None.is at c.take_order.ensures.steps;
  to_new = post-itself _ (still-free _ _ c.take_order.ensures.desk);
  serves = rw c.in_ok-take_order.was (record { mine_is = refl; hand_is = c.in-None.is; same = λ k. refl; unasked = refl }, refl);
}
