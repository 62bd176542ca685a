use Rattle.std.proofs.Common.{◌≡◌, ◌≤◌, ◌<◌, length, rules, sym, arith}
use Rattle.drmaa_types.specs.Moments.{greatest}
use Rattle.reservation_calendar.proofs.Raising.{load_here}
use Rattle.reservation_calendar.proofs.Crossing.{low_first, low_more, low_all, low_raise, in_order, step_inside, read_load, start_inside, load_first}
use Rattle.reservation_calendar.proofs.heights.greatest_in.Goals as goal

pub loop-k-init : goal.loop-k-init
loop-k-init c =
    let moment : c.args.from ≤ greatest = search rules in
    record {
      high = low_first c.args.steps.now c.load_before-greatest.result c.args.from _ c.requires c.count_until-first.ensures (omega arith);
      least = λ most low.
          (let here = low c.args.from (start_inside c.args.from c.args.until.now (sym c.if-not-is_before.ensures) moment) in
          omega (arith, load_first c.args.steps.now c.args.from c.count_until-first.result c.count_until-first.ensures));
    }

pub loop-k-preserved : goal.loop-k-preserved
loop-k-preserved c =
    let steps = c.args.steps.now in
    let k = c.loop-k.k in
    let within = c.count_before-last.ensures.within in
    let inside : k < length steps = omega arith in
    let read = read_load steps k c.index-steps-k.result inside in
    record {
      high = low_more steps c.max-greatest.result c.args.from k c.requires inside (low_raise steps c.loop-k.greatest c.max-greatest.result c.args.from k (omega arith) c.loop-k.invariant.high) (omega arith);
      least = λ most low.
          (let passed = c.loop-k.invariant.least most low in
          let here = low _ (step_inside steps c.args.from _ _ k c.args.until.now c.requires c.count_until-first.ensures c.count_before-last.ensures (omega arith) (omega arith)) in
          omega (arith, load_here steps k c.requires.rising inside));
    }

pub returns-clause-high : goal.returns-clause-high
returns-clause-high c =
    let order = in_order c.args.steps.now c.args.from _ _ c.args.until.now (sym c.if-not-is_before.ensures) c.count_until-first.ensures c.count_before-last.ensures in
    let last : c.loop-k.k ≡ c.count_before-last.result = omega arith in
    low_all c.args.steps.now c.loop-k.greatest c.args.from c.loop-k.k c.args.until.now (rw last c.count_before-last.ensures) c.loop-k.invariant.high

pub returns-clause-least : goal.returns-clause-least
returns-clause-least c = c.loop-k.invariant.least
