use Rattle.std.proofs.Common.{◌≡◌, ◌≤◌, ◌<◌, length, rules, sym, arith}
use Rattle.drmaa_types.specs.Moments.{greatest}
use Rattle.reservation_calendar.proofs.Raising.{load_here}
use Rattle.reservation_calendar.proofs.Crossing.{low_first, low_more, low_all, in_order, step_inside, read_load, read_moment, start_inside, load_first, above_later}
use Rattle.reservation_calendar.proofs.heights.first_above.Goals as goal

pub returns-then-most-load_before-clause-above : goal.returns-then-most-load_before-clause-above
returns-then-most-load_before-clause-above c =
    let moment : c.args.from ≤ greatest = search rules in
    record {
      inside = start_inside c.args.from c.args.until.now (sym c.if-not-is_before.ensures) moment;
      above = omega (arith, load_first c.args.steps.now c.args.from c.count_until-first.result c.count_until-first.ensures);
    }

pub loop-k-init : goal.loop-k-init
loop-k-init c = low_first c.args.steps.now c.args.most c.args.from _ c.requires c.count_until-first.ensures (omega arith)

pub returns-then-most-steps-clause-above : goal.returns-then-most-steps-clause-above
returns-then-most-steps-clause-above c =
    let steps = c.args.steps.now in
    let k = c.loop-k.k in
    let within = c.count_before-last.ensures.within in
    let inside : k < length steps = omega arith in
    let above = c.if-most-steps.true in
    rw (read_moment steps k c.index-steps-k-then-most-steps.result inside) (record {
      inside = step_inside steps c.args.from _ _ k c.args.until.now c.requires c.count_until-first.ensures c.count_before-last.ensures (omega arith) (omega arith);
      above = omega (arith, read_load steps k c.index-steps-k.result inside, load_here steps k c.requires.rising inside);
    })

pub returns-then-most-steps-clause-least : goal.returns-then-most-steps-clause-least
returns-then-most-steps-clause-least c y above =
    let steps = c.args.steps.now in
    let within = c.count_before-last.ensures.within in
    let inside : c.loop-k.k < length steps = omega arith in
    rw (read_moment steps c.loop-k.k c.index-steps-k-then-most-steps.result inside)
    (above_later steps c.args.most c.args.from c.loop-k.k y c.args.until.now inside c.loop-k.invariant above)

pub loop-k-preserved : goal.loop-k-preserved
loop-k-preserved c =
    let steps = c.args.steps.now in
    let within = c.count_before-last.ensures.within in
    let inside : c.loop-k.k < length steps = omega arith in
    low_more steps c.args.most c.args.from c.loop-k.k c.requires inside c.loop-k.invariant (omega (arith, read_load steps c.loop-k.k c.index-steps-k.result inside))

pub returns-clause-none : goal.returns-clause-none
returns-clause-none c =
    let order = in_order c.args.steps.now c.args.from _ _ c.args.until.now (sym c.if-not-is_before.ensures) c.count_until-first.ensures c.count_before-last.ensures in
    let last : c.loop-k.k ≡ c.count_before-last.result = omega arith in
    low_all c.args.steps.now c.args.most c.args.from c.loop-k.k c.args.until.now (rw last c.count_before-last.ensures) c.loop-k.invariant
