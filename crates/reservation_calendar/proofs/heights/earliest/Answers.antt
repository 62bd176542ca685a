use Rattle.std.proofs.Common.{◌≡◌, ◌≤◌, ◌<◌, ◌+◌, ℕ, length, true, rules, IsSomeAnd, arith}
use Rattle.std.proofs.lemmas.Bool.{both_ways}
use Rattle.std.proofs.lemmas.Bool.Decides.{nat_tests}
use Rattle.drmaa_types.specs.Moments.{greatest}
use Rattle.drmaa_types.specs.declared.moments.End.TheVariants.{At}
use Rattle.reservation_calendar.specs.Loads.{is_before}
use Rattle.reservation_calendar.specs.Timelines.{moment_of}
use Rattle.reservation_calendar.proofs.Crossing.{in_order, read_load, read_moment}
use Rattle.reservation_calendar.proofs.Runs.{run_start, run_more, run_low, run_least, run_none}
use Rattle.reservation_calendar.proofs.heights.earliest.Goals as goal

pub loop-k-init : goal.loop-k-init
loop-k-init c =
    let frame : c.args.until ≤ greatest = search rules in
    rw c.start_where-start.ensures
    (run_start c.args.steps.now c.args.most c.args.from c.args.until c.args.span c.requires.sound c.requires.span frame c.count_until-first.result c.load_before.result c.count_until-first.ensures c.load_before.ensures)

pub loop-k-preserved : goal.loop-k-preserved
loop-k-preserved c =
    let steps = c.args.steps.now in
    let k = c.loop-k.k in
    let frame : c.args.until ≤ greatest = search rules in
    let within = c.count_before-last.ensures.within in
    let inside : k < length steps = omega arith in
    let since : c.args.from ≤ moment_of steps k = (let h = c.count_until-first.ensures.after k (omega arith) inside in grind (arith, nat_tests)) in
    let short : IsSomeAnd c.loop-k.start (λ (s : ℕ). s + c.args.span ≤ moment_of steps k) → ⊥ = λ ends. both_ways c.ends_by.result c.if-ends_by.false (c.ends_by.ensures.1 (rw (read_moment steps k c.index-steps-k.result inside) ends)) in
    rw c.start_where-start-in-loop-k.ensures
    (run_more steps c.args.most c.args.from c.args.until c.args.span c.requires.sound c.requires.span frame k c.loop-k.start _ _ inside since c.loop-k.invariant short
    (read_load steps k c.index-steps-k-in-loop-k.result inside) (read_moment steps k c.index-steps-k-in-loop-k-2.result inside))

pub returns-then-ends_by-clause-low : goal.returns-then-ends_by-clause-low
returns-then-ends_by-clause-low c =
    let steps = c.args.steps.now in
    let k = c.loop-k.k in
    let frame : c.args.until ≤ greatest = search rules in
    let within = c.count_before-last.ensures.within in
    let inside : k < length steps = omega arith in
    let ends : IsSomeAnd c.loop-k.start (λ (s : ℕ). s + c.args.span ≤ moment_of steps k) = rw (read_moment steps k c.index-steps-k.result inside) at (c.ends_by.ensures.0 c.if-ends_by.true) in
    let before = c.count_before-last.ensures.before k (omega arith) in
    run_low steps c.args.most c.args.from c.args.until c.args.span c.requires.sound c.requires.span frame k (moment_of steps k) c.loop-k.start c.loop-k.invariant ends (grind (arith, nat_tests)) (λ y lt _. lt)

pub returns-then-ends_by-clause-least : goal.returns-then-ends_by-clause-least
returns-then-ends_by-clause-least c =
    let frame : c.args.until ≤ greatest = search rules in
    run_least c.args.steps.now c.args.most c.args.from c.args.until c.args.span c.requires.sound c.requires.span frame c.loop-k.k c.loop-k.start c.loop-k.invariant

pub returns-else-ends_by-2-clause-none : goal.returns-else-ends_by-2-clause-none
returns-else-ends_by-2-clause-none c =
    let steps = c.args.steps.now in
    let frame : c.args.until ≤ greatest = search rules in
    let lasting : is_before c.args.from (At c.args.until) ≡ true = search rules in
    let order = in_order steps c.args.from c.count_until-first.result c.count_before-last.result (At c.args.until) lasting c.count_until-first.ensures c.count_before-last.ensures in
    let last : c.loop-k.k ≡ c.count_before-last.result = omega arith in
    let short : IsSomeAnd c.loop-k.start (λ (s : ℕ). s + c.args.span ≤ c.args.until) → ⊥ = λ ends. both_ways c.ends_by-2.result c.if-ends_by-2.false (c.ends_by-2.ensures.1 ends) in
    run_none steps c.args.most c.args.from c.args.until c.args.span c.requires.sound c.requires.span frame c.loop-k.k c.loop-k.start (rw last c.count_before-last.ensures) c.loop-k.invariant short
