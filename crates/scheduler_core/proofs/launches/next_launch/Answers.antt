use Rattle.std.proofs.Common.{◌≡◌, ℕ, filter, Some, None, sym, subst, arith}
use Rattle.drmaa_model.specs.declared.rows.Row.{Row}
use Rattle.drmaa_model.specs.FitLaws.{advance-fit}
use Rattle.drmaa_model.specs.NextLaunch.{best_of, is_ready, slots_for}
use Rattle.drmaa_model.specs.Time.{advance_plan, lasts}
use Rattle.drmaa_model.specs.TimeLaws.{timed-only, weight-advance}
use Rattle.plan_book.specs.Book.{plan_of}
use Rattle.scheduler_core.specs.Launches.{seen, seen_row, IsLaunchOf}
use Rattle.scheduler_core.proofs.LaunchSteps.{look-at, none-next, launch-next, NextFacts, next-facts}
use Rattle.scheduler_core.proofs.launches.next_launch.Goals as goal
use Rattle.scheduler_core.proofs.launches.next_launch.Goals.{In-Some}

pub returns-in-None-clause-next : goal.returns-in-None-clause-next
returns-in-None-clause-next c =
    let p = plan_of c.args.book.now in
    none-next (advance_plan 0 c.args.at p) (sym (look-at c.args.at c.moment_at-moment.result p None c.requires.book.fit c.moment_at-moment.ensures (c.in-None.ensures {u = tt})))

-- the row of the next launch, as it will be
first : (c : In-Some) → let q = advance_plan 0 c.args.at (plan_of c.args.book.now) in
    best_of (filter (λ (r : Row). is_ready q r.wants.min r) q.rows) ≡ Some (seen_row c.moment_at-moment.result (plan_of c.args.book.now) c.in-Some.row.now)
first c =
    let p = plan_of c.args.book.now in
    sym (look-at c.args.at c.moment_at-moment.result p (Some c.in-Some.row.now) c.requires.book.fit c.moment_at-moment.ensures (c.in-Some.ensures {u = tt}))

facts : (c : In-Some) → NextFacts c.args.at c.moment_at-moment.result (plan_of c.args.book.now) c.in-Some.row.now
facts c = next-facts c.args.at c.moment_at-moment.result (plan_of c.args.book.now) c.in-Some.row.now c.requires.book.fit c.moment_at-moment.ensures (first c)

pub next_of-requires-clause-ready : goal.next_of-requires-clause-ready
next_of-requires-clause-ready c = (facts c).ready

pub next_of-requires-clause-range : goal.next_of-requires-clause-range
next_of-requires-clause-range c = (facts c).range

pub next_of-requires-clause-least : goal.next_of-requires-clause-least
next_of-requires-clause-least c = (facts c).least

pub next_of-requires-clause-attempt : goal.next_of-requires-clause-attempt
next_of-requires-clause-attempt c =
    let p = plan_of c.args.book.now in
    let attempts = (facts c).attempt in
    let light = c.requires.book.light in
    omega (arith, attempts, light, weight-advance 0 c.args.at p)

pub returns-in_err-next_of-in-Some-clause-some : goal.returns-in_err-next_of-in-Some-clause-some
returns-in_err-next_of-in-Some-clause-some c = λ none. (let is = (facts c.before.before.before.before).first in absurd (cc))

pub returns-in_ok-next_of-in-Some-clause-some : goal.returns-in_ok-next_of-in-Some-clause-some
returns-in_ok-next_of-in-Some-clause-some c = λ none. (let is = (facts c.before.before.before).first in absurd (cc))

pub returns-in_ok-next_of-in-Some-clause-next : goal.returns-in_ok-next_of-in-Some-clause-next
returns-in_ok-next_of-in-Some-clause-next c =
    let p = plan_of c.args.book.now in
    let q = advance_plan 0 c.args.at p in
    let m = c.moment_at-moment.result in
    let row = c.in-Some.row.now in
    let at = seen_row m p row in
    let next = c.in_ok-next_of-in-Some.field-0 in
    let known = facts c.before.before.before in
    let made = subst (λ (r : Row). IsLaunchOf r m (slots_for (seen m p) at) next) (sym (timed-only m (filter (lasts m) p.reservations) row)) (c.in_ok-next_of-in-Some.ensures {u = tt}) in
    launch-next q at next (advance-fit 0 c.args.at p c.requires.book.fit) (first c.before.before.before)
    (subst (λ (n : ℕ). IsLaunchOf at n (slots_for q at) next) c.moment_at-moment.ensures
    (subst (λ (n : ℕ). IsLaunchOf at m n next) known.slots made))
