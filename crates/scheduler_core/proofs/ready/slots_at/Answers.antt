use Rattle.std.proofs.Common.{◌≤◌, ℕ, ◌+◌, ◌-◌, min, refl, sym, ◌∙◌, ap, subst, arith}
use Rattle.reservation_calendar.specs.Schedules.{Schedule}
use Rattle.plan_book.specs.Book.{plan_of}
use Rattle.plan_book.specs.Ties.{IsTied}
use Rattle.scheduler_core.specs.Launches.{capped}
use Rattle.scheduler_core.proofs.LaunchSteps.{most-calendar, most-inside, calendar-has, capped-least}
use Rattle.scheduler_core.proofs.ready.slots_at.Goals as goal

-- no more are asked for
pub returns-then-row : goal.returns-then-row
returns-then-row c =
    let p = plan_of c.args.book.now in
    let w = c.args.row.now.wants in
    record {
      least = omega arith;
      most = c.requires.range;
      free = subst (λ (k : ℕ). k + w.min ≤ p.total) c.requires.used c.requires.free;
      has = c.requires.has;
      no_more = λ n above low room. absurd (omega (arith, above, low, c.if-row.true));
    }

pub returns-in-Some-largest : goal.returns-in-Some-largest
returns-in-Some-largest c =
    let p = plan_of c.args.book.now in
    let found = c.in-Some-largest.ensures {u = tt} in
    most-calendar c.calendar.result.now p c.args.moment c.args.row.now.wants c.in-Some-largest.slots c.capped-most.result c.args.used c.left_in_queue.result c.planned_end-planned.result
    c.requires.book.fit (subst (λ (s : Schedule). IsTied s p) (sym c.calendar.ensures) c.requires.book.tied) c.requires.later c.in-None.is c.requires.used c.requires.free
    (c.capped-most.ensures ∙ ap (λ (n : ℕ). capped n c.left_in_queue.result) (c.min-most.ensures ∙ ap (λ (n : ℕ). min c.args.row.now.wants.max (n - c.args.used)) c.total.ensures)) c.left_in_queue.ensures.value c.planned_end-planned.ensures
    found.range.0 found.range.1 found.fits found.greatest

pub returns-in-None-largest : goal.returns-in-None-largest
returns-in-None-largest c =
    let p = plan_of c.args.book.now in
    let not = (c.in-None-largest.ensures {u = tt}).none in
    absurd (not.0 refl (calendar-has c.calendar.result.now p c.args.moment c.args.row.now.wants c.args.row.now.wants.min c.planned_end-planned.result
    c.requires.book.fit (subst (λ (s : Schedule). IsTied s p) (sym c.calendar.ensures) c.requires.book.tied) c.requires.later c.in-None.is c.planned_end-planned.ensures c.requires.has))

pub returns-in-Some : goal.returns-in-Some
returns-in-Some c =
    let p = plan_of c.args.book.now in
    most-inside p c.args.moment c.args.row.now.wants c.in-Some.number c.min.result c.min-most.result c.args.used c.left_in.result c.in-Some.is
    c.requires.used c.requires.free c.requires.range (c.min-most.ensures ∙ ap (λ (n : ℕ). min c.args.row.now.wants.max (n - c.args.used)) c.total.ensures) c.left_in.ensures c.min.ensures c.requires.has

pub largest-requires-clause-range : goal.largest-requires-clause-range
largest-requires-clause-range c =
    let p = plan_of c.args.book.now in
    let w = c.args.row.now.wants in
    let whole : w.min ≤ c.min-most.result = omega (arith, c.min-most.ensures, c.total.ensures, c.requires.free, c.requires.range) in
    subst (λ (n : ℕ). w.min ≤ n) (sym c.capped-most.ensures)
    (capped-least p c.args.moment w w.min c.min-most.result c.left_in_queue.result c.requires.book.fit c.in-None.is c.left_in_queue.ensures.value c.requires.has whole)

pub left_in_queue-requires-clause-known : goal.left_in_queue-requires-clause-known
left_in_queue-requires-clause-known c = c.new.ensures (plan_of c.args.book.now).rows
