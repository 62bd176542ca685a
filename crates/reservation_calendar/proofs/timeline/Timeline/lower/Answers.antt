use Rattle.std.proofs.Common.{◌≡◌, sym, ap, arith}
use Rattle.reservation_calendar.specs.Timelines.{Line, load_at, moment_of}
use Rattle.reservation_calendar.proofs.Raising.{places_in_order, slots_between, load_here, lowered_loads, raised_edges, lowered_sound}
use Rattle.reservation_calendar.proofs.timeline.Timeline.lower.Goals as goal

pub lower-requires-clause-order : goal.lower-requires-clause-order
lower-requires-clause-order c =
    places_in_order c.self.inside.steps.items c.args.booking.now.from _ _ c.args.booking.now.until c.requires.lasting
    (rw c.deref.ensures.value at c.count_before-first.ensures) (rw c.deref-2.ensures.value at c.count_before-last.ensures)

pub lower-requires-clause-fits : goal.lower-requires-clause-fits
lower-requires-clause-fits c k since before =
    let steps = c.self.inside.steps.items in
    let start = rw c.deref.ensures.value at c.count_before-first.ensures in
    let end = rw c.deref-2.ensures.value at c.count_before-last.ensures in
    let same : load_at c.args.self.now.steps (moment_of steps k) ≡ load_at steps (moment_of steps k) = ap (λ (l : Line). load_at l.steps (moment_of steps k)) (sym c.self.view_is) in
    let here = load_here steps k c.self.invariant.rising (let h = end.within in omega arith) in
    let fits = c.requires.fits (moment_of steps k) in
    let takes = slots_between steps c.args.booking.now _ _ k c.self.invariant start end since before in
    omega arith

pub invariant_of-self : goal.invariant_of-self
invariant_of-self c = lowered_sound _ _ _ _ _ c.lower.ensures c.self.invariant

pub returns-clause-loads : goal.returns-clause-loads
returns-clause-loads c x =
    let start = rw c.deref.ensures.value at c.count_before-first.ensures in
    let end = rw c.deref-2.ensures.value at c.count_before-last.ensures in
    rw (← c.self.view_is)
    (lowered_loads _ _ c.args.booking.now _ _ x c.self.invariant c.lower.ensures start end (rw (← c.self.view_is) at c.requires.start) (rw (← c.self.view_is) at c.requires.end))

pub returns-clause-edges : goal.returns-clause-edges
returns-clause-edges c x = rw (← c.self.view_is) (sym (raised_edges _ _ _ _ _ x c.lower.ensures))
