use Rattle.std.proofs.Common.{◌≡◌, sym, ap, arith}
use Rattle.reservation_calendar.specs.Timelines.{Line, load_at, moment_of}
use Rattle.reservation_calendar.proofs.Raising.{places_in_order, between_places, load_here, raised_loads, raised_edges, raised_sound}
use Rattle.reservation_calendar.proofs.timeline.Timeline.raise.Goals as goal

pub raise-requires-clause-order : goal.raise-requires-clause-order
raise-requires-clause-order c =
    places_in_order c.self.inside.steps.items c.args.booking.now.from _ _ c.args.booking.now.until c.requires.lasting
    (rw c.deref.ensures.value at c.count_before-first.ensures) (rw c.deref-2.ensures.value at c.count_before-last.ensures)

pub raise-requires-clause-fits : goal.raise-requires-clause-fits
raise-requires-clause-fits c k since before =
    let steps = c.self.inside.steps.items in
    let start = rw c.deref.ensures.value at c.count_before-first.ensures in
    let end = rw c.deref-2.ensures.value at c.count_before-last.ensures in
    let same : load_at c.args.self.now.steps (moment_of steps k) ≡ load_at steps (moment_of steps k) = ap (λ (l : Line). load_at l.steps (moment_of steps k)) (sym c.self.view_is) in
    let here = load_here steps k c.self.invariant.rising (let h = end.within in omega arith) in
    let fits = c.requires.fits (moment_of steps k) (between_places steps c.args.booking.now.from _ _ k c.args.booking.now.until c.self.invariant start end since before) in
    omega arith

pub invariant_of-self : goal.invariant_of-self
invariant_of-self c = raised_sound _ _ _ _ _ c.raise.ensures c.self.invariant

pub returns-clause-loads : goal.returns-clause-loads
returns-clause-loads c x =
    let start = rw c.deref.ensures.value at c.count_before-first.ensures in
    let end = rw c.deref-2.ensures.value at c.count_before-last.ensures in
    rw (← c.self.view_is)
    (raised_loads _ _ c.args.booking.now _ _ x c.self.invariant.rising c.raise.ensures start end (rw (← c.self.view_is) at c.requires.start) (rw (← c.self.view_is) at c.requires.end))

pub returns-clause-edges : goal.returns-clause-edges
returns-clause-edges c x = rw (← c.self.view_is) (raised_edges _ _ _ _ _ x c.raise.ensures)
