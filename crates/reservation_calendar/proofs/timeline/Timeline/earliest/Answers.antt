use Rattle.reservation_calendar.proofs.timeline.Timeline.earliest.Goals as goal

pub returns-clause-low : goal.returns-clause-low
returns-clause-low c = rw (← c.self.view_is) (rw c.deref.ensures.value at c.earliest.ensures.low)

pub returns-clause-least : goal.returns-clause-least
returns-clause-least c = rw (← c.self.view_is) (rw c.deref.ensures.value at c.earliest.ensures.least)

pub returns-clause-none : goal.returns-clause-none
returns-clause-none c = rw (← c.self.view_is) (rw c.deref.ensures.value at c.earliest.ensures.none)
