use Rattle.reservation_calendar.proofs.timeline.Timeline.first_above.Goals as goal

pub returns-clause-above : goal.returns-clause-above
returns-clause-above c = rw (← c.self.view_is) (rw c.deref.ensures.value at c.first_above.ensures.above)

pub returns-clause-least : goal.returns-clause-least
returns-clause-least c = rw (← c.self.view_is) (rw c.deref.ensures.value at c.first_above.ensures.least)

pub returns-clause-none : goal.returns-clause-none
returns-clause-none c = rw (← c.self.view_is) (rw c.deref.ensures.value at c.first_above.ensures.none)
