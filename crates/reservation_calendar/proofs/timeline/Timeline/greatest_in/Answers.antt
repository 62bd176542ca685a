use Rattle.reservation_calendar.proofs.timeline.Timeline.greatest_in.Goals as goal

pub returns-clause-high : goal.returns-clause-high
returns-clause-high c = rw (← c.self.view_is) (rw c.deref.ensures.value at c.greatest_in.ensures.high)

pub returns-clause-least : goal.returns-clause-least
returns-clause-least c = rw (← c.self.view_is) (rw c.deref.ensures.value at c.greatest_in.ensures.least)
