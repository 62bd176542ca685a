use Rattle.std.proofs.Common.{◌≡◌, vec_len}
use Rattle.reservation_calendar.specs.Timelines.{IsRaised}
use Rattle.reservation_calendar.proofs.boundaries.lower.Given as goal

abbrev pub invariant-loop-k : goal.invariant-loop-k
invariant-loop-k l = (vec_len l.steps ≡ vec_len l.initial.steps) × IsRaised l.steps.items l.initial.steps.items l.first l.k l.slots
