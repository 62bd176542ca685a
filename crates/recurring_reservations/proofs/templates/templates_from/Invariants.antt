use Rattle.std.proofs.Common.{◌≡◌, map, take}
use Rattle.recurring_reservations.specs.Occurrences.{from_moment}
use Rattle.recurring_reservations.proofs.templates.templates_from.Given as goal

-- the templates so far have the starts so far
abbrev pub invariant-loop-start : goal.invariant-loop-start
invariant-loop-start l = l.templates.items ≡ map (from_moment l.template) (take l.start-index l.starts)
