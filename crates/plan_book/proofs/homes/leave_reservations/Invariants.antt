use Rattle.std.proofs.Common.{◌≡◌, ◌++◌, map, take, drop}
use Rattle.drmaa_model.specs.declared.reservations.Accepted.{Accepted}
use Rattle.drmaa_model.specs.Effects.{left_by}
use Rattle.plan_book.proofs.homes.leave_reservations.Given as goal

abbrev pub invariant-loop-r : goal.invariant-loop-r
invariant-loop-r l = l.r-items ≡ map (λ (x : Accepted). record x { home = left_by l.home x.home }) (take l.r-index l.initial.r-items) ++ drop l.r-index l.initial.r-items
