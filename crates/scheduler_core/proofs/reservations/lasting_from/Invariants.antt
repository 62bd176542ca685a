use Rattle.std.proofs.Common.{◌≡◌, filter, drop}
use Rattle.drmaa_model.specs.Time.{lasts}
use Rattle.scheduler_core.specs.Reservations.{reservation_from}
use Rattle.scheduler_core.proofs.reservations.lasting_from.Given as goal

abbrev pub invariant-loop-r : goal.invariant-loop-r
invariant-loop-r l = reservation_from l.number (filter (lasts l.moment) (drop l.r-index l.r-items)) ≡ reservation_from l.number (filter (lasts l.moment) l.r-items)
