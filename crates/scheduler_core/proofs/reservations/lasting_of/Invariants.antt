use Rattle.std.proofs.Common.{◌≡◌, filter, drop}
use Rattle.drmaa_model.specs.Load.{reservation_of}
use Rattle.drmaa_model.specs.Time.{lasts}
use Rattle.scheduler_core.proofs.reservations.lasting_of.Given as goal

abbrev pub invariant-loop-r : goal.invariant-loop-r
invariant-loop-r l = reservation_of l.number (filter (lasts l.moment) (drop l.r-index l.r-items)) ≡ reservation_of l.number (filter (lasts l.moment) l.r-items)
