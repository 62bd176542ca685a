use Rattle.std.proofs.Common.{rules, leb, arith}
use Rattle.std.proofs.lemmas.Fn.{always_returns_same}
use Rattle.reservation_calendar.specs.declared.boundaries.Boundary.{Boundary}
use Rattle.reservation_calendar.specs.Timelines.{nowhere}
use Rattle.reservation_calendar.proofs.Places.{parted_until}
use Rattle.reservation_calendar.proofs.boundaries.count_until.Goals as goal

pub returns : goal.returns
returns c =
    let parts = c.partition_point.ensures.partitioned (λ (step : Boundary). leb step.moment c.args.x) (always_returns_same _ _ _ (λ a r f' called. search rules)) (parted_until _ c.args.x c.requires) in
    record {
      within = c.partition_point.ensures.bound;
      before = λ k lt. parts.0 k nowhere (omega arith) lt;
      after = λ k le lt. parts.1 k nowhere le lt;
    }
