use Rattle.std.proofs.Common.{rules, arith}
use Rattle.std.proofs.lemmas.Fn.{always_returns_same}
use Rattle.reservation_calendar.specs.declared.boundaries.Boundary.{Boundary}
use Rattle.reservation_calendar.specs.Loads.{is_before}
use Rattle.reservation_calendar.specs.Timelines.{nowhere}
use Rattle.reservation_calendar.proofs.Places.{parted_before}
use Rattle.reservation_calendar.proofs.boundaries.count_before.Goals as goal

pub returns : goal.returns
returns c =
    let parts = c.partition_point.ensures.partitioned (λ (step : Boundary). is_before step.moment c.args.until.now) (always_returns_same _ _ _ (λ a r f' called. search rules)) (parted_before _ c.args.until.now c.requires) in
    record {
      within = c.partition_point.ensures.bound;
      before = λ k lt. parts.0 k nowhere (omega arith) lt;
      after = λ k le lt. parts.1 k nowhere le lt;
    }
