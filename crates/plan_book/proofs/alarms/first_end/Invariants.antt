use Rattle.std.proofs.Common.{take}
use Rattle.std.specs.List.{AllByRecursion}
use Rattle.plan_book.specs.Quiet.{LastsUntil}
use Rattle.plan_book.proofs.alarms.first_end.Given as goal

abbrev pub invariant-loop-r : goal.invariant-loop-r
invariant-loop-r l = AllByRecursion (LastsUntil l.first) (take l.r-index l.r-items)
