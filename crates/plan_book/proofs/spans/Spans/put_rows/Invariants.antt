use Rattle.std.proofs.Common.{take}
use Rattle.std.specs.List.{AllByRecursion}
use Rattle.plan_book.specs.Spans.{AreBothSorted, IsSpanned, Keeps}
use Rattle.plan_book.proofs.spans.Spans.put_rows.Given as goal

-- the jobs so far are in their spans
abbrev pub invariant-loop-row : goal.invariant-loop-row
invariant-loop-row l = record {
  sorted : AreBothSorted l.self;
  arrays : Keeps l.fn.self.arrays l.self.arrays;
  homes : Keeps l.fn.self.homes l.self.homes;
  members : AllByRecursion (IsSpanned l.self) (take l.row-index l.more);
}
