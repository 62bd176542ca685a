use Rattle.std.proofs.Common.{◌≡◌, ◌+◌, ◌≤◌, drop, filter, length}
use Rattle.soak.specs.Summaries.{is_refused}
use Rattle.soak.proofs.summaries.count_refusals.Given as goal

-- the refusals so far, and those that are left, are all of them
abbrev pub invariant-loop-entry : goal.invariant-loop-entry
invariant-loop-entry l = record {
  few : l.count ≤ l.entry-index;
  all : l.count + length (filter is_refused (drop l.entry-index l.entries)) ≡ length (filter is_refused l.entries);
}
