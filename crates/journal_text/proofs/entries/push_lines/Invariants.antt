use Rattle.std.proofs.Common.{◌≡◌, ◌++◌, ◌+◌, drop, map}
use Rattle.std.specs.List.{AllByRecursion}
use Rattle.text_lines.specs.Lines.{ended}
use Rattle.journal_text.specs.Journals.{entry_lines, recorded_entry}
use Rattle.journal_text.specs.Printing.{IsRanged}
use Rattle.journal_text.proofs.entries.push_lines.Given as goal

-- what was printed so far, and what is left, are all of it; and where the entries left are in their ranges, all are
abbrev pub invariant-loop-i : goal.invariant-loop-i
invariant-loop-i l =
    (l.out.items ++ ended (entry_lines (l.i + 1) (map recorded_entry (drop l.i l.entries))) ≡ l.initial.out.items ++ ended (entry_lines 1 (map recorded_entry l.entries)))
    × (AllByRecursion IsRanged (map recorded_entry (drop l.i l.entries)) → AllByRecursion IsRanged (map recorded_entry l.entries))
