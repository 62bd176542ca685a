use Rattle.std.proofs.Common.{◌≡◌, ◌+◌, ◌++◌, drop, map, string_bytes, true}
use Rattle.journal_text.specs.Journals.{recorded_entry}
use Rattle.serde_json.specs.Written.{items_text}
use Rattle.journal_json.specs.Documents.{entries_data}
use Rattle.journal_json.proofs.entries.push_others.Given as goal

-- what was printed so far, and what is left, are all of it
abbrev pub invariant-loop-i : goal.invariant-loop-i
invariant-loop-i l =
    string_bytes l.out ++ items_text true (entries_data (l.i + 2) (map recorded_entry (drop l.i l.entries)))
    ≡ string_bytes l.initial.out ++ items_text true (entries_data 2 (map recorded_entry l.entries))
