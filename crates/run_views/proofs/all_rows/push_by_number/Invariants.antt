use Rattle.std.proofs.Common.{◌≡◌, ◌++◌, drop}
use Rattle.std.specs.Prelude.{string_bytes}
use Rattle.run_views.specs.JobTexts.{rows_by_number}
use Rattle.run_views.specs.Tables.{row_by}
use Rattle.run_views.proofs.all_rows.push_by_number.Given as goal

-- what was written so far, and the rows that are left, are all that is written
abbrev pub invariant-loop-submission : goal.invariant-loop-submission
invariant-loop-submission l =
    string_bytes l.out ++ rows_by_number l.now (row_by l.now l.past.tales l.past.names) l.left (drop l.submission-index l.submissions)
    ≡ string_bytes l.fn.out ++ rows_by_number l.now (row_by l.now l.past.tales l.past.names) l.infos l.submissions
