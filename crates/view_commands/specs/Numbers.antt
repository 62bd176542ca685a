-- The number with which the program ends, and what it says: our profile.
use Rattle.std.specs.Prelude.{ℕ, Bool, true, false, List, codes, if◌then◌else◌}
use Rattle.journal_commands.specs.declared.status.Status.{Status}
use Rattle.journal_commands.specs.declared.status.Status.TheVariants.{Done, Text, Words, ReadFault, WriteFault, Memory, JournalFull, NotLegal}
use Rattle.journal_commands.specs.Statuses.{status_number, status_text}
use Rattle.run_views.specs.declared.jobs.Verdict.{Verdict}
use Rattle.run_views.specs.declared.jobs.Verdict.TheVariants.{AllEnded, SomeFailed, SomeLeft}

-- where all was written
abbrev pub verdict_number : Verdict → ℕ
verdict_number AllEnded = 0
verdict_number SomeFailed = 8
verdict_number SomeLeft = 9

abbrev pub verdict_text : Verdict → List ℕ
verdict_text AllEnded = codes "done"
verdict_text SomeFailed = codes "a job failed"
verdict_text SomeLeft = codes "a job is left"

-- all was written
abbrev pub is_done : Status → Bool
is_done Done = true
is_done (Text line) = false
is_done Words = false
is_done ReadFault = false
is_done WriteFault = false
is_done Memory = false
is_done (JournalFull size) = false
is_done (NotLegal entry given machine) = false

-- the verdict counts where all was written, and else the status
abbrev pub outcome_number : Status → Verdict → ℕ
outcome_number status v = if is_done status then verdict_number v else status_number status

abbrev pub outcome_text : Status → Verdict → List ℕ
outcome_text status v = if is_done status then verdict_text v else status_text status
