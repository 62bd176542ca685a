-- How a run ends, and what is said of it: our profile.
use Rattle.std.specs.Prelude.{◌≡◌, ◌⊎◌, ◌++◌, ℕ, List, Option, Some, None, Result, Ok, Err, IfSome, codes, decimal}
use Rattle.journal_commands.specs.declared.status.Status.{Status}
use Rattle.journal_commands.specs.declared.status.Status.TheVariants.{Done, Text, Words, ReadFault, WriteFault, Memory, JournalFull, NotLegal}
use Rattle.journal_commands.specs.Statuses.{status_text}
use Rattle.lint_command.specs.declared.judging.Refused.{Refused}
use Rattle.lint_command.specs.declared.judging.Refused.TheVariants.{Line, OutOfMemory}
use Rattle.lint_command.specs.declared.outcomes.Outcome.{Outcome}
use Rattle.lint_command.specs.Refusals.{IsOneLine}

-- how a run ends that has nothing to write
abbrev pub status_at : Refused → Status
status_at (Line line advice) = Text line
status_at OutOfMemory = Memory

-- advice is given of a bad line alone
abbrev pub IsAdvised : Status → Option (List ℕ) → Type 0
IsAdvised (Text line) advice = IfSome advice IsOneLine
IsAdvised Done advice = advice ≡ None
IsAdvised Words advice = advice ≡ None
IsAdvised ReadFault advice = advice ≡ None
IsAdvised WriteFault advice = advice ≡ None
IsAdvised Memory advice = advice ≡ None
IsAdvised (JournalFull size) advice = advice ≡ None
IsAdvised (NotLegal entry given machine) advice = advice ≡ None

-- this was made of the script, or a read failed, or memory ran out
abbrev pub IsMadeAs : List ℕ → Result (List ℕ) Outcome → Type 0
IsMadeAs text (Ok made) = made ≡ text
IsMadeAs text (Err outcome) = (outcome.status ≡ ReadFault) ⊎ (outcome.status ≡ Memory)

-- what is said of the end: the advice where there is some, and else what is said of the status
abbrev pub line_text : ℕ → List ℕ → List ℕ
line_text line advice = codes "line " ++ (decimal line ++ (codes ": " ++ advice))

abbrev pub advised_text : Status → List ℕ → List ℕ
advised_text (Text line) advice = line_text line advice
advised_text Done advice = status_text Done
advised_text Words advice = status_text Words
advised_text ReadFault advice = status_text ReadFault
advised_text WriteFault advice = status_text WriteFault
advised_text Memory advice = status_text Memory
advised_text (JournalFull size) advice = status_text (JournalFull size)
advised_text (NotLegal entry given machine) advice = status_text (NotLegal entry given machine)

abbrev pub outcome_text : Status → Option (List ℕ) → List ℕ
outcome_text status None = status_text status
outcome_text status (Some advice) = advised_text status advice
