-- How a run ends: our profile.
use Rattle.std.specs.Prelude.{ℕ, List, ◌++◌, codes, decimal, Option, Some, None}
use Rattle.text_lines.specs.declared.reading.TextFault.{TextFault}
use Rattle.text_lines.specs.declared.reading.TextFault.TheVariants as fault
use Rattle.journal_commands.specs.declared.status.Status.{Status}
use Rattle.journal_commands.specs.declared.status.Status.TheVariants.{Done, Text, Words, ReadFault, WriteFault, Memory, JournalFull, NotLegal}

-- the number with which the program ends
abbrev pub status_number : Status → ℕ
status_number Done = 0
status_number (Text line) = 1
status_number Words = 2
status_number ReadFault = 3
status_number WriteFault = 4
status_number Memory = 5
status_number (JournalFull size) = 6
status_number (NotLegal entry given machine) = 7

-- what is said of a status
abbrev pub status_text : Status → List ℕ
status_text Done = codes "done"
status_text (Text line) = codes "line " ++ decimal line ++ codes " is not in the grammar"
status_text Words = codes "unknown words"
status_text ReadFault = codes "reading failed"
status_text WriteFault = codes "writing failed"
status_text Memory = codes "out of memory"
status_text (JournalFull size) = codes "journal full at " ++ decimal size
status_text (NotLegal entry given machine) = codes "entry " ++ decimal entry ++ codes " is not legal"

-- the fault of a text, as a status
abbrev pub status_of : TextFault → Status
status_of (fault.Line line) = Text line
status_of fault.OutOfMemory = Memory

-- how a play ends: it was whole, or the journal would have had this size
abbrev pub ended_as : Option ℕ → Status
ended_as None = Done
ended_as (Some size) = JournalFull size

-- ---- what is true at some statuses

-- the sink was not asked
abbrev pub IsQuiet : Status → Type 0
IsQuiet Done = ⊥
IsQuiet (Text line) = Unit {0}
IsQuiet Words = Unit {0}
IsQuiet ReadFault = Unit {0}
IsQuiet WriteFault = ⊥
IsQuiet Memory = Unit {0}
IsQuiet (JournalFull size) = ⊥
IsQuiet (NotLegal entry given machine) = Unit {0}

-- the source was read to its end
abbrev pub HasRead : Status → Type 0
HasRead Done = Unit {0}
HasRead (Text line) = ⊥
HasRead Words = ⊥
HasRead ReadFault = ⊥
HasRead WriteFault = Unit {0}
HasRead Memory = ⊥
HasRead (JournalFull size) = Unit {0}
HasRead (NotLegal entry given machine) = Unit {0}

-- what was to be written was written, and the sink is finished
abbrev pub HasWritten : Status → Type 0
HasWritten Done = Unit {0}
HasWritten (Text line) = ⊥
HasWritten Words = ⊥
HasWritten ReadFault = ⊥
HasWritten WriteFault = ⊥
HasWritten Memory = ⊥
HasWritten (JournalFull size) = Unit {0}
HasWritten (NotLegal entry given machine) = ⊥

-- a line was refused, or memory ran out
abbrev pub IsRefused : Status → Type 0
IsRefused Done = ⊥
IsRefused (Text line) = Unit {0}
IsRefused Words = ⊥
IsRefused ReadFault = ⊥
IsRefused WriteFault = ⊥
IsRefused Memory = Unit {0}
IsRefused (JournalFull size) = ⊥
IsRefused (NotLegal entry given machine) = ⊥

-- why a text was not read
abbrev pub IsUnread : Status → Type 0
IsUnread Done = ⊥
IsUnread (Text line) = Unit {0}
IsUnread Words = ⊥
IsUnread ReadFault = Unit {0}
IsUnread WriteFault = ⊥
IsUnread Memory = Unit {0}
IsUnread (JournalFull size) = ⊥
IsUnread (NotLegal entry given machine) = ⊥

-- no script was begun: nothing was read, or what was read is refused
abbrev pub IsUnstarted : Status → Type 0
IsUnstarted Done = ⊥
IsUnstarted (Text line) = Unit {0}
IsUnstarted Words = Unit {0}
IsUnstarted ReadFault = Unit {0}
IsUnstarted WriteFault = ⊥
IsUnstarted Memory = ⊥
IsUnstarted (JournalFull size) = ⊥
IsUnstarted (NotLegal entry given machine) = Unit {0}
