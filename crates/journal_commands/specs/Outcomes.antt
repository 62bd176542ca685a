-- How a command on a journal ends, by what it makes of a journal: our profile.
use Rattle.std.specs.Prelude.{◌≡◌, ◌⊎◌, ℕ, List, Option, Some, None}
use Rattle.std.specs.Io.KnownBytes.{Appends}
use Rattle.byte_streams.specs.Streams.{AppendsFront}
use Rattle.drmaa_model.specs.declared.replies.Reply.{Reply}
use Rattle.journal_text.specs.Journals as journals
use Rattle.journal_text.specs.declared.journals.Journal.{Journal}
use Rattle.text_lines.specs.Lines.{IsFirstBad}
use Rattle.journal_commands.specs.declared.running.Made.{Made}
use Rattle.journal_commands.specs.declared.running.Made.TheVariants as made
use Rattle.journal_commands.specs.declared.status.Status.{Status}
use Rattle.journal_commands.specs.declared.status.Status.TheVariants.{Done, Text, Words, ReadFault, WriteFault, Memory, JournalFull, NotLegal}
use Rattle.journal_commands.specs.Statuses.{IsRefused, ended_as}
use Rattle.journal_commands.specs.Texts.{IsJournalText}

-- What a command says of a journal: what may be written of it, and the size that stopped the command, if any; and for which entry it
-- may be refused, with the reply that stands there and the machine's.
abbrev pub Writing : Type 1
Writing = Journal → List ℕ → Option ℕ → Type 0

abbrev pub Refusing : Type 1
Refusing = Journal → ℕ → Reply → Option Reply → Type 0

-- a command made this of a journal
abbrev pub Makes : Writing → Refusing → Journal → Made → Type 0
Makes Writes Refuses j (made.Written output) = Writes j output.text output.full
Makes Writes Refuses j (made.NotLegal entry given machine) = Refuses j entry given machine
Makes Writes Refuses j made.OutOfMemory = Unit {0}

-- how it ends where nothing fails
abbrev pub end_of : Made → Status
end_of (made.Written output) = ended_as output.full
end_of (made.NotLegal entry given machine) = NotLegal entry given machine
end_of made.OutOfMemory = Memory

-- how it ends, and what was written then, by what the sink had before and has then
abbrev pub OutputEnds : List ℕ → Option ℕ → Status → Option (List ℕ) → Option (List ℕ) → Type 0
OutputEnds text full Done old new = (full ≡ None) × Appends old new text
OutputEnds text full (Text line) old new = ⊥
OutputEnds text full Words old new = ⊥
OutputEnds text full ReadFault old new = ⊥
OutputEnds text full WriteFault old new = AppendsFront old new text
OutputEnds text full Memory old new = ⊥
OutputEnds text full (JournalFull size) old new = (full ≡ Some size) × Appends old new text
OutputEnds text full (NotLegal entry given machine) old new = ⊥

abbrev pub MadeEnds : Made → Status → Option (List ℕ) → Option (List ℕ) → Type 0
MadeEnds (made.Written output) status old new = OutputEnds output.text output.full status old new
MadeEnds (made.NotLegal entry given machine) status old new = status ≡ NotLegal entry given machine
MadeEnds made.OutOfMemory status old new = status ≡ Memory

-- For each status: what the bytes are, and what was written of them, by what the sink had before and has then.
abbrev pub JournalEnds : Writing → Refusing → List ℕ → Status → Option (List ℕ) → Option (List ℕ) → Type 0
JournalEnds Writes Refuses bytes Done old new = (j : Journal) × (text : List ℕ) × IsJournalText bytes j × Writes j text None × Appends old new text
JournalEnds Writes Refuses bytes (Text line) old new = IsFirstBad journals.Spells 268_435_456 bytes line
JournalEnds Writes Refuses bytes Words old new = ⊥
JournalEnds Writes Refuses bytes ReadFault old new = Unit {0}
JournalEnds Writes Refuses bytes WriteFault old new = (j : Journal) × (text : List ℕ) × (full : Option ℕ) × IsJournalText bytes j × Writes j text full × AppendsFront old new text
JournalEnds Writes Refuses bytes Memory old new = Unit {0}
JournalEnds Writes Refuses bytes (JournalFull size) old new = (j : Journal) × (text : List ℕ) × IsJournalText bytes j × Writes j text (Some size) × Appends old new text
JournalEnds Writes Refuses bytes (NotLegal entry given machine) old new = (j : Journal) × IsJournalText bytes j × Refuses j entry given machine

-- Whatever the source tells: a journal stands behind each status at which one was read.
abbrev pub CameTo : Writing → Refusing → Status → Type 0
CameTo Writes Refuses Done = (j : Journal) × (text : List ℕ) × Writes j text None
CameTo Writes Refuses (Text line) = Unit {0}
CameTo Writes Refuses Words = ⊥
CameTo Writes Refuses ReadFault = Unit {0}
CameTo Writes Refuses WriteFault = (j : Journal) × (text : List ℕ) × (full : Option ℕ) × Writes j text full
CameTo Writes Refuses Memory = Unit {0}
CameTo Writes Refuses (JournalFull size) = (j : Journal) × (text : List ℕ) × Writes j text (Some size)
CameTo Writes Refuses (NotLegal entry given machine) = (j : Journal) × Refuses j entry given machine

-- Where no read and no write failed: a journal decides how the command ends, and other bytes are refused, unless memory runs out.
pub record JournalIsWhole (Decides : Journal → Status → Type 0) (bytes : List ℕ) (status : Status) : Type 0 where
  pub journal : (j : Journal) → IsJournalText bytes j → (status ≡ Memory) ⊎ Decides j status
  pub other : ((j : Journal) → IsJournalText bytes j → ⊥) → IsRefused status
