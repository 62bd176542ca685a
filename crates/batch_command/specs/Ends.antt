-- How `script` ends: our profile.
use Rattle.std.specs.Prelude.{◌≡◌, ◌⊎◌, ℕ, List, Option}
use Rattle.std.specs.Io.KnownBytes.{Appends}
use Rattle.byte_streams.specs.Streams.{AppendsFront}
use Rattle.text_lines.specs.Lines.{IsTextOf, IsFirstBad}
use Rattle.command_scripts.specs.declared.batches.Batch.{Batch}
use Rattle.command_scripts.specs.declared.batches.Machine.{Machine}
use Rattle.command_scripts.specs.Batches.{most_bytes, SpellsBatch}
use Rattle.command_scripts.specs.Written.{IsWritten}
use Rattle.journal_commands.specs.declared.status.Status.{Status}
use Rattle.journal_commands.specs.declared.status.Status.TheVariants.{Done, Text, Words, ReadFault, WriteFault, Memory, JournalFull, NotLegal}
use Rattle.journal_commands.specs.Statuses.{IsRefused}

-- the bytes are the commands of this batch
abbrev pub AreCommands : Machine → List ℕ → Batch → Type 0
AreCommands m bytes batch = IsTextOf (SpellsBatch m) most_bytes bytes batch

-- For each status: what the bytes are, and what was written of them, by what the sink had before and has then.
abbrev pub BatchEnds : Machine → List ℕ → Status → Option (List ℕ) → Option (List ℕ) → Type 0
BatchEnds m bytes Done old new = (script : List ℕ) × IsWritten m bytes script × Appends old new script
BatchEnds m bytes (Text line) old new = IsFirstBad (SpellsBatch m) most_bytes bytes line
BatchEnds m bytes Words old new = ⊥
BatchEnds m bytes ReadFault old new = Unit {0}
BatchEnds m bytes WriteFault old new = (script : List ℕ) × IsWritten m bytes script × AppendsFront old new script
BatchEnds m bytes Memory old new = Unit {0}
BatchEnds m bytes (JournalFull size) old new = ⊥
BatchEnds m bytes (NotLegal entry given machine) old new = ⊥

-- Where no read and no write failed: of commands the script is written, and other bytes are refused, unless memory runs out.
pub record BatchIsWhole (m : Machine) (bytes : List ℕ) (status : Status) : Type 0 where
  pub commands : (batch : Batch) → AreCommands m bytes batch → (status ≡ Memory) ⊎ (status ≡ Done)
  pub other : ((batch : Batch) → AreCommands m bytes batch → ⊥) → IsRefused status
