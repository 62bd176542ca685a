-- How `lint` ends: our profile.
use Rattle.std.specs.Prelude.{◌≡◌, ◌⊎◌, ℕ, List, Option}
use Rattle.std.specs.Io.KnownBytes.{Appends}
use Rattle.byte_streams.specs.Streams.{AppendsFront}
use Rattle.script_text.specs.declared.scripts.Mode.{Mode}
use Rattle.script_text.specs.declared.scripts.Script.{Script}
use Rattle.journal_commands.specs.declared.status.Status.{Status}
use Rattle.journal_commands.specs.declared.status.Status.TheVariants.{Done, Text, Words, ReadFault, WriteFault, Memory, JournalFull, NotLegal}
use Rattle.journal_commands.specs.Statuses.{IsRefused}
use Rattle.lint_command.specs.Kinds.{IsScript, IsJudged, IsBadLine, IsLinted}

-- For each status: what the bytes are, and what was written of them, by what the sink had before and has then.
abbrev pub LintEnds : List ℕ → Status → Option (List ℕ) → Option (List ℕ) → Type 0
LintEnds bytes Done old new = (text : List ℕ) × IsLinted bytes text × Appends old new text
LintEnds bytes (Text line) old new = IsBadLine bytes line
LintEnds bytes Words old new = ⊥
LintEnds bytes ReadFault old new = Unit {0}
LintEnds bytes WriteFault old new = (text : List ℕ) × IsLinted bytes text × AppendsFront old new text
LintEnds bytes Memory old new = Unit {0}
LintEnds bytes (JournalFull size) old new = ⊥
LintEnds bytes (NotLegal entry given machine) old new = ⊥

-- Where no read and no write failed: of a script its warnings are written, and other bytes are refused, unless memory runs out.
pub record LintIsWhole (bytes : List ℕ) (status : Status) : Type 0 where
  pub script : (s : Script) → IsJudged bytes s → (status ≡ Memory) ⊎ (status ≡ Done)
  pub other : ((mode : Mode) (s : Script) → IsScript mode bytes s → ⊥) → IsRefused status
