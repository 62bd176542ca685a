-- What each command comes to, given all the bytes that it reads: our profile.
use Rattle.std.specs.Prelude.{◌≡◌, ◌<◌, ◌≤◌, ◌⊎◌, ℕ, List, Option, Some, None}
use Rattle.std.specs.Io.KnownBytes.{Appends}
use Rattle.byte_streams.specs.Streams.{AppendsFront}
use Rattle.drmaa_model.specs.History.{Ledger}
use Rattle.script_text.specs.Scripts as scripts
use Rattle.script_text.specs.declared.scripts.Mode.{Mode}
use Rattle.script_text.specs.declared.scripts.Mode.TheVariants as mode
use Rattle.script_text.specs.declared.scripts.Script.{Script}
use Rattle.text_lines.specs.Lines.{IsTextOf, IsFirstBad}
use Rattle.text_lines.specs.Skipping.{SpellsUnskipped}
use Rattle.script_commands.specs.declared.plays.Output.{Output}
use Rattle.script_commands.specs.declared.plays.Output.TheVariants.{Journal as JournalOutput, Listing}
use Rattle.journal_commands.specs.declared.status.Status.{Status}
use Rattle.journal_commands.specs.declared.status.Status.TheVariants.{Done, Text, Words, ReadFault, WriteFault, Memory, JournalFull, NotLegal}
use Rattle.script_commands.specs.Plays.{new_machine, play_behind, served_behind, journal_behind, listing_behind, own_behind, text_behind, IsWrittenBy}
use Rattle.script_commands.specs.Registers.{registers_of, end_of}
use Rattle.journal_commands.specs.Statuses.{IsRefused}

-- ---- texts

-- the lines of scripts of this grammar, some of which are skipped
abbrev pub SpellsScript : Mode → List (List ℕ) → Script → Type 0
SpellsScript grammar = SpellsUnskipped (scripts.Spells grammar)

-- the bytes are the whole text of this script
abbrev pub IsScriptText : Mode → List ℕ → Script → Type 0
IsScriptText grammar bytes script = IsTextOf (SpellsScript grammar) 16_777_216 bytes script

-- the journal of a script's play, and the listing of all jobs of its last world
abbrev pub journal_of : Script → List ℕ
journal_of script = journal_behind (new_machine script) script

abbrev pub listing_of : Script → List ℕ
listing_of script = listing_behind (new_machine script) script

-- ---- commands that play a script

-- How a script that was read ends, played on a machine that has served this, where so many callbacks are there, by what the sink had
-- before and has then: it is played where it has no more register lines. A play that was whole writes the command's own text.
abbrev pub PlayedEnds : List ℕ → ℕ → Ledger → Script → Status → Option (List ℕ) → Option (List ℕ) → Type 0
PlayedEnds own callbacks before script Done old new = (registers_of script ≤ callbacks) × ((play_behind before script).full ≡ None) × Appends old new own
PlayedEnds own callbacks before script (Text line) old new = ⊥
PlayedEnds own callbacks before script Words old new = callbacks < registers_of script
PlayedEnds own callbacks before script ReadFault old new = ⊥
PlayedEnds own callbacks before script WriteFault old new = (registers_of script ≤ callbacks) × AppendsFront old new (text_behind own before script)
PlayedEnds own callbacks before script Memory old new = Unit {0}
PlayedEnds own callbacks before script (JournalFull size) old new = (registers_of script ≤ callbacks) × ((play_behind before script).full ≡ Some size) × Appends old new (journal_behind before script)
PlayedEnds own callbacks before script (NotLegal entry given machine) old new = ⊥

-- a script that was read is played on a new machine
abbrev pub ScriptEnds : (Script → List ℕ) → ℕ → List ℕ → Status → Option (List ℕ) → Option (List ℕ) → Type 0
ScriptEnds own callbacks bytes status old new = (script : Script) × IsScriptText mode.Serial bytes script × PlayedEnds (own script) callbacks (new_machine script) script status old new

-- For each status: what the bytes are, and what was written of them, by what the sink had before and has then.
abbrev pub PlayEnds : (Script → List ℕ) → ℕ → List ℕ → Status → Option (List ℕ) → Option (List ℕ) → Type 0
PlayEnds own callbacks bytes (Text line) old new = IsFirstBad (SpellsScript mode.Serial) 16_777_216 bytes line
PlayEnds own callbacks bytes ReadFault old new = Unit {0}
PlayEnds own callbacks bytes Memory old new = Unit {0}
PlayEnds own callbacks bytes (NotLegal entry given machine) old new = ⊥
PlayEnds own callbacks bytes Done old new = ScriptEnds own callbacks bytes Done old new
PlayEnds own callbacks bytes Words old new = ScriptEnds own callbacks bytes Words old new
PlayEnds own callbacks bytes WriteFault old new = ScriptEnds own callbacks bytes WriteFault old new
PlayEnds own callbacks bytes (JournalFull size) old new = ScriptEnds own callbacks bytes (JournalFull size) old new

-- Where no read and no write failed: a script is played, if it has no more register lines than there are callbacks, and other bytes
-- are refused, unless memory runs out.
pub record PlayIsWhole (callbacks : ℕ) (bytes : List ℕ) (status : Status) : Type 0 where
  pub script : (s : Script) → IsScriptText mode.Serial bytes s → (status ≡ end_of callbacks s) ⊎ (status ≡ Memory)
  pub other : ((s : Script) → IsScriptText mode.Serial bytes s → ⊥) → IsRefused status

-- a journal is written at this status: of a whole play, or of one that stopped
abbrev pub WritesPlay : Output → Status → Type 0
WritesPlay JournalOutput Done = Unit {0}
WritesPlay Listing Done = ⊥
WritesPlay output (Text line) = ⊥
WritesPlay output Words = ⊥
WritesPlay output ReadFault = ⊥
WritesPlay output WriteFault = ⊥
WritesPlay output Memory = ⊥
WritesPlay output (JournalFull size) = Unit {0}
WritesPlay output (NotLegal entry given machine) = ⊥

-- a status that a command comes to which plays a script: it reads no journal that could be illegal
abbrev pub IsOfScript : Status → Type 0
IsOfScript Done = Unit {0}
IsOfScript (Text line) = Unit {0}
IsOfScript Words = Unit {0}
IsOfScript ReadFault = Unit {0}
IsOfScript WriteFault = Unit {0}
IsOfScript Memory = Unit {0}
IsOfScript (JournalFull size) = Unit {0}
IsOfScript (NotLegal entry given machine) = ⊥

-- some lines are this script's
abbrev pub IsSpelled : Mode → Script → Type 0
IsSpelled grammar script = (lines : List (List ℕ)) × scripts.Spells grammar lines script

-- ---- a script that was read

-- what a play's command writes where the play was whole
abbrev pub own_of : Output → Script → List ℕ
own_of output script = own_behind output (new_machine script) script

-- a journal is written of such a play
abbrev pub HasJournal : Output → Option ℕ → Type 0
HasJournal JournalOutput full = Unit {0}
HasJournal Listing None = ⊥
HasJournal Listing (Some size) = Unit {0}

-- the journal of the play can be written and read, and is legal
abbrev pub IsWritten : Script → Type 0
IsWritten script = IsWrittenBy (served_behind (new_machine script) script)
