-- What the run of one command leaves behind: our profile.
use Rattle.std.specs.Prelude.{◌≡◌, ℕ, List, [], length, Option, IfSome}
use Rattle.std.specs.Io.KnownBytes.{IsAtEnd}
use Rattle.child_spawner.specs.declared.fates.Asked.{Asked}
use Rattle.child_spawner.specs.declared.fates.Fate.{Fate}
use Rattle.drmaa_types.specs.Counts.{Rose}
use Rattle.drmaa_types.specs.Readings.{Readings}
use Rattle.drmaa_types.specs.declared.changes.Notification.{Notification}
use Rattle.command_words.specs.declared.commands.Command.{Command}
use Rattle.command_words.specs.declared.commands.Command.TheVariants.{Serial, Threads, Table, Check, Migrate, Json, Forecast, Continue, Recur, Soak}
use Rattle.command_words.specs.declared.commands.SoakWords.{SoakWords}
use Rattle.journal_commands.specs.declared.status.Status.{Status}
use Rattle.journal_commands.specs.declared.status.Status.TheVariants.{Text, Words, ReadFault, WriteFault, Memory}
use Rattle.journal_commands.specs.Statuses.{IsQuiet, HasRead, HasWritten, IsUnstarted}
use Rattle.journal_commands.specs.Texts.{IsReadOut}
use Rattle.script_asks.specs.Plays.{serial_play}
use Rattle.script_play.specs.Callbacks.{HearHistory, HearFront}
use Rattle.script_text.specs.declared.scripts.Mode.TheVariants as mode
use Rattle.script_text.specs.declared.scripts.Script.{Script}
use Rattle.script_commands.specs.Outcomes.{IsScriptText, IsWritten}
use Rattle.script_commands.specs.Registers.{HasPlayed, AreReturned}
use Rattle.drmaa_script.specs.Endings.{Ends, IsWhole, MayEnd, PlaysAlone, IsDeaf, Reads, limit_of, WritesJournal, HandsClocks, Starts}
use Rattle.drmaa_script.specs.Runs.{AreCallersClocks, HadCallers}
use Rattle.drmaa_script.specs.Soaking.{SoakEnds}

-- what is said of `soak` and its words alone
abbrev pub OfSoak : (SoakWords → Type 0) → Command → Type 0
OfSoak P Serial = Unit {0}
OfSoak P Threads = Unit {0}
OfSoak P Table = Unit {0}
OfSoak P Check = Unit {0}
OfSoak P Migrate = Unit {0}
OfSoak P Json = Unit {0}
OfSoak P Forecast = Unit {0}
OfSoak P Continue = Unit {0}
OfSoak P (Recur words) = Unit {0}
OfSoak P (Soak words) = P words

-- What a command leaves of the source, the sink, the spawner and the callbacks that it was given, the clocks of its callers, and the
-- status: of the command that was found this is what `run` promises of each command that the words ask for.
pub record LeftByCommand {B C R W S : Type 0} (counted : B → ℕ) (told : B → Option (List Notification)) (given : C → Readings)
    (left : R → Option (List ℕ)) (read_faults : R → ℕ) (written : W → Option (List ℕ)) (write_faults : W → ℕ) (is_finished : W → Type 0) (asked : S → Option (List Asked)) (fate : S → ℕ → Fate)
    (command : Command) (source source_after : R) (sink sink_after : W) (spawner spawner_after : S) (callbacks callbacks_after : List B) (handed : List C) (status : Status) : Type 0 where
  pub ends : IfSome (left source) (λ bytes. Ends counted told given command bytes (written sink) (written sink_after) (asked spawner) (asked spawner_after) (fate spawner_after) handed callbacks callbacks_after status)
  pub possible : MayEnd command status
  pub soaks : OfSoak (λ words. SoakEnds words (written sink) (written sink_after) status) command
  pub unread : OfSoak (λ words. source_after ≡ source) command
  -- the source
  pub words : status ≡ Words → IsAtEnd (left source_after)
  pub read_whole : Reads command → HasRead status → IsAtEnd (left source_after)
  pub read_out : (line : ℕ) → Reads command → status ≡ Text line → IsReadOut (limit_of command) (left source) (left source_after)
  pub read_fault : status ≡ ReadFault → Rose (read_faults source) (read_faults source_after)
  -- the sink
  pub finished : HasWritten status → is_finished sink_after
  pub untouched : IsQuiet status → sink_after ≡ sink
  pub write_fault : status ≡ WriteFault → Rose (write_faults sink) (write_faults sink_after)
  -- without a fault
  pub whole : (Rose (read_faults source) (read_faults source_after) → ⊥) → (Rose (write_faults sink) (write_faults sink_after) → ⊥)
      → IfSome (left source) (λ bytes. IsWhole command (length callbacks) bytes status)
  pub writable : WritesJournal command status → IfSome (left source) (λ bytes. (script : Script) → IsScriptText mode.Serial bytes script → IsWritten script)
  -- the callers' clocks, and the spawner
  pub clocks : (HandsClocks command status → ⊥) → handed ≡ []
  pub whose : HandsClocks command status → AreCallersClocks given handed
  pub callers : HandsClocks command status → HadCallers status (length handed)
  pub unasked : (Starts command → ⊥) → spawner_after ≡ spawner
  pub unstarted : IsUnstarted status → spawner_after ≡ spawner
  pub fates : fate spawner_after ≡ fate spawner
  -- the callbacks
  pub heard : PlaysAlone command → HasPlayed status → IfSome (left source) (λ bytes. (script : Script) → IsScriptText mode.Serial bytes script
      → HearHistory counted told script.config (serial_play script).entries callbacks callbacks_after)
  pub heard_front : PlaysAlone command → status ≡ Memory → IfSome (left source) (λ bytes. (script : Script) → IsScriptText mode.Serial bytes script
      → HearFront counted told script.config (serial_play script).entries callbacks callbacks_after)
  pub returned : AreReturned counted told callbacks callbacks_after
  pub unheard : IsUnstarted status → callbacks_after ≡ callbacks
  pub deaf : IsDeaf command → callbacks_after ≡ callbacks
