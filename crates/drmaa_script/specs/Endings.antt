-- What each command comes to: our profile.
use Rattle.std.specs.Prelude.{◌≢◌, ℕ, List, length, Option}
use Rattle.child_spawner.specs.declared.fates.Asked.{Asked}
use Rattle.child_spawner.specs.declared.fates.Fate.{Fate}
use Rattle.drmaa_types.specs.Readings.{Readings}
use Rattle.drmaa_types.specs.declared.changes.Notification.{Notification}
use Rattle.command_words.specs.declared.commands.Command.{Command}
use Rattle.command_words.specs.declared.commands.Command.TheVariants.{Serial, Threads, Table, Check, Migrate, Json, Forecast, Continue, Recur, Soak}
use Rattle.script_commands.specs.declared.plays.Output.TheVariants.{Journal as JournalOutput, Listing}
use Rattle.journal_commands.specs.declared.status.Status.{Status}
use Rattle.journal_commands.specs.declared.status.Status.TheVariants.{Done, Text, Words, ReadFault, WriteFault, Memory, JournalFull, NotLegal}
use Rattle.journal_commands.specs.Commands.{CheckEnds, CheckIsWhole, MigrateEnds, MigrateIsWhole, JsonEnds, JsonIsWhole, ForecastEnds, ForecastIsWhole, RecurEnds, RecurIsWhole}
use Rattle.script_commands.specs.Continuing.{ContinueEnds, ContinueIsWhole}
use Rattle.script_commands.specs.Outcomes.{PlayEnds, PlayIsWhole, WritesPlay, IsOfScript, journal_of, listing_of}
use Rattle.drmaa_script.specs.Soaking.{SoakEnds}
use Rattle.drmaa_script.specs.Runs.{RunEnds, RunIsWhole, LeavesClocks}

-- what each command comes to, by its bytes, the sink, the spawner, the clocks, and the callbacks before and then
abbrev pub Ends : {B C : Type 0} → (B → ℕ) → (B → Option (List Notification)) → (C → Readings) → Command → List ℕ → Option (List ℕ) → Option (List ℕ) → Option (List Asked) → Option (List Asked) → (ℕ → Fate) → List C → List B → List B → Status → Type 0
Ends counted told given Serial bytes old new asked asked_after fate clocks callbacks callbacks_after status = PlayEnds journal_of (length callbacks) bytes status old new
Ends counted told given Threads bytes old new asked asked_after fate clocks callbacks callbacks_after status = RunEnds counted told given bytes old new asked asked_after fate clocks callbacks callbacks_after status
Ends counted told given Table bytes old new asked asked_after fate clocks callbacks callbacks_after status = PlayEnds listing_of (length callbacks) bytes status old new
Ends counted told given Check bytes old new asked asked_after fate clocks callbacks callbacks_after status = CheckEnds bytes status old new
Ends counted told given Migrate bytes old new asked asked_after fate clocks callbacks callbacks_after status = MigrateEnds bytes status old new
Ends counted told given Json bytes old new asked asked_after fate clocks callbacks callbacks_after status = JsonEnds bytes status old new
Ends counted told given Forecast bytes old new asked asked_after fate clocks callbacks callbacks_after status = ForecastEnds bytes status old new
Ends counted told given Continue bytes old new asked asked_after fate clocks callbacks callbacks_after status = ContinueEnds counted told bytes old new callbacks callbacks_after status
Ends counted told given (Recur words) bytes old new asked asked_after fate clocks callbacks callbacks_after status = RecurEnds words bytes status old new
Ends counted told given (Soak words) bytes old new asked asked_after fate clocks callbacks callbacks_after status = SoakEnds words old new status

abbrev pub IsWhole : Command → ℕ → List ℕ → Status → Type 0
IsWhole Serial callbacks = PlayIsWhole callbacks
IsWhole Threads callbacks = RunIsWhole callbacks
IsWhole Table callbacks = PlayIsWhole callbacks
IsWhole Check callbacks = CheckIsWhole
IsWhole Migrate callbacks = MigrateIsWhole
IsWhole Json callbacks = JsonIsWhole
IsWhole Forecast callbacks = ForecastIsWhole
IsWhole Continue callbacks = ContinueIsWhole callbacks
IsWhole (Recur words) callbacks = RecurIsWhole words
IsWhole (Soak words) callbacks = λ bytes status. Unit {0}

-- the journal of a play on one thread of a script that was read alone is written
abbrev pub WritesJournal : Command → Status → Type 0
WritesJournal Serial status = WritesPlay JournalOutput status
WritesJournal Threads status = ⊥
WritesJournal Table status = WritesPlay Listing status
WritesJournal Check status = ⊥
WritesJournal Migrate status = ⊥
WritesJournal Json status = ⊥
WritesJournal Forecast status = ⊥
WritesJournal Continue status = ⊥
WritesJournal (Recur words) status = ⊥
WritesJournal (Soak words) status = ⊥

-- callers had clocks, which are handed back
abbrev pub HandsClocks : Command → Status → Type 0
HandsClocks Serial status = ⊥
HandsClocks Threads status = LeavesClocks status
HandsClocks Table status = ⊥
HandsClocks Check status = ⊥
HandsClocks Migrate status = ⊥
HandsClocks Json status = ⊥
HandsClocks Forecast status = ⊥
HandsClocks Continue status = ⊥
HandsClocks (Recur words) status = ⊥
HandsClocks (Soak words) status = ⊥

-- whether it reads the source
abbrev pub Reads : Command → Type 0
Reads Serial = Unit {0}
Reads Threads = Unit {0}
Reads Table = Unit {0}
Reads Check = Unit {0}
Reads Migrate = Unit {0}
Reads Json = Unit {0}
Reads Forecast = Unit {0}
Reads Continue = Unit {0}
Reads (Recur words) = Unit {0}
Reads (Soak words) = ⊥

-- the greatest number of bytes of a command's text
abbrev pub limit_of : Command → ℕ
limit_of Serial = 16_777_216
limit_of Threads = 16_777_216
limit_of Table = 16_777_216
limit_of Check = 268_435_456
limit_of Migrate = 268_435_456
limit_of Json = 268_435_456
limit_of Forecast = 268_435_456
limit_of Continue = 268_435_456
limit_of (Recur words) = 268_435_456
limit_of (Soak words) = 0

-- whether it asks the spawner
abbrev pub Starts : Command → Type 0
Starts Serial = ⊥
Starts Threads = Unit {0}
Starts Table = ⊥
Starts Check = ⊥
Starts Migrate = ⊥
Starts Json = ⊥
Starts Forecast = ⊥
Starts Continue = ⊥
Starts (Recur words) = ⊥
Starts (Soak words) = ⊥

-- The statuses that a command can come to at all, whatever its source tells: one that plays a script calls no journal illegal, one
-- that reads a journal lacks no callbacks.

-- one that makes its own script does neither, finds no bad line, and fills no journal
abbrev pub IsOfSoak : Status → Type 0
IsOfSoak Done = Unit {0}
IsOfSoak (Text line) = ⊥
IsOfSoak Words = ⊥
IsOfSoak ReadFault = ⊥
IsOfSoak WriteFault = Unit {0}
IsOfSoak Memory = Unit {0}
IsOfSoak (JournalFull size) = ⊥
IsOfSoak (NotLegal entry given machine) = ⊥

-- one that reads a journal and makes no entries fills none
abbrev pub IsOfCheck : Status → Type 0
IsOfCheck Done = Unit {0}
IsOfCheck (Text line) = Unit {0}
IsOfCheck Words = ⊥
IsOfCheck ReadFault = Unit {0}
IsOfCheck WriteFault = Unit {0}
IsOfCheck Memory = Unit {0}
IsOfCheck (JournalFull size) = ⊥
IsOfCheck (NotLegal entry given machine) = Unit {0}

-- and one that writes every journal in another form calls none illegal either
abbrev pub IsOfForm : Status → Type 0
IsOfForm Done = Unit {0}
IsOfForm (Text line) = Unit {0}
IsOfForm Words = ⊥
IsOfForm ReadFault = Unit {0}
IsOfForm WriteFault = Unit {0}
IsOfForm Memory = Unit {0}
IsOfForm (JournalFull size) = ⊥
IsOfForm (NotLegal entry given machine) = ⊥

abbrev pub MayEnd : Command → Status → Type 0
MayEnd Serial status = IsOfScript status
MayEnd Threads status = IsOfScript status
MayEnd Table status = IsOfScript status
MayEnd Check status = IsOfCheck status
MayEnd Migrate status = IsOfForm status
MayEnd Json status = IsOfForm status
MayEnd Forecast status = status ≢ Words
MayEnd Continue status = Unit {0}
MayEnd (Recur words) status = status ≢ Words
MayEnd (Soak words) status = IsOfSoak status

-- the command reads a script alone and plays it on one thread, where callbacks hear it
abbrev pub PlaysAlone : Command → Type 0
PlaysAlone Serial = Unit {0}
PlaysAlone Threads = ⊥
PlaysAlone Table = Unit {0}
PlaysAlone Check = ⊥
PlaysAlone Migrate = ⊥
PlaysAlone Json = ⊥
PlaysAlone Forecast = ⊥
PlaysAlone Continue = ⊥
PlaysAlone (Recur words) = ⊥
PlaysAlone (Soak words) = ⊥

-- the command plays nothing that callbacks could hear
abbrev pub IsDeaf : Command → Type 0
IsDeaf Serial = ⊥
IsDeaf Threads = ⊥
IsDeaf Table = ⊥
IsDeaf Check = Unit {0}
IsDeaf Migrate = Unit {0}
IsDeaf Json = Unit {0}
IsDeaf Forecast = Unit {0}
IsDeaf Continue = ⊥
IsDeaf (Recur words) = Unit {0}
IsDeaf (Soak words) = Unit {0}
