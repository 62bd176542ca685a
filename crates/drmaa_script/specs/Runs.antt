-- What `threads` comes to, given all the bytes that it reads: our profile.
use Rattle.std.specs.Prelude.{◌≡◌, ◌⊎◌, ℕ, ◌+◌, ◌<◌, ◌≤◌, true, List, [], ◌++◌, length, Option, Some, IfSome}
use Rattle.std.specs.List.{slice_get}
use Rattle.std.specs.Io.KnownBytes.{Appends}
use Rattle.byte_streams.specs.Streams.{AppendsFront}
use Rattle.child_spawner.specs.declared.fates.Asked.{Asked}
use Rattle.child_spawner.specs.declared.fates.Fate.{Fate}
use Rattle.drmaa_types.specs.Readings.{Readings}
use Rattle.drmaa_types.specs.declared.changes.Notification.{Notification}
use Rattle.drmaa_types.specs.declared.identifiers.JobId.{JobId}
use Rattle.drmaa_model.specs.declared.entries.Entry.{Entry}
use Rattle.drmaa_model.specs.Consistent.{IsConsistent}
use Rattle.drmaa_model.specs.History.{IsLegal, replay}
use Rattle.drmaa_model.specs.SettledLaws.{IsQuiet}
use Rattle.turn_lock.specs.Histories.{BeginsWith}
use Rattle.call_history.specs.Callers.{calls_of}
use Rattle.call_history.specs.Timed.{IsTimed}
use Rattle.script_lines.specs.declared.lines.Line.{Line}
use Rattle.script_text.specs.declared.scripts.Mode.TheVariants as mode
use Rattle.script_text.specs.declared.scripts.Script.{Script}
use Rattle.script_text.specs.Follows.{lines_of}
use Rattle.script_asks.specs.Plays.{Plays}
use Rattle.attendant.specs.Acts.{acts_of, Each, is_launched}
use Rattle.attendant.specs.Outside.{IsLaunchersEntry, IsReapersEntry}
use Rattle.attendant.specs.Runs.{is_ended}
use Rattle.attendant.specs.Whole.{AgreesWithOutside}
use Rattle.journal_text.specs.Journals as journals
use Rattle.journal_text.specs.Journals.{journal_text}
use Rattle.script_play.specs.Callbacks.{HearHistory}
use Rattle.text_lines.specs.Lines.{IsFirstBad}
use Rattle.thread_play.specs.Runs.{launcher_of, reaper_of, hub_of, names_given, IsSettledAt, HasRun}
use Rattle.journal_commands.specs.declared.status.Status.{Status}
use Rattle.journal_commands.specs.declared.status.Status.TheVariants.{Done, Text, Words, ReadFault, WriteFault, Memory, JournalFull, NotLegal}
use Rattle.script_commands.specs.Outcomes.{SpellsScript, IsScriptText}
use Rattle.script_commands.specs.Registers.{registers_of}
use Rattle.journal_commands.specs.Statuses.{IsRefused}

-- Whatever script is read and however its clients, launcher and reaper interleave, the program writes one journal: each client's calls
-- stand in it once each, in that client's order and after everything that client had seen; replayed on the sequential machine it gives
-- every reply, refusal and job state; at each point started jobs fit the slots and accepted reservations fit them at every instant.
-- Of what a client had seen the bytes show this alone: the history begins with the entries of setup, which all others had seen before
-- their first calls. Within the run each call is one of SharedMachine::call or, of a register line, SharedMachine::call_numbered,
-- whose clauses have its entry stand behind the whole list that its client had seen.
pub record OneLegalJournal {B C : Type 0} (counted : B → ℕ) (told : B → Option (List Notification)) (given : C → Readings) (bytes : List ℕ) (old new : Option (List ℕ)) (asked asked_after : Option (List Asked)) (fate : ℕ → Fate) (clocks : List C) (callbacks callbacks_after : List B) : Type 0 where
  -- all bytes that were read spell this script for threads
  pub script : Script
  pub spelled : IsScriptText mode.Threads bytes script
  -- what was written is the text of this history, which no other journal has
  pub history : List Entry
  pub written : Appends old new (journal_text script.config history)
  pub readable : journals.IsWritable script.config history
  -- replayed on the machine of the script, it gives every reply
  pub legal : IsLegal script.config history
  -- each beginning leads to a world in which started jobs fit the slots, and accepted reservations fit them at every moment
  pub fits : (front back : List Entry) → history ≡ front ++ back → IsConsistent (replay script.config front)
  -- the setup block was played, by the entries with which the history begins
  pub setup : Plays script [] 0 (lines_of script.setup) (calls_of history 0)
  pub setup_first : BeginsWith history (calls_of history 0)
  -- each client's entries are what the lines of its block ask, once each and in order, with the names that setup gave
  pub clients : (n : ℕ) (block : List Line) → slice_get script.clients n ≡ Some block → Plays script (names_given script history) 0 block (calls_of history (n + 1))
  -- the launcher takes launches, and reports a start right after its launch; it makes no other calls
  pub launcher : Each IsLaunchersEntry (acts_of (calls_of history (launcher_of script)))
  -- the reaper takes orders, reports each once after it was taken, and reports an end once; it makes no other calls
  pub reaper : Each IsReapersEntry (acts_of (calls_of history (reaper_of script)))
  -- an end is reported of a run that was launched
  pub ended : (job : JobId) (attempt : ℕ) → is_ended job attempt (acts_of (calls_of history (reaper_of script))) ≡ true
      → is_launched job attempt (acts_of (calls_of history (launcher_of script))) ≡ true
  -- nobody else makes a call
  pub strangers : (caller : ℕ) → reaper_of script < caller → calls_of history caller ≡ []
  -- there is a clock for each caller, one that was handed out to it, and the moments of a caller's entries are readings of that clock,
  -- in their order, where it tells them
  pub callers : length clocks ≡ hub_of script + 1
  pub moments : (caller : ℕ) (clock : C) → slice_get clocks caller ≡ Some clock → IsTimed (Some caller) (calls_of history caller) (given clock)
  -- at the end no job holds slots and no order stands, and the machine is settled at the last reading of the launcher's clock, where it
  -- tells them
  pub quiet : IsQuiet (replay script.config history).plan
  pub rest : (clock : C) → slice_get clocks (launcher_of script) ≡ Some clock → IfSome (given clock).told (IsSettledAt script.config history)
  -- the journal agrees with the children, where the spawner tells and nothing had been asked of it
  pub outside : asked ≡ Some [] → IfSome asked_after (λ starts. AgreesWithOutside starts fate (acts_of history))
  -- there is a callback for each line that registers one, and each heard exactly what the history has for its number
  pub enough : registers_of script ≤ length callbacks
  pub heard : HearHistory counted told script.config history callbacks callbacks_after

-- The journal of a run is writable, and says how it went.
pub record IsRunOf {C : Type 0} (given : C → Readings) (script : Script) (history : List Entry) (asked asked_after : Option (List Asked)) (fate : ℕ → Fate) (clocks : List C) (full : Option ℕ) : Type 0 where
  pub readable : journals.IsWritable script.config history
  pub run : HasRun given script history asked asked_after fate clocks full

-- What was written is the whole text of such a journal, and the callbacks heard its history.
pub record WritesRun {B C : Type 0} (counted : B → ℕ) (told : B → Option (List Notification)) (given : C → Readings) (bytes : List ℕ) (old new : Option (List ℕ)) (asked asked_after : Option (List Asked)) (fate : ℕ → Fate) (clocks : List C) (full : Option ℕ)
    (callbacks callbacks_after : List B) : Type 0 where
  pub script : Script
  pub spelled : IsScriptText mode.Threads bytes script
  pub history : List Entry
  pub written : Appends old new (journal_text script.config history)
  pub run : IsRunOf given script history asked asked_after fate clocks full
  pub enough : registers_of script ≤ length callbacks
  pub heard : HearHistory counted told script.config history callbacks callbacks_after

-- What was written is a front of the text of such a journal, and the callbacks heard all of its history.
pub record WritesFront {B C : Type 0} (counted : B → ℕ) (told : B → Option (List Notification)) (given : C → Readings) (bytes : List ℕ) (old new : Option (List ℕ)) (asked asked_after : Option (List Asked)) (fate : ℕ → Fate) (callbacks callbacks_after : List B) : Type 0 where
  pub script : Script
  pub spelled : IsScriptText mode.Threads bytes script
  pub history : List Entry
  pub clocks : List C
  pub full : Option ℕ
  pub written : AppendsFront old new (journal_text script.config history)
  pub run : IsRunOf given script history asked asked_after fate clocks full
  pub enough : registers_of script ≤ length callbacks
  pub heard : HearHistory counted told script.config history callbacks callbacks_after

-- The bytes are a script with more lines that register a callback than there are callbacks.
pub record LacksCallbacks (bytes : List ℕ) (callbacks : ℕ) : Type 0 where
  pub script : Script
  pub spelled : IsScriptText mode.Threads bytes script
  pub few : callbacks < registers_of script

-- For each status: what the bytes are, what was written, by what the sink had before and has then, and what the callbacks heard.
abbrev pub RunEnds : {B C : Type 0} → (B → ℕ) → (B → Option (List Notification)) → (C → Readings) → List ℕ → Option (List ℕ) → Option (List ℕ) → Option (List Asked) → Option (List Asked) → (ℕ → Fate) → List C → List B → List B → Status → Type 0
RunEnds counted told given bytes old new asked asked_after fate clocks callbacks callbacks_after Done = OneLegalJournal counted told given bytes old new asked asked_after fate clocks callbacks callbacks_after
RunEnds counted told given bytes old new asked asked_after fate clocks callbacks callbacks_after (Text line) = IsFirstBad (SpellsScript mode.Threads) 16_777_216 bytes line
RunEnds counted told given bytes old new asked asked_after fate clocks callbacks callbacks_after Words = LacksCallbacks bytes (length callbacks)
RunEnds counted told given bytes old new asked asked_after fate clocks callbacks callbacks_after ReadFault = Unit {0}
RunEnds counted told given bytes old new asked asked_after fate clocks callbacks callbacks_after WriteFault = WritesFront counted told given bytes old new asked asked_after fate callbacks callbacks_after
RunEnds counted told given bytes old new asked asked_after fate clocks callbacks callbacks_after Memory = Unit {0}
RunEnds counted told given bytes old new asked asked_after fate clocks callbacks callbacks_after (JournalFull size) = WritesRun counted told given bytes old new asked asked_after fate clocks (Some size) callbacks callbacks_after
RunEnds counted told given bytes old new asked asked_after fate clocks callbacks callbacks_after (NotLegal entry was machine) = ⊥

-- how a run of a script ends that no fault of the source or the sink stops
abbrev pub IsRunEnd : Status → Type 0
IsRunEnd Done = Unit {0}
IsRunEnd (Text line) = ⊥
IsRunEnd Words = ⊥
IsRunEnd ReadFault = ⊥
IsRunEnd WriteFault = ⊥
IsRunEnd Memory = Unit {0}
IsRunEnd (JournalFull size) = Unit {0}
IsRunEnd (NotLegal entry given machine) = ⊥

-- Where no read and no write failed: a script is run, if it has no more register lines than there are callbacks, and other bytes
-- are refused, unless memory runs out.
pub record RunIsWhole (callbacks : ℕ) (bytes : List ℕ) (status : Status) : Type 0 where
  pub script : (s : Script) → IsScriptText mode.Threads bytes s → registers_of s ≤ callbacks → IsRunEnd status
  pub few : (s : Script) → IsScriptText mode.Threads bytes s → callbacks < registers_of s → (status ≡ Words) ⊎ (status ≡ Memory)
  pub other : ((s : Script) → IsScriptText mode.Threads bytes s → ⊥) → IsRefused status

-- the callers' clocks are handed back
abbrev pub LeavesClocks : Status → Type 0
LeavesClocks Done = Unit {0}
LeavesClocks (Text line) = ⊥
LeavesClocks Words = ⊥
LeavesClocks ReadFault = ⊥
LeavesClocks WriteFault = ⊥
LeavesClocks Memory = ⊥
LeavesClocks (JournalFull size) = Unit {0}
LeavesClocks (NotLegal entry given machine) = ⊥

-- the clock at each place is one that was handed out to the caller of this number
abbrev pub AreCallersClocks : {C : Type 0} → (C → Readings) → List C → Type 0
AreCallersClocks {C} given clocks = (caller : ℕ) (clock : C) → slice_get clocks caller ≡ Some clock → (given clock).caller ≡ Some caller

-- How many clocks come back, whatever the script is: where all was played, those of setup, launcher, reaper and hub, and of the clients;
-- where the journal was full, these too, or that of setup alone, in which it was; else none.
abbrev pub HadCallers : Status → ℕ → Type 0
HadCallers Done n = 4 ≤ n
HadCallers (Text line) n = n ≡ 0
HadCallers Words n = n ≡ 0
HadCallers ReadFault n = n ≡ 0
HadCallers WriteFault n = n ≡ 0
HadCallers Memory n = n ≡ 0
HadCallers (JournalFull size) n = (n ≡ 1) ⊎ (4 ≤ n)
HadCallers (NotLegal entry given machine) n = n ≡ 0
