-- The run of a script that was read, step by step.
use Rattle.std.specs.Prelude.{◌≡◌, ℕ, ◌<◌, ◌≤◌, List, Option, Some, None}
use Rattle.std.specs.Io.KnownBytes.{Appends}
use Rattle.byte_streams.specs.Streams.{AppendsFront}
use Rattle.child_spawner.specs.declared.fates.Asked.{Asked}
use Rattle.child_spawner.specs.declared.fates.Fate.{Fate}
use Rattle.drmaa_types.specs.Readings.{Readings}
use Rattle.drmaa_model.specs.declared.entries.Entry.{Entry}
use Rattle.script_text.specs.declared.scripts.Script.{Script}
use Rattle.journal_text.specs.Journals.{journal_text}
use Rattle.journal_commands.specs.declared.status.Status.{Status}
use Rattle.journal_commands.specs.declared.status.Status.TheVariants.{Done, Text, Words, ReadFault, WriteFault, Memory, JournalFull, NotLegal}
use Rattle.script_commands.specs.Registers.{registers_of}
use Rattle.drmaa_script.specs.Runs.{IsRunOf}

-- The bytes are the journal of a run.
pub record IsTextOfRun {C : Type 0} (given : C → Readings) (script : Script) (bytes : List ℕ) (asked asked_after : Option (List Asked)) (fate : ℕ → Fate) (clocks : List C) (full : Option ℕ) (hears : List Entry → Type 0) : Type 0 where
  pub history : List Entry
  pub text : bytes ≡ journal_text script.config history
  pub run : IsRunOf given script history asked asked_after fate clocks full
  pub heard : hears history

-- The whole journal was written.
pub record WroteRun {C : Type 0} (given : C → Readings) (script : Script) (old new : Option (List ℕ)) (asked asked_after : Option (List Asked)) (fate : ℕ → Fate) (clocks : List C) (full : Option ℕ) (hears : List Entry → Type 0) : Type 0 where
  pub history : List Entry
  pub written : Appends old new (journal_text script.config history)
  pub run : IsRunOf given script history asked asked_after fate clocks full
  pub heard : hears history

-- A front of it was written.
pub record WroteFront {C : Type 0} (given : C → Readings) (script : Script) (old new : Option (List ℕ)) (asked asked_after : Option (List Asked)) (fate : ℕ → Fate) (hears : List Entry → Type 0) : Type 0 where
  pub history : List Entry
  pub clocks : List C
  pub full : Option ℕ
  pub written : AppendsFront old new (journal_text script.config history)
  pub run : IsRunOf given script history asked asked_after fate clocks full
  pub heard : hears history

-- How the run of a script ends where so many callbacks are there, by what the sink had before and has then, and what was heard of its
-- history.
abbrev pub RanEnds : {C : Type 0} → (C → Readings) → Script → ℕ → (List Entry → Type 0) → Option (List ℕ) → Option (List ℕ) → Option (List Asked) → Option (List Asked) → (ℕ → Fate) → List C → Status → Type 0
RanEnds given script callbacks hears old new asked asked_after fate clocks Done = (registers_of script ≤ callbacks) × WroteRun given script old new asked asked_after fate clocks None hears
RanEnds given script callbacks hears old new asked asked_after fate clocks (Text line) = ⊥
RanEnds given script callbacks hears old new asked asked_after fate clocks Words = callbacks < registers_of script
RanEnds given script callbacks hears old new asked asked_after fate clocks ReadFault = ⊥
RanEnds given script callbacks hears old new asked asked_after fate clocks WriteFault = (registers_of script ≤ callbacks) × WroteFront given script old new asked asked_after fate hears
RanEnds given script callbacks hears old new asked asked_after fate clocks Memory = Unit {0}
RanEnds given script callbacks hears old new asked asked_after fate clocks (JournalFull size) = (registers_of script ≤ callbacks) × WroteRun given script old new asked asked_after fate clocks (Some size) hears
RanEnds given script callbacks hears old new asked asked_after fate clocks (NotLegal entry was machine) = ⊥
