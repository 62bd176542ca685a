-- How a run in threads ends, and what was written and heard then.
use Rattle.std.proofs.Common.{◌≡◌, ◌⊎◌, inl, inr, ℕ, ◌≤◌, List, [], length, Option, Some, None, refl, sym, ap, ◌∙◌, subst, arith}
use Rattle.std.proofs.lemmas.Option.{slice_get_within}
use Rattle.std.specs.Io.KnownBytes.{Appends}
use Rattle.byte_streams.specs.Streams.{AppendsFront}
use Rattle.child_spawner.specs.declared.fates.Asked.{Asked}
use Rattle.child_spawner.specs.declared.fates.Fate.{Fate}
use Rattle.drmaa_types.specs.Readings.{Readings}
use Rattle.drmaa_types.specs.declared.changes.Notification.{Notification}
use Rattle.drmaa_model.specs.declared.configs.Config.{Config}
use Rattle.drmaa_model.specs.declared.entries.Entry.{Entry}
use Rattle.change_callbacks.specs.Ears.{HaveHeard}
use Rattle.notify_hub.specs.Hubs.{Following, MayBe, noted}
use Rattle.change_callbacks.specs.Places.{HaveHeardAll, changes_of}
use Rattle.script_play.specs.Callbacks.{HearHistory}
use Rattle.script_text.specs.declared.scripts.Mode.TheVariants as mode
use Rattle.script_text.specs.declared.scripts.Script.{Script}
use Rattle.thread_play.specs.Hubs.{HearRun}
use Rattle.thread_play.specs.Runs.{IsWhole, IsStopped, in_setup, behind_setup}
use Rattle.journal_commands.specs.declared.status.Status.{Status}
use Rattle.journal_commands.specs.declared.status.Status.TheVariants.{Done, Text, Words, ReadFault, WriteFault, Memory, JournalFull, NotLegal}
use Rattle.script_commands.specs.Outcomes.{IsScriptText, IsOfScript}
use Rattle.script_commands.specs.Registers.{registers_of}
use Rattle.drmaa_script.specs.Running.{IsTextOfRun, RanEnds}
use Rattle.drmaa_script.specs.Runs.{RunEnds, IsRunEnd, LeavesClocks, AreCallersClocks, HadCallers}
use Rattle.journal_commands.specs.Statuses.{IsUnread, ended_as}

module _ {C : Type 0} (given : C → Readings) (s : Script) (old new : Option (List ℕ)) (asked asked_after : Option (List Asked)) (fate : ℕ → Fate) (clocks : List C) where
  -- the text of a run was written
  pub ran_written : (callbacks : ℕ) (hears : List Entry → Type 0) (bytes : List ℕ) (full : Option ℕ) → registers_of s ≤ callbacks → IsTextOfRun given s bytes asked asked_after fate clocks full hears → Appends old new bytes
      → RanEnds given s callbacks hears old new asked asked_after fate clocks (ended_as full)
  ran_written callbacks hears bytes None enough t written = (enough, record { history = t.history; written = subst (Appends old new) t.text written; run = t.run; heard = t.heard })
  ran_written callbacks hears bytes (Some size) enough t written = (enough, record { history = t.history; written = subst (Appends old new) t.text written; run = t.run; heard = t.heard })

  -- a front of it was written
  pub ran_front : (after : List C) (callbacks : ℕ) (hears : List Entry → Type 0) (bytes : List ℕ) (full : Option ℕ) → registers_of s ≤ callbacks → IsTextOfRun given s bytes asked asked_after fate clocks full hears → AppendsFront old new bytes
      → RanEnds given s callbacks hears old new asked asked_after fate after WriteFault
  ran_front after callbacks hears bytes full enough t written = (enough, record { history = t.history; clocks = clocks; full = full; written = subst (AppendsFront old new) t.text written; run = t.run; heard = t.heard })

  -- what was heard of the history, in other words
  pub ran_heard : (callbacks : ℕ) (first then : List Entry → Type 0) (status : Status) → ((history : List Entry) → first history → then history)
      → RanEnds given s callbacks first old new asked asked_after fate clocks status → RanEnds given s callbacks then old new asked asked_after fate clocks status
  ran_heard callbacks first then Done on (enough, w) = (enough, record { history = w.history; written = w.written; run = w.run; heard = on w.history w.heard })
  ran_heard callbacks first then WriteFault on (enough, w) = (enough, record { history = w.history; clocks = w.clocks; full = w.full; written = w.written; run = w.run; heard = on w.history w.heard })
  ran_heard callbacks first then (JournalFull size) on (enough, w) = (enough, record { history = w.history; written = w.written; run = w.run; heard = on w.history w.heard })
  ran_heard callbacks first then _ on ends = ends

  -- from the script that was read to the bytes that spell it
  pub ran_ends : {B : Type 0} (counted : B → ℕ) (told : B → Option (List Notification)) (bytes : List ℕ) (before after : List B) (status : Status) → IsScriptText mode.Threads bytes s
      → RanEnds given s (length before) (λ history. HearHistory counted told s.config history before after) old new asked asked_after fate clocks status
      → RunEnds counted told given bytes old new asked asked_after fate clocks before after status
  ran_ends counted told bytes before after Done spelled (enough, w) =
      let run = w.run.run in
      let whole : IsWhole given s w.history asked asked_after fate clocks = run.ends in
      record {
        script = s;
        spelled = spelled;
        history = w.history;
        written = w.written;
        readable = w.run.readable;
        legal = run.run.legal;
        fits = run.run.fits;
        setup = whole.plays.setup;
        setup_first = run.run.setup_first;
        clients = whole.plays.clients;
        launcher = run.run.launcher;
        reaper = run.run.reaper;
        ended = run.run.ended;
        strangers = run.run.strangers;
        callers = whole.callers;
        moments = run.timed;
        quiet = whole.quiet;
        rest = whole.rest;
        outside = whole.outside;
        enough = enough;
        heard = w.heard;
      }
  ran_ends counted told bytes before after Words spelled ends = record { script = s; spelled = spelled; few = ends }
  ran_ends counted told bytes before after WriteFault spelled (enough, w) =
      record { script = s; spelled = spelled; history = w.history; clocks = w.clocks; full = w.full; written = w.written; run = w.run; enough = enough; heard = w.heard }
  ran_ends counted told bytes before after Memory spelled ends = tt
  ran_ends counted told bytes before after (JournalFull size) spelled (enough, w) =
      record { script = s; spelled = spelled; history = w.history; written = w.written; run = w.run; enough = enough; heard = w.heard }
  ran_ends counted told bytes before after _ spelled ends = absurd ends

-- why a script for threads was not run
pub unread_run : {B C : Type 0} (counted : B → ℕ) (told : B → Option (List Notification)) (given : C → Readings) (bytes : List ℕ) (old new : Option (List ℕ)) (asked asked_after : Option (List Asked)) (fate : ℕ → Fate) (clocks : List C) (before after : List B) (status : Status) → IsUnread status
    → ((n : ℕ) → status ≡ Text n → RunEnds counted told given bytes old new asked asked_after fate clocks before after (Text n)) → RunEnds counted told given bytes old new asked asked_after fate clocks before after status
unread_run counted told given bytes old new asked asked_after fate clocks before after (Text n) is line = line n refl
unread_run counted told given bytes old new asked asked_after fate clocks before after ReadFault is line = tt
unread_run counted told given bytes old new asked asked_after fate clocks before after Memory is line = tt
unread_run counted told given bytes old new asked asked_after fate clocks before after _ is line = absurd is

-- what the callbacks of a hub that followed a run heard, once they are back
pub hub_hears : {B : Type 0} (counted : B → ℕ) (told : B → Option (List Notification)) (config : Config) (hub : Following B) (before back : List B) → hub.ears.begun ≡ before → HaveHeard counted told hub.ears
    → ((config : Config) → MayBe config hub.note → HaveHeard counted told hub.ears → hub.ears.handed ≡ changes_of config (noted hub.note) → HaveHeardAll counted told config (noted hub.note) hub.ears.places hub.ears.begun back)
    → (history : List Entry) → HearRun config history hub → HearHistory counted told config history before back
hub_hears {B = B} counted told config hub before back begun heard take history r =
    let all = take config r.may heard (r.handed ∙ ap (λ (h : List Entry). changes_of config h) (sym r.noted_is)) in
    let here : HaveHeardAll counted told config history hub.ears.places before back =
    subst (λ (bs : List B). HaveHeardAll counted told config history hub.ears.places bs back) begun (subst (λ (h : List Entry). HaveHeardAll counted told config h hub.ears.places hub.ears.begun back) r.noted_is all) in
    record { as_many = here.as_many; each = λ i d inside. here.each i d inside (r.places.each i) }

-- no clock is the clock of its place
pub none_whose : {C : Type 0} (given : C → Readings) (clocks : List C) → clocks ≡ [] → AreCallersClocks given clocks
none_whose given clocks none = λ caller clock at. absurd (let within = slice_get_within clocks caller clock at in let size = ap length none in omega arith)

module _ {C : Type 0} (given : C → Readings) (s : Script) (old new : Option (List ℕ)) (asked asked_after : Option (List Asked)) (fate : ℕ → Fate) (clocks : List C) (callbacks : ℕ) (hears : List Entry → Type 0) where
  -- whose clocks a run hands back
  pub ran_whose : (status : Status) → RanEnds given s callbacks hears old new asked asked_after fate clocks status → ((LeavesClocks status → ⊥) → clocks ≡ []) → AreCallersClocks given clocks
  ran_whose Done (enough, w) none = λ caller clock at. (w.run.run.timed caller clock at).caller
  ran_whose (JournalFull size) (enough, w) none = λ caller clock at. (w.run.run.timed caller clock at).caller
  ran_whose _ ends none = none_whose given clocks (none (λ leaves. leaves))

  stopped_callers : (history : List Entry) (size : ℕ) → IsStopped given clocks s history asked asked_after size → (length clocks ≡ 1) ⊎ (4 ≤ length clocks)
  stopped_callers history size (in_setup cut alone unasked callers) = inl callers
  stopped_callers history size (behind_setup setup clients met launched callers) = inr (omega arith)

  -- and how many
  pub ran_callers : (status : Status) → RanEnds given s callbacks hears old new asked asked_after fate clocks status → ((LeavesClocks status → ⊥) → clocks ≡ []) → HadCallers status (length clocks)
  ran_callers Done (enough, w) none = (let whole : IsWhole given s w.history asked asked_after fate clocks = w.run.run.ends in let callers = whole.callers in omega arith)
  ran_callers (JournalFull size) (enough, w) none = stopped_callers w.history size w.run.run.ends
  ran_callers _ ends none = ap length (none (λ leaves. leaves))

-- a script that was not read leaves none
pub unread_callers : (status : Status) (n : ℕ) → IsUnread status → n ≡ 0 → HadCallers status n
unread_callers Done n is none = absurd is
unread_callers (JournalFull size) n is none = absurd is
unread_callers _ n is none = none

-- what is true of a run whose journal was written
pub ended_run : (full : Option ℕ) → IsRunEnd (ended_as full)
ended_run None = tt
ended_run (Some size) = tt

pub ended_clocks : (full : Option ℕ) → LeavesClocks (ended_as full)
ended_clocks None = tt
ended_clocks (Some size) = tt

pub ran_no_fault : {C : Type 0} (given : C → Readings) (s : Script) (old new : Option (List ℕ)) (asked asked_after : Option (List Asked)) (fate : ℕ → Fate) (clocks : List C) (callbacks : ℕ) (hears : List Entry → Type 0) (status : Status)
    → RanEnds given s callbacks hears old new asked asked_after fate clocks status → status ≡ ReadFault → ⊥
ran_no_fault given s old new asked asked_after fate clocks callbacks hears status ends is = subst (λ (x : Status). RanEnds given s callbacks hears old new asked asked_after fate clocks x) is ends

pub ran_possible : {C : Type 0} (given : C → Readings) (s : Script) (old new : Option (List ℕ)) (asked asked_after : Option (List Asked)) (fate : ℕ → Fate) (clocks : List C) (callbacks : ℕ) (hears : List Entry → Type 0) (status : Status)
    → RanEnds given s callbacks hears old new asked asked_after fate clocks status → IsOfScript status
ran_possible given s old new asked asked_after fate clocks callbacks hears (NotLegal entry was machine) ends = ends
ran_possible given s old new asked asked_after fate clocks callbacks hears _ ends = tt
