-- A machine that goes on from a journal, and the play behind it: what may be printed, and how it ends.
use Rattle.std.proofs.Common.{◌≡◌, ℕ, Bool, true, false, List, [], ◌∷◌, ◌++◌, map, filter, refl, sym, subst, if◌then◌else◌}
use Rattle.std.specs.List.{AllByRecursion}
use Rattle.drmaa_types.specs.States.{rerun_code}
use Rattle.drmaa_types.specs.declared.states.Exit.TheVariants.{Code}
use Rattle.drmaa_model.specs.declared.calls.Call.{Call}
use Rattle.drmaa_model.specs.declared.calls.Call.TheVariants as call
use Rattle.drmaa_model.specs.declared.configs.Config.{Config}
use Rattle.drmaa_model.specs.declared.entries.Entry.{Entry}
use Rattle.drmaa_model.specs.declared.rows.Row.{Row}
use Rattle.drmaa_model.specs.History.{IsLegal, now_of, replay}
use Rattle.text_codec.specs.Formats.{pair, checked}
use Rattle.text_codec.specs.Sums.{sum_of}
use Rattle.text_forms.specs.Templates.{template, frame}
use Rattle.journal_commands.specs.Replays.{AreRecorded}
use Rattle.journal_forms.specs.Calls.{running, bulk, requested, calls, calls_with, has_others}
use Rattle.journal_text.specs.Journals.{IsEntry, IsWritable}
use Rattle.journal_text.specs.Printing.{MayStand, IsPrintable}
use Rattle.journal_text.specs.declared.journals.Journal.{Journal}
use Rattle.revival.specs.Stops.{reruns, stop_call, stop, stops}
use Rattle.script_asks.specs.Plays.{serial_play_from}
use Rattle.script_journals.specs.Calls.{CallMayStand}
use Rattle.script_journals.specs.HistoryLaws.{history-printable}
use Rattle.script_journals.specs.PlayedLaws.{play_from-stands, spelled-others}
use Rattle.script_text.specs.Scripts as scripts
use Rattle.script_text.specs.declared.scripts.Mode.TheVariants as mode
use Rattle.script_text.specs.declared.scripts.Script.{Script}
use Rattle.script_commands.specs.Continuing.{revived}
use Rattle.script_commands.specs.Plays.{served_behind}

-- ---- what may be printed

-- each template of a call that is spelled has under `other` what journals have there
others_of : (c : Call) → calls.body.valid c → has_others c ≡ true
unfolding calls calls_with sum_of template frame checked running bulk requested pair
others_of (call.CreateJobSession name) v = refl
others_of (call.CreateReservationSession name) v = refl
others_of (call.OpenJobSession name) v = refl
others_of (call.OpenReservationSession name) v = refl
others_of (call.DestroyJobSession name) v = refl
others_of (call.DestroyReservationSession name) v = refl
others_of call.JobSessionNames v = refl
others_of call.ReservationSessionNames v = refl
others_of call.OpenMonitoring v = refl
others_of (call.CloseSession session) v = refl
others_of (call.RunJob session t) v = v.1.1
others_of (call.RunBulk session t listed) v = v.1.0.1
others_of (call.GetJobs session filter) v = refl
others_of (call.GetJobArray session array) v = refl
others_of (call.Control session meant what) v = refl
others_of (call.Reap session meant) v = refl
others_of (call.GetState session job) v = refl
others_of (call.GetInfo session job) v = refl
others_of (call.Wait session jobs kind begun lasts) v = refl
others_of (call.RequestReservation session t) v = v.1.1
others_of (call.GetReservation session number) v = refl
others_of (call.GetReservations session) v = refl
others_of (call.EndReservation session number) v = refl
others_of (call.AllJobs session filter) v = refl
others_of (call.AllReservations session) v = refl
others_of (call.AllQueues session) v = refl
others_of (call.AllMachines session) v = refl
others_of call.Register v = refl
others_of call.TakeLaunch v = refl
others_of (call.Started job attempt) v = refl
others_of (call.StartFailed job attempt) v = refl
others_of (call.Exited job attempt how) v = refl
others_of (call.ExitUnknown job attempt) v = refl
others_of call.TakeSignal v = refl
others_of (call.SignalDone job attempt kind) v = refl
others_of (call.SignalFailed job attempt kind) v = refl

calls_stand : (es rest : List Entry) → AllByRecursion IsEntry es → AreRecorded (es ++ rest) → (AreRecorded rest → AllByRecursion CallMayStand rest) → AllByRecursion CallMayStand (es ++ rest)
calls_stand [] rest v k behind = behind k
calls_stand (e ∷ es) rest v k behind = (record { call = k.0; others = others_of e.call v.0.call }, calls_stand es rest v.1 k.1 behind)

stop_others : (row : Row) → has_others (stop_call row) ≡ true
stop_others row =
    elim (reruns row) as (λ (b : Bool). has_others (if b then call.Exited row.job row.course.attempt (Code rerun_code) else call.ExitUnknown row.job row.course.attempt) ≡ true) [
      | true ↦ refl
      | false ↦ refl
    ]

stops_stand : (moment : ℕ) (rows : List Row) → AreRecorded (map (stop moment) rows) → AllByRecursion CallMayStand (map (stop moment) rows)
stops_stand moment [] k = tt
stops_stand moment (row ∷ rows) k = (record { call = k.0; others = stop_others row }, stops_stand moment rows k.1)

both : (xs ys : List Entry) → AllByRecursion MayStand xs → AllByRecursion MayStand ys → AllByRecursion MayStand (xs ++ ys)
both [] ys v w = w
both (x ∷ xs) ys v w = (v.0, both xs ys v.1 w)

-- The journal of a machine that goes on from a journal, and has played a script of the same machine, may be printed and read again.
pub continued_printable : (j : Journal) (s : Script) (lines : List (List ℕ)) → scripts.Spells mode.Serial lines s → s.config ≡ j.config → IsWritable j.config j.entries
    → IsLegal (revived j).config (revived j).history → AreRecorded (revived j).history → IsPrintable j.config (served_behind (revived j) s).history
continued_printable j s lines spelled same writable legal keep =
    let before = revived j in
    let w = replay j.config j.entries in
    let calls_may = calls_stand j.entries (stops w) writable.each keep (stops_stand w.plan.moment _) in
    let here = history-printable mode.Serial lines s before.history spelled calls_may (subst (λ (c : Config). IsLegal c before.history) (sym same) legal) in
    let all = both before.history (serial_play_from (now_of before) s).entries here.entries (play_from-stands (now_of before) s (spelled-others mode.Serial lines s spelled)) in
    subst (λ (c : Config). IsPrintable c (served_behind before s).history) same (record { machine = here.machine; queues = here.queues; size = here.size; entries = all })
