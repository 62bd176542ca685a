-- A step raises the journal's size by its entry and by what its call may add, and an accepted report of a run does not raise it. A legal history stays within its size.
use Rattle.std.proofs.Common.{◌≡◌, ℕ, ◌+◌, ◌≤◌, Bool, true, false, cond, List, length, Option, Some, None, refl, ◌∙◌, ap, subst, arith}
use Rattle.std.specs.Option.{option_map, option_map_or}
use Rattle.session_table.specs.Sessions.{destroyed, home_of}
use Rattle.drmaa_types.specs.declared.refusals.Refusal.TheVariants.{Timeout}
use Rattle.drmaa_types.specs.declared.sessions.SessionKind.{SessionKind}
use Rattle.drmaa_types.specs.declared.sessions.SessionKind.TheVariants.{Jobs, Reservations}
use Rattle.drmaa_model.specs.declared.calls.Call.{Call}
use Rattle.drmaa_model.specs.declared.calls.Call.TheVariants as call
use Rattle.drmaa_model.specs.declared.calls.Report.{Report}
use Rattle.drmaa_model.specs.declared.calls.Report.TheVariants as report
use Rattle.drmaa_model.specs.declared.configs.Config.{Config}
use Rattle.drmaa_model.specs.declared.entries.Entry.{Entry}
use Rattle.drmaa_model.specs.declared.replies.Reply.{Reply}
use Rattle.drmaa_model.specs.declared.replies.Reply.TheVariants as reply
use Rattle.drmaa_model.specs.declared.rows.Row.{Row}
use Rattle.drmaa_model.specs.AnswerLaws.{answer-cases}
use Rattle.drmaa_model.specs.Consistent.{IsConsistent}
use Rattle.drmaa_model.specs.Effects.{StepAnswer, gives, nothing, not_yet, makes, through, unit, destroy, forget_home, effect, wait_answer}
use Rattle.drmaa_model.specs.Fit.{IsFit}
use Rattle.drmaa_model.specs.FitLaws.{advance-fit}
use Rattle.drmaa_model.specs.Growth.{is_of_run, growth}
use Rattle.drmaa_model.specs.History.{replay, IsLegal}
use Rattle.drmaa_model.specs.HistoryLaws.{legal-keeps}
use Rattle.drmaa_model.specs.Homes.{home_number}
use Rattle.drmaa_model.specs.Launching.{launch_of, launch_row, signal, next_signal, signal_of}
use Rattle.drmaa_model.specs.NextLaunch.{next_launch}
use Rattle.drmaa_model.specs.Refusals.{refusal}
use Rattle.drmaa_model.specs.Reporting.{report_of}
use Rattle.drmaa_model.specs.Size.{size}
use Rattle.drmaa_model.specs.Steps.{answer_now, answer, IsStep}
use Rattle.drmaa_model.specs.StepLaws.{opening-consistent, step-consistent, step-config, legal-entries}
use Rattle.drmaa_model.specs.SubmitLaws.{length-members}
use Rattle.drmaa_model.specs.Time.{advance}
use Rattle.drmaa_model.specs.TimeLaws.{weight-advance}
use Rattle.drmaa_model.specs.Waiting.{first_reached, is_timed_out}
use Rattle.drmaa_model.specs.WeightLaws.{launch-weight, run-weight, report-weight, control-weight, reap-weight, forget-weight, submit-weight, end-weight}
use Rattle.drmaa_model.specs.World.{World, counted}

-- where an answer makes an entry, the size rises by no more than this beside it
abbrev Grows : World → ℕ → StepAnswer → Type 0
Grows v more (gives r next) = size next ≤ size v + 1 + more
Grows v more nothing = Unit {0}
Grows v more not_yet = Unit {0}

module _ (v : World) (fit : IsFit v.plan) where
  grows-destroy : (kind : SessionKind) (name : List ℕ) → size (counted (destroy kind name v)) ≤ size v + 1 + 0
  grows-destroy kind name =
      elim (home_of kind name v.sessions.named) as (λ o. size (counted (option_map_or (λ (home : ℕ). record v { sessions = destroyed home v.sessions; plan = forget_home home v.plan }) o v)) ≤ size v + 1 + 0) [
        | None ↦ omega arith
        | Some home ↦ (let same = forget-weight home v.plan fit in omega arith)
      ]

  grows-wait : (o : Option ℕ) (over : Bool) → Grows v 0 (wait_answer o over v)
  grows-wait None over = elim over as (λ b. Grows v 0 (cond b (makes (reply.Refused Timeout) v) not_yet)) [ true ↦ omega arith | false ↦ tt ]
  grows-wait (Some job) over = omega arith

  grows-launch : Grows v 4 (effect 0 v call.TakeLaunch)
  grows-launch =
      (elim (next_launch v.plan) as (λ o. next_launch v.plan ≡ o →
      Grows v 4 (option_map_or (λ told. makes (reply.Launch told) (record v { plan = option_map_or (λ (n : Row × ℕ). launch_row (v.entries + 1) n.0 n.1 v.plan) o v.plan })) (option_map (λ (n : Row × ℕ). launch_of n.0 n.1) o) nothing)) [
        | None ↦ λ is. tt
        | Some next ↦ λ is. (let more = launch-weight (v.entries + 1) v.plan next.0 next.1 fit is in omega arith)
      ]) refl

  grows-signal : Grows v 0 (effect 0 v call.TakeSignal)
  grows-signal =
      elim (next_signal v.plan) as (λ o. Grows v 0 (option_map_or (λ told. makes (reply.Signal told) (record v { plan = signal.effect (v.entries + 1) v.plan })) (option_map (signal_of v.plan) o) nothing)) [
        | None ↦ tt
        | Some order ↦ omega arith
      ]

  grows-report : (r : Report) → (report_of r).refusal v.plan ≡ None → Grows v 0 (through unit (report_of r) v)
  grows-report r free = (let less = report-weight r (v.entries + 1) v.plan fit free in omega arith)

  grows : (at : ℕ) (c : Call) → refusal v c ≡ None → Grows v (growth v c) (effect at v c)
  grows at (call.DestroyJobSession name) free = grows-destroy Jobs name
  grows at (call.DestroyReservationSession name) free = grows-destroy Reservations name
  grows at (call.RunJob session t) free = (let more = submit-weight (home_number session v) t None (v.entries + 1) v.plan in omega arith)
  grows at (call.RunBulk session t indices) free = (let more = submit-weight (home_number session v) t (Some indices) (v.entries + 1) v.plan in let count = length-members t indices v.plan in omega arith)
  grows at (call.Control session meant what) free = (let more = control-weight meant what (v.entries + 1) v.plan in omega arith)
  grows at (call.Reap session meant) free = (let same = reap-weight meant (v.entries + 1) v.plan fit in omega arith)
  grows at (call.Wait session jobs kind begun timeout) free = grows-wait (first_reached kind v.plan.rows jobs) (is_timed_out at begun timeout)
  grows at (call.EndReservation session number) free = (let same = end-weight number (v.entries + 1) v.plan in omega arith)
  grows at call.TakeLaunch free = grows-launch
  grows at (call.Started job attempt) free = grows-report (report.Started job attempt) free
  grows at (call.StartFailed job attempt) free = grows-report (report.StartFailed job attempt) free
  grows at (call.Exited job attempt exit) free = grows-report (report.Exited job attempt exit) free
  grows at (call.ExitUnknown job attempt) free = grows-report (report.ExitUnknown job attempt) free
  grows at call.TakeSignal free = grows-signal
  grows at (call.SignalDone job attempt kind) free = grows-report (report.SignalDone job attempt kind) free
  grows at (call.SignalFailed job attempt kind) free = grows-report (report.SignalFailed job attempt kind) free
  grows at _ free = omega arith

  grown : (at : ℕ) (c : Call) → Grows v (growth v c) (answer_now at v c)
  grown at c = answer-cases at v c (Grows v (growth v c)) (λ why is. omega arith) (λ free. grows at c free)

given : (v next : World) (more : ℕ) (r : Reply) (a : StepAnswer) → a ≡ gives r next → Grows v more a → size next ≤ size v + 1 + more
given v next more r a same grows = subst (Grows v more) same grows

-- where an answer makes an entry, the size is at most this
abbrev Small : ℕ → StepAnswer → Type 0
Small limit (gives r next) = size next ≤ limit
Small limit nothing = Unit {0}
Small limit not_yet = Unit {0}

-- a step raises the size by its entry and by no more than its call may add
pub step-size : (w : World) (entry : Entry) (next : World) → IsConsistent w → IsStep w entry next → size next ≤ size w + 1 + growth (advance w entry.at) entry.call
step-size w entry next ok step =
    let v = advance w entry.at in
    let now = advance-fit (w.entries + 1) entry.at w.plan ok.fit in
    let same = weight-advance (w.entries + 1) entry.at w.plan in
    let more = given v next (growth v entry.call) entry.reply (answer w entry.at entry.call) step.answered (grown v now entry.at entry.call) in
    omega arith

-- an accepted report of a run does not raise it
pub run-size : (w : World) (at : ℕ) (r : Report) (told : Reply) (next : World) → IsConsistent w → is_of_run r ≡ true → (report_of r).refusal (advance w at).plan ≡ None
    → through unit (report_of r) (advance w at) ≡ gives told next → size next ≤ size w
run-size w at r told next ok run free same =
    let v = advance w at in
    let now = advance-fit (w.entries + 1) at w.plan ok.fit in
    let less = run-weight r (v.entries + 1) v.plan run now free in
    let kept = weight-advance (w.entries + 1) at w.plan in
    let after : size (counted (record v { plan = (report_of r).effect (v.entries + 1) v.plan })) ≤ size w = omega arith in
    subst (Small (size w)) same after

-- ---- time and histories

-- time leaves the size
pub advance-size : (w : World) (at : ℕ) → size (advance w at) ≡ size w
advance-size w at = ap (λ (n : ℕ). w.entries + n) (weight-advance (w.entries + 1) at w.plan)

-- what is true of the world of a legal history: it keeps within the journal's size
record IsWithin (config : Config) (w : World) : Type 0 where
  consistent : IsConsistent w
  config_is : w.config ≡ config
  within : size w ≤ config.journal

step-within : (config : Config) (w : World) (entry : Entry) (next : World) → IsWithin config w → IsStep w entry next → IsWithin config next
step-within config w entry next here step = record {
  consistent = step-consistent w entry next here.consistent step;
  config_is = step-config w entry next here.consistent step ∙ here.config_is;
  within = subst (λ (c : Config). size next ≤ c.journal) here.config_is step.within;
}

pub legal-size : (config : Config) (history : List Entry) → IsLegal config history → size (replay config history) ≤ config.journal
legal-size config history legal =
    (legal-keeps config (IsWithin config) (record { consistent = opening-consistent config; config_is = refl; within = omega arith }) (step-within config) history legal).within

-- so a legal history has no more entries than that
pub legal-length : (config : Config) (history : List Entry) → IsLegal config history → length history ≤ config.journal
legal-length config history legal = (let count = legal-entries config history legal in let whole = legal-size config history legal in omega arith)
