-- What is true of a plan after each operation is true of it after each call.
use Rattle.std.proofs.Common.{◌≡◌, ℕ, ◌+◌, Bool, true, false, List, [], ◌∷◌, Option, Some, None, refl, subst}
use Rattle.std.specs.Option.{option_map, option_map_or}
use Rattle.session_table.specs.Sessions.{destroyed, home_of}
use Rattle.job_template.specs.declared.templates.JobTemplate.{JobTemplate}
use Rattle.job_template.specs.declared.templates.ReservationTemplate.{ReservationTemplate}
use Rattle.drmaa_types.specs.Refusals.{first_refusal}
use Rattle.drmaa_types.specs.declared.identifiers.ReservationId.{ReservationId}
use Rattle.drmaa_types.specs.declared.sessions.SessionKind.{SessionKind}
use Rattle.drmaa_types.specs.declared.sessions.SessionKind.TheVariants.{Jobs, Reservations}
use Rattle.drmaa_types.specs.declared.states.Control.{Control}
use Rattle.drmaa_model.specs.declared.calls.Call.{Call}
use Rattle.drmaa_model.specs.declared.calls.Call.TheVariants as call
use Rattle.drmaa_model.specs.declared.calls.Indices.{Indices}
use Rattle.drmaa_model.specs.declared.calls.Report.{Report}
use Rattle.drmaa_model.specs.declared.calls.Report.TheVariants as report
use Rattle.drmaa_model.specs.declared.calls.Target.{Target}
use Rattle.drmaa_model.specs.declared.replies.Reply.{Reply}
use Rattle.drmaa_model.specs.declared.replies.Reply.TheVariants as reply
use Rattle.drmaa_model.specs.declared.rows.Row.{Row}
use Rattle.drmaa_model.specs.AnswerLaws.{answer-cases}
use Rattle.drmaa_model.specs.Controlling.{control, reap}
use Rattle.drmaa_model.specs.Effects.{StepAnswer, gives, nothing, not_yet, makes, destroy, forget_home, effect, wait_answer}
use Rattle.drmaa_model.specs.Homes.{session_test, home_number}
use Rattle.drmaa_model.specs.Launching.{launch_of, launch_row, signal, next_signal, signal_of}
use Rattle.drmaa_model.specs.OperationLaws.{no_test}
use Rattle.drmaa_model.specs.NextLaunch.{next_launch}
use Rattle.drmaa_model.specs.Plan.{Plan}
use Rattle.drmaa_model.specs.Refusals.{refusal}
use Rattle.drmaa_model.specs.Reporting.{report_of}
use Rattle.drmaa_model.specs.Requests.{request, request_tests, end_reservation}
use Rattle.drmaa_model.specs.Steps.{answer_now}
use Rattle.drmaa_model.specs.Submitting.{submit, submit_tests}
use Rattle.drmaa_model.specs.Waiting.{first_reached, is_timed_out}
use Rattle.drmaa_model.specs.World.{World}

-- It is true of the world's plan, and of what each operation leads to that is not refused: a launch where the call asks for one.
pub record HoldsAfter (v : World) (c : Call) (Q : Plan → Type 0) : Type 0 where
  pub same : Q v.plan
  pub forgets : (home : ℕ) → Q (forget_home home v.plan)
  pub submits : (home : ℕ) (t : JobTemplate) (indices : Option Indices) → first_refusal (submit_tests t indices v.plan) ≡ None → Q ((submit home t indices).effect (v.entries + 1) v.plan)
  pub controls : (meant : Target) (what : Control) → Q ((control meant what).effect (v.entries + 1) v.plan)
  pub reaps : (meant : Target) → Q ((reap meant).effect (v.entries + 1) v.plan)
  pub requests : (home : ℕ) (t : ReservationTemplate) → first_refusal (request_tests t v.plan) ≡ None → Q ((request home t).effect (v.entries + 1) v.plan)
  pub ends : (number : ReservationId) → Q ((end_reservation number).effect (v.entries + 1) v.plan)
  pub launches : c ≡ call.TakeLaunch → (next : Row × ℕ) → next_launch v.plan ≡ Some next → Q (launch_row (v.entries + 1) next.0 next.1 v.plan)
  pub signals : Q (signal.effect (v.entries + 1) v.plan)
  pub reports : (r : Report) → (report_of r).refusal v.plan ≡ None → Q ((report_of r).effect (v.entries + 1) v.plan)

-- where an answer makes an entry, it is true of the plan after it
abbrev LeadsTo : (Plan → Type 0) → StepAnswer → Type 0
LeadsTo Q (gives r next) = Q next.plan
LeadsTo Q nothing = Unit {0}
LeadsTo Q not_yet = Unit {0}

module _ {v : World} {c : Call} {Q : Plan → Type 0} (holds : HoldsAfter v c Q) where
  destroys : (kind : SessionKind) (name : List ℕ) → Q (destroy kind name v).plan
  destroys kind name =
      elim (home_of kind name v.sessions.named) as (λ o. Q (option_map_or (λ (home : ℕ). record v { sessions = destroyed home v.sessions; plan = forget_home home v.plan }) o v).plan) [
        | None ↦ holds.same
        | Some home ↦ holds.forgets home
      ]

  waits : (o : Option ℕ) (over : Bool) → LeadsTo Q (wait_answer o over v)
  waits None true = holds.same
  waits None false = tt
  waits (Some job) over = holds.same

  launching : c ≡ call.TakeLaunch → LeadsTo Q (effect 0 v call.TakeLaunch)
  launching asked =
      (elim (next_launch v.plan) as (λ o. next_launch v.plan ≡ o →
      LeadsTo Q (option_map_or (λ told. makes (reply.Launch told) (record v { plan = option_map_or (λ (n : Row × ℕ). launch_row (v.entries + 1) n.0 n.1 v.plan) o v.plan })) (option_map (λ (n : Row × ℕ). launch_of n.0 n.1) o) nothing)) [
        | None ↦ λ is. tt
        | Some next ↦ λ is. holds.launches asked next is
      ]) refl

  signalling : LeadsTo Q (effect 0 v call.TakeSignal)
  signalling =
      elim (next_signal v.plan) as (λ o. LeadsTo Q (option_map_or (λ told. makes (reply.Signal told) (record v { plan = signal.effect (v.entries + 1) v.plan })) (option_map (signal_of v.plan) o) nothing)) [
        | None ↦ tt
        | Some order ↦ holds.signals
      ]

effect-leads : (at : ℕ) (v : World) (c : Call) (Q : Plan → Type 0) → HoldsAfter v c Q → refusal v c ≡ None → LeadsTo Q (effect at v c)
effect-leads at v (call.DestroyJobSession name) Q holds free = destroys holds Jobs name
effect-leads at v (call.DestroyReservationSession name) Q holds free = destroys holds Reservations name
effect-leads at v (call.RunJob session t) Q holds free = holds.submits (home_number session v) t None (no_test (session_test (Jobs ∷ []) session v) (submit_tests t None v.plan) free).1
effect-leads at v (call.RunBulk session t indices) Q holds free = holds.submits (home_number session v) t (Some indices) (no_test (session_test (Jobs ∷ []) session v) (submit_tests t (Some indices) v.plan) free).1
effect-leads at v (call.Control session meant what) Q holds free = holds.controls meant what
effect-leads at v (call.Reap session meant) Q holds free = holds.reaps meant
effect-leads at v (call.Wait session jobs kind begun timeout) Q holds free = waits holds (first_reached kind v.plan.rows jobs) (is_timed_out at begun timeout)
effect-leads at v (call.RequestReservation session t) Q holds free = holds.requests (home_number session v) t (no_test (session_test (Reservations ∷ []) session v) (request_tests t v.plan) free).1
effect-leads at v (call.EndReservation session number) Q holds free = holds.ends number
effect-leads at v call.TakeLaunch Q holds free = launching holds refl
effect-leads at v (call.Started job attempt) Q holds free = holds.reports (report.Started job attempt) free
effect-leads at v (call.StartFailed job attempt) Q holds free = holds.reports (report.StartFailed job attempt) free
effect-leads at v (call.Exited job attempt exit) Q holds free = holds.reports (report.Exited job attempt exit) free
effect-leads at v (call.ExitUnknown job attempt) Q holds free = holds.reports (report.ExitUnknown job attempt) free
effect-leads at v call.TakeSignal Q holds free = signalling holds
effect-leads at v (call.SignalDone job attempt kind) Q holds free = holds.reports (report.SignalDone job attempt kind) free
effect-leads at v (call.SignalFailed job attempt kind) Q holds free = holds.reports (report.SignalFailed job attempt kind) free
effect-leads at v _ Q holds free = holds.same

-- so it is true of the plan after an answer
pub answer-leads : (at : ℕ) (v : World) (c : Call) (Q : Plan → Type 0) → HoldsAfter v c Q → (r : Reply) (next : World) → answer_now at v c ≡ gives r next → Q next.plan
answer-leads at v c Q holds r next is = subst (LeadsTo Q) is (answer-cases at v c (LeadsTo Q) (λ why refused. holds.same) (λ free. effect-leads at v c Q holds free))
