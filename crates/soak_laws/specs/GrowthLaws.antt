-- What a step of a soak adds to the journal's size: its entry, and at most four.
use Rattle.std.proofs.Common.{◌≡◌, ℕ, ◌+◌, ◌≤◌, ◌&&◌, List, [], ◌∷◌, length, filter, Option, Some, None, refl, arith}
use Rattle.std.specs.Option.{option_map, option_map_or}
use Rattle.drmaa_types.specs.declared.identifiers.SessionId.{SessionId}
use Rattle.drmaa_types.specs.declared.identifiers.JobId.{JobId}
use Rattle.drmaa_types.specs.declared.states.Control.TheVariants.{Terminate}
use Rattle.drmaa_types.specs.declared.states.Exit.{Exit}
use Rattle.job_template.specs.declared.templates.JobTemplate.{JobTemplate}
use Rattle.job_template.specs.declared.templates.ReservationTemplate.{ReservationTemplate}
use Rattle.drmaa_model.specs.declared.calls.Call.{Call}
use Rattle.drmaa_model.specs.declared.calls.Call.TheVariants as call
use Rattle.drmaa_model.specs.declared.calls.Report.TheVariants as report
use Rattle.drmaa_model.specs.declared.calls.Target.{Target}
use Rattle.drmaa_model.specs.declared.replies.Reply.TheVariants as reply
use Rattle.drmaa_model.specs.declared.rows.Row.{Row}
use Rattle.drmaa_model.specs.AnswerLaws.{answer-cases}
use Rattle.drmaa_model.specs.Controlling.{is_controlled}
use Rattle.drmaa_model.specs.Effects.{StepAnswer, gives, nothing, not_yet, makes, effect}
use Rattle.drmaa_model.specs.Fit.{IsFit}
use Rattle.drmaa_model.specs.Growth.{is_growing}
use Rattle.drmaa_model.specs.Homes.{home_number}
use Rattle.drmaa_model.specs.Launching.{launch_of, launch_row}
use Rattle.drmaa_model.specs.NextLaunch.{next_launch}
use Rattle.drmaa_model.specs.Refusals.{refusal}
use Rattle.drmaa_model.specs.Size.{size}
use Rattle.drmaa_model.specs.Steps.{answer_now}
use Rattle.drmaa_model.specs.WeightLaws.{launch-weight, report-weight, control-weight, reap-weight, submit-weight}
use Rattle.drmaa_model.specs.World.{World}

-- where an answer makes an entry, the size rises by no more than five
abbrev pub Grows : World → StepAnswer → Type 0
Grows v (gives r next) = size next ≤ size v + 5
Grows v nothing = Unit {0}
Grows v not_yet = Unit {0}

-- a call of which this is so in any world whose plan fits
abbrev pub IsSlight : Call → Type 0
IsSlight c = (v : World) (at : ℕ) → IsFit v.plan → Grows v (answer_now at v c)

-- a refusal adds its entry alone
by_effect : (c : Call) → ((v : World) (at : ℕ) → IsFit v.plan → refusal v c ≡ None → Grows v (effect at v c)) → IsSlight c
by_effect c served = λ v at fit. answer-cases at v c (Grows v) (λ why is. omega arith) (λ free. served v at fit free)

pub create_jobs_slight : (name : Option (List ℕ)) → IsSlight (call.CreateJobSession name)
create_jobs_slight name = by_effect (call.CreateJobSession name) (λ v at fit free. omega arith)

pub create_reservations_slight : (name : Option (List ℕ)) → IsSlight (call.CreateReservationSession name)
create_reservations_slight name = by_effect (call.CreateReservationSession name) (λ v at fit free. omega arith)

-- a job that is submitted is promised room for one change
pub run_slight : (session : SessionId) (t : JobTemplate) → IsSlight (call.RunJob session t)
run_slight session t =
    by_effect (call.RunJob session t) (λ v at fit free. let more = submit-weight (home_number session v) t None (v.entries + 1) v.plan in omega arith)

pub request_slight : (session : SessionId) (t : ReservationTemplate) → IsSlight (call.RequestReservation session t)
request_slight session t = by_effect (call.RequestReservation session t) (λ v at fit free. omega arith)

-- one that is launched is promised room for its reports
launch_grows : (v : World) (at : ℕ) → IsFit v.plan → Grows v (effect at v call.TakeLaunch)
launch_grows v at fit =
    (elim (next_launch v.plan) as (λ o. next_launch v.plan ≡ o →
    Grows v (option_map_or (λ told. makes (reply.Launch told) (record v { plan = option_map_or (λ (n : Row × ℕ). launch_row (v.entries + 1) n.0 n.1 v.plan) o v.plan })) (option_map (λ (n : Row × ℕ). launch_of n.0 n.1) o) nothing)) [
      | None ↦ λ is. tt
      | Some next ↦ λ is. (let more = launch-weight (v.entries + 1) v.plan next.0 next.1 fit is in omega arith)
    ]) refl

pub launch_slight : IsSlight call.TakeLaunch
launch_slight = by_effect call.TakeLaunch (λ v at fit free. launch_grows v at fit)

-- the report of an end, a termination and a reap add nothing
pub exit_slight : (job : JobId) (attempt : ℕ) (exit : Exit) → IsSlight (call.Exited job attempt exit)
exit_slight job attempt exit =
    by_effect (call.Exited job attempt exit) (λ v at fit free. let less = report-weight (report.Exited job attempt exit) (v.entries + 1) v.plan fit free in omega arith)

none_grow : (t : Target) (rows : List Row) → length (filter (λ (row : Row). is_growing Terminate && is_controlled t Terminate row) rows) ≡ 0
none_grow t [] = refl
none_grow t (row ∷ rows) = none_grow t rows

pub terminate_slight : (session : SessionId) (meant : Target) → IsSlight (call.Control session meant Terminate)
terminate_slight session meant =
    by_effect (call.Control session meant Terminate) (λ v at fit free. let more = control-weight meant Terminate (v.entries + 1) v.plan in let none = none_grow meant v.plan.rows in omega arith)

pub reap_slight : (session : SessionId) (meant : Target) → IsSlight (call.Reap session meant)
reap_slight session meant =
    by_effect (call.Reap session meant) (λ v at fit free. let same = reap-weight meant (v.entries + 1) v.plan fit in omega arith)
