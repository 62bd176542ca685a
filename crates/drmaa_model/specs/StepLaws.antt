-- A step keeps a world consistent, adds edges alone, and makes one entry.
use Rattle.std.proofs.Common.{◌≡◌, ℕ, ◌+◌, ◌<◌, ◌≤◌, Bool, true, false, cond, leb, not, List, [], ◌∷◌, length, Option, Some, None, refl, sym, ◌∙◌, ap, subst, arith}
use Rattle.std.specs.Prelude.{is_some, IsTrue, IfSome, max}
use Rattle.std.specs.Option.{option_map, option_map_or}
use Rattle.std.proofs.lemmas.Bool.{leb-false}
use Rattle.session_table.specs.Permitted.{may_create}
use Rattle.session_table.specs.SessionLaws.{IsSound-opening, IsSound-opened, IsSound-created, IsSound-closed, IsSound-destroyed, bound-found}
use Rattle.session_table.specs.Sessions.{Sessions, IsSound as AreSound, created, opened, closed, destroyed, has_names, is_bound, home_of, in_use, chosen_name, create_refusal, open_refusal, monitor_refusal, most_sessions}
use Rattle.drmaa_types.specs.Queues.{queue_at}
use Rattle.drmaa_types.specs.Refusals.{first_refusal}
use Rattle.drmaa_types.specs.declared.queues.QueueSpec.{QueueSpec}
use Rattle.drmaa_types.specs.declared.refusals.Refusal.{Refusal}
use Rattle.drmaa_types.specs.declared.refusals.Refusal.TheVariants.{InvalidArgument, OutOfResource, Timeout}
use Rattle.drmaa_types.specs.declared.refusals.Limit.TheVariants as resource
use Rattle.drmaa_types.specs.declared.refusals.Which.TheVariants as which
use Rattle.drmaa_types.specs.declared.sessions.SessionKind.{SessionKind}
use Rattle.drmaa_types.specs.declared.sessions.SessionKind.TheVariants.{Jobs, Reservations, Monitoring}
use Rattle.drmaa_model.specs.declared.calls.Call.{Call}
use Rattle.drmaa_model.specs.declared.calls.Call.TheVariants as call
use Rattle.drmaa_model.specs.declared.calls.Report.{Report}
use Rattle.drmaa_model.specs.declared.calls.Report.TheVariants as report
use Rattle.drmaa_model.specs.declared.configs.Config.{Config}
use Rattle.drmaa_model.specs.declared.entries.Entry.{Entry}
use Rattle.drmaa_model.specs.declared.replies.Reply.{Reply}
use Rattle.drmaa_model.specs.declared.replies.Reply.TheVariants as reply
use Rattle.drmaa_model.specs.declared.rows.Row.{Row}
use Rattle.drmaa_model.specs.AnswerLaws.{answer-cases}
use Rattle.drmaa_model.specs.Consistent.{IsConsistent, AddsEdges}
use Rattle.drmaa_model.specs.Controlling.{control, reap}
use Rattle.drmaa_model.specs.ControlLaws.{control-fit, reap-fit}
use Rattle.drmaa_model.specs.Effects.{StepAnswer, gives, nothing, not_yet, makes, destroy, forget_home, effect, wait_answer}
use Rattle.drmaa_model.specs.Fit.{IsFit}
use Rattle.drmaa_model.specs.FitLaws.{advance-fit}
use Rattle.drmaa_model.specs.History.{after_entry, replay_from, replay, IsLegalFrom, IsLegal}
use Rattle.drmaa_model.specs.HistoryLaws.{legal-keeps}
use Rattle.drmaa_model.specs.HomeLaws.{forget-fit}
use Rattle.drmaa_model.specs.Homes.{session_test, home_number}
use Rattle.drmaa_model.specs.Launching.{launch_of, launch_row, signal, next_signal, signal_of}
use Rattle.drmaa_model.specs.LaunchFit.{launch_row-fit}
use Rattle.drmaa_model.specs.NextLaunch.{next_launch}
use Rattle.drmaa_model.specs.NextLaunchLaws.{next_launch-is}
use Rattle.drmaa_model.specs.OperationLaws.{no_test}
use Rattle.drmaa_model.specs.Plan.{Plan, opening_plan}
use Rattle.drmaa_model.specs.PlanSteps.{PlanStep, same-step, control-step, reap-step, launch-step, report-step, signal-step, submit-step, request-step, end-step, time-step, forget-step, edges-after}
use Rattle.drmaa_model.specs.Refusals.{refusal, most_callbacks}
use Rattle.drmaa_model.specs.Reporting.{report_of}
use Rattle.drmaa_model.specs.ReportLaws.{report-keeps, signal-keeps}
use Rattle.drmaa_model.specs.Requests.{request, request_tests, end_reservation}
use Rattle.drmaa_model.specs.RequestLaws.{request-keeps, end-fit}
use Rattle.drmaa_model.specs.Steps.{answer_now, answer, IsStep}
use Rattle.drmaa_model.specs.Submitting.{submit, submit_tests}
use Rattle.drmaa_model.specs.SubmitLaws.{submit-keeps}
use Rattle.drmaa_model.specs.Time.{advance}
use Rattle.drmaa_model.specs.Waiting.{first_reached, is_timed_out}
use Rattle.drmaa_model.specs.World.{World, opening_world, counted}

-- what a step leads to that is served at this moment
pub record StepKeeps (v : World) (moment : ℕ) (next : World) : Type 0 where
  pub consistent : IsConsistent next
  pub moment_is : next.plan.moment ≡ moment
  pub edges : AddsEdges (v.entries + 1) v.plan next.plan
  pub config : next.config ≡ v.config
  pub entries : next.entries ≡ v.entries + 1

-- ---- sessions

-- what a step of the sessions keeps
record SessionStep (s t : Sessions) : Type 0 where
  sound : AreSound t
  numbers : t.next_session ≤ s.next_session + 1
  homes : t.next_home ≤ s.next_home + 1

few-sessions : (n : ℕ) → first_refusal ((leb most_sessions n, OutOfResource resource.OpenSessions) ∷ []) ≡ None → n < 1_000
few-sessions n free = (let b = leb-false most_sessions n (no_test (leb most_sessions n, OutOfResource resource.OpenSessions) [] free).0 in omega arith)

created-step : (kind : SessionKind) (name : Option (List ℕ)) (s : Sessions) → IsTrue (has_names kind) → AreSound s → create_refusal kind name s ≡ None → SessionStep s (created kind name s)
created-step kind name s named sound free =
    let may = may_create kind name s sound.few_sessions free in
    record {
      sound = IsSound-created s kind (chosen_name kind name s.named) sound may.few_sessions may.few_numbers named may.free;
      numbers = omega arith;
      homes = omega arith;
    }

found-home : (o : Option ℕ) → not (is_some o) ≡ false → (home : ℕ) × (o ≡ Some home)
found-home None h = absurd (cc)
found-home (Some home) h = (home, refl)

opened-step : (kind : SessionKind) (name : List ℕ) (s : Sessions) → AreSound s → open_refusal kind name s ≡ None → SessionStep s (opened kind (home_of kind name s.named) s)
opened-step kind name s sound free =
    let rest : List (Bool × Refusal) = (leb most_sessions (length s.valid), OutOfResource resource.OpenSessions) ∷ [] in
    let one = no_test (not (in_use kind name s.named), InvalidArgument which.SessionName) rest free in
    let found = found-home (home_of kind name s.named) one.0 in
    let bound : IsTrue (is_bound s.named (record { number = s.next_session; kind = kind; home = home_of kind name s.named })) =
    subst (λ (o : Option ℕ). IsTrue (is_bound s.named (record { number = s.next_session; kind = kind; home = o }))) (sym found.1)
    (bound-found s.named kind name found.0 s.next_session sound.kinds found.1) in
    record { sound = IsSound-opened s kind (home_of kind name s.named) sound (few-sessions (length s.valid) one.1) bound; numbers = omega arith; homes = omega arith }

monitor-step : (s : Sessions) → AreSound s → monitor_refusal s ≡ None → SessionStep s (opened Monitoring None s)
monitor-step s sound free = record { sound = IsSound-opened s Monitoring None sound (few-sessions (length s.valid) free) refl; numbers = omega arith; homes = omega arith }

-- ---- a world whose parts go on

module _ (v : World) (ok : IsConsistent v) where
  moves : (q : Plan) (s : Sessions) (n : ℕ) → IsFit q → PlanStep (v.entries + 1) v.plan q → SessionStep v.sessions s → n ≤ v.registrations + 1 → n ≤ most_callbacks
      → StepKeeps v v.plan.moment (counted (record v { plan = q; sessions = s; registrations = n }))
  moves q s n fit plan sessions more few =
      let jobs = ok.jobs in let jobs' = plan.jobs in
      let arrays = ok.arrays in let arrays' = plan.arrays in
      let reservations = ok.reservations in let reservations' = plan.reservations in
      let numbers = ok.numbers in let numbers' = sessions.numbers in
      let homes = ok.homes in let homes' = sessions.homes in
      let registered = ok.registered in
      record {
        consistent = record {
          fit = fit;
          total = plan.total ∙ ok.total;
          queues = plan.queues ∙ ok.queues;
          few = plan.few ok.few;
          sessions = sessions.sound;
          jobs = omega arith;
          arrays = omega arith;
          reservations = omega arith;
          numbers = omega arith;
          homes = omega arith;
          registered = omega arith;
          callbacks = few;
        };
        moment_is = plan.moment;
        edges = record { added = plan.edges.added; gained = plan.edges.gained; edges = plan.edges.edges };
        config = refl;
        entries = refl;
      }

  same-sessions : SessionStep v.sessions v.sessions
  same-sessions = record { sound = ok.sessions; numbers = omega arith; homes = omega arith }

  -- the plan goes on
  goes : (q : Plan) → IsFit q → PlanStep (v.entries + 1) v.plan q → StepKeeps v v.plan.moment (counted (record v { plan = q }))
  goes q fit plan = moves q v.sessions v.registrations fit plan same-sessions (omega arith) ok.callbacks

  -- the sessions go on
  sits : (s : Sessions) → SessionStep v.sessions s → StepKeeps v v.plan.moment (counted (record v { sessions = s }))
  sits s sessions = moves v.plan s v.registrations ok.fit (same-step (v.entries + 1) v.plan) sessions (omega arith) ok.callbacks

  stays : StepKeeps v v.plan.moment (counted v)
  stays = goes v.plan ok.fit (same-step (v.entries + 1) v.plan)

  destroys : (kind : SessionKind) (name : List ℕ) → StepKeeps v v.plan.moment (counted (destroy kind name v))
  destroys kind name =
      elim (home_of kind name v.sessions.named) as (λ o. StepKeeps v v.plan.moment (counted (option_map_or (λ (home : ℕ). record v { sessions = destroyed home v.sessions; plan = forget_home home v.plan }) o v))) [
        | None ↦ stays
        | Some home ↦ moves (forget_home home v.plan) (destroyed home v.sessions) v.registrations (forget-fit home v.plan ok.fit) (forget-step home (v.entries + 1) v.plan)
            (record { sound = IsSound-destroyed v.sessions home ok.sessions; numbers = omega arith; homes = omega arith }) (omega arith) ok.callbacks
      ]

-- what is true of an answer: where it makes an entry, the world goes on
Keeps : World → StepAnswer → Type 0
Keeps v (gives r next) = StepKeeps v v.plan.moment next
Keeps v nothing = Unit {0}
Keeps v not_yet = Unit {0}

module _ (v : World) (ok : IsConsistent v) where
  keeps-launch : Keeps v (effect 0 v call.TakeLaunch)
  unfolding Keeps
  keeps-launch =
      (elim (next_launch v.plan) as (λ o. next_launch v.plan ≡ o →
      Keeps v (option_map_or (λ told. makes (reply.Launch told) (record v { plan = option_map_or (λ (n : Row × ℕ). launch_row (v.entries + 1) n.0 n.1 v.plan) o v.plan })) (option_map (λ (n : Row × ℕ). launch_of n.0 n.1) o) nothing)) [
        | None ↦ λ is. tt
        | Some next ↦ λ is.
            goes v ok (launch_row (v.entries + 1) next.0 next.1 v.plan) (launch_row-fit (v.entries + 1) v.plan next.0 next.1 ok.fit (next_launch-is v.plan next ok.fit.jobs.rising is))
            (launch-step (v.entries + 1) v.plan next.0 next.1 ok.fit is)
      ]) refl

  keeps-signal : Keeps v (effect 0 v call.TakeSignal)
  unfolding Keeps
  keeps-signal =
      elim (next_signal v.plan) as (λ o. Keeps v (option_map_or (λ told. makes (reply.Signal told) (record v { plan = signal.effect (v.entries + 1) v.plan })) (option_map (signal_of v.plan) o) nothing)) [
        | None ↦ tt
        | Some order ↦ goes v ok (signal.effect (v.entries + 1) v.plan) (signal-keeps.keeps (v.entries + 1) v.plan ok.fit refl) (signal-step (v.entries + 1) v.plan)
      ]

  keeps-wait : (o : Option ℕ) (over : Bool) → Keeps v (wait_answer o over v)
  unfolding Keeps
  keeps-wait None over = elim over as (λ b. Keeps v (cond b (makes (reply.Refused Timeout) v) not_yet)) [ true ↦ stays v ok | false ↦ tt ]
  keeps-wait (Some job) over = stays v ok

  reports : (r : Report) → (report_of r).refusal v.plan ≡ None → StepKeeps v v.plan.moment (counted (record v { plan = (report_of r).effect (v.entries + 1) v.plan }))
  reports r free = goes v ok ((report_of r).effect (v.entries + 1) v.plan) ((report-keeps r).keeps (v.entries + 1) v.plan ok.fit free) (report-step r (v.entries + 1) v.plan ok.fit free)

  served : (at : ℕ) (c : Call) → refusal v c ≡ None → Keeps v (effect at v c)
  unfolding Keeps
  served at (call.CreateJobSession name) free = sits v ok (created Jobs name v.sessions) (created-step Jobs name v.sessions refl ok.sessions free)
  served at (call.CreateReservationSession name) free = sits v ok (created Reservations name v.sessions) (created-step Reservations name v.sessions refl ok.sessions free)
  served at (call.OpenJobSession name) free = sits v ok (opened Jobs (home_of Jobs name v.sessions.named) v.sessions) (opened-step Jobs name v.sessions ok.sessions free)
  served at (call.OpenReservationSession name) free = sits v ok (opened Reservations (home_of Reservations name v.sessions.named) v.sessions) (opened-step Reservations name v.sessions ok.sessions free)
  served at (call.DestroyJobSession name) free = destroys v ok Jobs name
  served at (call.DestroyReservationSession name) free = destroys v ok Reservations name
  served at call.OpenMonitoring free = sits v ok (opened Monitoring None v.sessions) (monitor-step v.sessions ok.sessions free)
  served at (call.CloseSession session) free = sits v ok (closed session.0 v.sessions) (record { sound = IsSound-closed v.sessions session.0 ok.sessions; numbers = omega arith; homes = omega arith })
  served at (call.RunJob session t) free =
      (let tests = (no_test (session_test (Jobs ∷ []) session v) (submit_tests t None v.plan) free).1 in
      let op = submit (home_number session v) t None in
      goes v ok (op.effect (v.entries + 1) v.plan) ((submit-keeps (home_number session v) t None).keeps (v.entries + 1) v.plan ok.fit tests) (submit-step (home_number session v) t None (v.entries + 1) v.plan tests))
  served at (call.RunBulk session t indices) free =
      (let tests = (no_test (session_test (Jobs ∷ []) session v) (submit_tests t (Some indices) v.plan) free).1 in
      let op = submit (home_number session v) t (Some indices) in
      goes v ok (op.effect (v.entries + 1) v.plan) ((submit-keeps (home_number session v) t (Some indices)).keeps (v.entries + 1) v.plan ok.fit tests) (submit-step (home_number session v) t (Some indices) (v.entries + 1) v.plan tests))
  served at (call.Control session meant what) free = goes v ok ((control meant what).effect (v.entries + 1) v.plan) (control-fit meant what (v.entries + 1) v.plan ok.fit) (control-step meant what (v.entries + 1) v.plan ok.fit)
  served at (call.Reap session meant) free = goes v ok ((reap meant).effect (v.entries + 1) v.plan) (reap-fit meant (v.entries + 1) v.plan ok.fit) (reap-step meant (v.entries + 1) v.plan)
  served at (call.Wait session jobs kind begun timeout) free = keeps-wait (first_reached kind v.plan.rows jobs) (is_timed_out at begun timeout)
  served at (call.RequestReservation session t) free =
      (let tests = (no_test (session_test (Reservations ∷ []) session v) (request_tests t v.plan) free).1 in
      let op = request (home_number session v) t in
      goes v ok (op.effect (v.entries + 1) v.plan) ((request-keeps (home_number session v) t).keeps (v.entries + 1) v.plan ok.fit tests) (request-step (home_number session v) t (v.entries + 1) v.plan tests))
  served at (call.EndReservation session number) free = goes v ok ((end_reservation number).effect (v.entries + 1) v.plan) (end-fit number (v.entries + 1) v.plan ok.fit) (end-step number (v.entries + 1) v.plan ok.fit)
  served at call.Register free =
      (let below = leb-false most_callbacks v.registrations (no_test (leb most_callbacks v.registrations, OutOfResource resource.Callbacks) [] free).0 in
      moves v ok v.plan v.sessions (v.registrations + 1) ok.fit (same-step (v.entries + 1) v.plan) (same-sessions v ok) (omega arith) (omega arith))
  served at call.TakeLaunch free = keeps-launch
  served at (call.Started job attempt) free = reports (report.Started job attempt) free
  served at (call.StartFailed job attempt) free = reports (report.StartFailed job attempt) free
  served at (call.Exited job attempt exit) free = reports (report.Exited job attempt exit) free
  served at (call.ExitUnknown job attempt) free = reports (report.ExitUnknown job attempt) free
  served at call.TakeSignal free = keeps-signal
  served at (call.SignalDone job attempt kind) free = reports (report.SignalDone job attempt kind) free
  served at (call.SignalFailed job attempt kind) free = reports (report.SignalFailed job attempt kind) free
  served at _ free = stays v ok

  answers : (at : ℕ) (c : Call) → Keeps v (answer_now at v c)
  unfolding Keeps
  answers at c = answer-cases at v c (Keeps v) (λ why is. stays v ok) (λ free. served at c free)

  given : (r : Reply) (next : World) (a : StepAnswer) → a ≡ gives r next → Keeps v a → StepKeeps v v.plan.moment next
  unfolding Keeps
  given r next a same keeps = subst (Keeps v) same keeps

-- ---- steps

-- time keeps a world consistent
pub advance-consistent : (w : World) (at : ℕ) → IsConsistent w → IsConsistent (advance w at)
advance-consistent w at ok =
    let step = time-step (w.entries + 1) at w.plan ok.fit in
    record {
      fit = advance-fit (w.entries + 1) at w.plan ok.fit;
      total = ok.total;
      queues = ok.queues;
      few = step.few ok.few;
      sessions = ok.sessions;
      jobs = ok.jobs;
      arrays = ok.arrays;
      reservations = ok.reservations;
      numbers = ok.numbers;
      homes = ok.homes;
      registered = ok.registered;
      callbacks = ok.callbacks;
    }

-- a step from a world leads to a consistent one, adds edges from the states that its jobs had, and makes one entry
pub step-keeps : (w : World) (entry : Entry) (next : World) → IsConsistent w → IsStep w entry next → StepKeeps w (max w.plan.moment entry.at) next
step-keeps w entry next ok step =
    let v = advance w entry.at in
    let now = advance-consistent w entry.at ok in
    let keeps = given v now entry.reply next (answer w entry.at entry.call) step.answered (answers v now entry.at entry.call) in
    record {
      consistent = keeps.consistent;
      moment_is = keeps.moment_is;
      edges = edges-after (w.entries + 1) entry.at w.plan next.plan (time-step (w.entries + 1) entry.at w.plan ok.fit).edges keeps.edges;
      config = keeps.config;
      entries = keeps.entries;
    }

pub step-consistent : (w : World) (entry : Entry) (next : World) → IsConsistent w → IsStep w entry next → IsConsistent next
step-consistent w entry next ok step = (step-keeps w entry next ok step).consistent

pub step-edges : (w : World) (entry : Entry) (next : World) → IsConsistent w → IsStep w entry next → AddsEdges (w.entries + 1) w.plan next.plan
step-edges w entry next ok step = (step-keeps w entry next ok step).edges

pub step-entries : (w : World) (entry : Entry) (next : World) → IsConsistent w → IsStep w entry next → next.entries ≡ w.entries + 1
step-entries w entry next ok step = (step-keeps w entry next ok step).entries

pub step-config : (w : World) (entry : Entry) (next : World) → IsConsistent w → IsStep w entry next → next.config ≡ w.config
step-config w entry next ok step = (step-keeps w entry next ok step).config

pub step-total : (w : World) (entry : Entry) (next : World) → IsConsistent w → IsStep w entry next → next.plan.total ≡ w.plan.total
step-total w entry next ok step =
    let keeps = step-keeps w entry next ok step in
    keeps.consistent.total ∙ (ap (λ (c : Config). c.slots) keeps.config ∙ sym ok.total)

pub step-moment : (w : World) (entry : Entry) (next : World) → IsConsistent w → IsStep w entry next → next.plan.moment ≡ max w.plan.moment entry.at
step-moment w entry next ok step = (step-keeps w entry next ok step).moment_is

-- ---- histories

queue-empty : (o : Option QueueSpec) → IfSome o (λ (queue : QueueSpec). 0 ≤ queue.limit)
queue-empty None = tt
queue-empty (Some queue) = omega arith

pub opening-fit : (total : ℕ) (queues : List QueueSpec) → IsFit (opening_plan total queues)
opening-fit total queues = record {
  within = omega arith;
  sound = tt;
  jobs = record { rising = tt; below = tt };
  reserved = tt;
  arrays = tt;
  attempts = tt;
  asked = tt;
  loads = λ x low high. omega arith;
  books = λ x high. omega arith;
  inside = tt;
  queued = λ place. queue-empty (queue_at place queues);
  bounds = tt;
  alike = tt;
  accepted = record { rising = tt; below = tt };
  dispatched = tt;
}

pub opening-consistent : (config : Config) → IsConsistent (opening_world config)
opening-consistent config = record {
  fit = opening-fit config.slots config.queues;
  total = refl;
  queues = refl;
  few = record { jobs = omega arith; text = omega arith; reserved = omega arith };
  sessions = IsSound-opening;
  jobs = omega arith;
  arrays = omega arith;
  reservations = omega arith;
  numbers = omega arith;
  homes = omega arith;
  registered = omega arith;
  callbacks = omega arith;
}

-- the world of a legal history is consistent
pub legal-consistent : (config : Config) (history : List Entry) → IsLegal config history → IsConsistent (replay config history)
legal-consistent config history legal = legal-keeps config IsConsistent (opening-consistent config) step-consistent history legal

-- its configuration is that of the history's beginning
pub legal-config : (config : Config) (history : List Entry) → IsLegal config history → (replay config history).config ≡ config
legal-config config history legal =
    (legal-keeps config (λ (w : World). IsConsistent w × (w.config ≡ config)) (opening-consistent config, refl)
    (λ w entry next both step. (step-consistent w entry next both.0 step, (step-keeps w entry next both.0 step).config ∙ both.1)) history legal).1

counted_from : (w : World) (entries : List Entry) → IsConsistent w → IsLegalFrom w entries → (replay_from w entries).entries ≡ w.entries + length entries
counted_from w [] ok legal = omega arith
counted_from w (x ∷ xs) ok legal =
    let keeps = step-keeps w x (after_entry w x) ok legal.0 in
    let one = keeps.entries in
    let rest = counted_from (after_entry w x) xs keeps.consistent legal.1 in
    omega (arith, one, rest)

-- its entries are counted
pub legal-entries : (config : Config) (history : List Entry) → IsLegal config history → (replay config history).entries ≡ length history
legal-entries config history legal = (let count = counted_from (opening_world config) history (opening-consistent config) legal in omega arith)
