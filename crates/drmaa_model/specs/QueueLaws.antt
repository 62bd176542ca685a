-- Each job is of a queue that is there, no queue is passed, and a machine without queues has none of their rules: our profile.
use Rattle.std.proofs.Common.{◌≡◌, ℕ, ◌+◌, Bool, true, false, cond, eqb, ltb, not, ◌&&◌, ◌||◌, List, [], ◌∷◌, ◌++◌, map, filter, max, Option, Some, None, refl, sym, ◌∙◌, ap, subst, arith}
use Rattle.std.proofs.lemmas.Bool.Decides.{nat_tests}
use Rattle.std.specs.Prelude.{◌≤◌, ◌-◌, slice_get, suc, IfSome, IsSome, is_none, is_some}
use Rattle.std.specs.List.{AllByRecursion, position}
use Rattle.std.proofs.Math.Bool.{and-true, or-false}
use Rattle.std.proofs.lemmas.List.Quantifiers.{position-Some}
use Rattle.std.proofs.lemmas.Option.{slice_get-get_or}
use Rattle.std.specs.Option.{option_map, option_map_or}
use Rattle.job_template.specs.declared.templates.JobTemplate.{JobTemplate}
use Rattle.job_template.specs.Expand.{expanded}
use Rattle.job_template.specs.JobTests.{command_tests, is_bad_least, job_tests, limit_tests, path_tests, queue_test, slot_tests}
use Rattle.job_template.specs.Texts.{is_bad_name, is_bad_path}
use Rattle.job_template.specs.Unsupported.{other_tests}
use Rattle.job_template.specs.Wants.{min_slots, queue_limit, queue_of}
use Rattle.drmaa_types.specs.Queues.{is_named, place_of, queue_at}
use Rattle.drmaa_types.specs.Refusals.{first_refusal}
use Rattle.drmaa_types.specs.declared.identifiers.JobId.{JobId}
use Rattle.drmaa_types.specs.declared.queues.QueueSpec.{QueueSpec}
use Rattle.drmaa_types.specs.declared.refusals.Refusal.{Refusal}
use Rattle.drmaa_types.specs.declared.refusals.Refusal.TheVariants.{InvalidArgument}
use Rattle.drmaa_types.specs.declared.refusals.Which.TheVariants as which
use Rattle.drmaa_model.specs.declared.calls.Call.{Call}
use Rattle.drmaa_model.specs.declared.calls.Indices.{Indices}
use Rattle.drmaa_model.specs.declared.configs.Config.{Config}
use Rattle.drmaa_model.specs.declared.courses.Course.{Course}
use Rattle.drmaa_model.specs.declared.entries.Entry.{Entry}
use Rattle.drmaa_model.specs.declared.reservations.Accepted.{Accepted}
use Rattle.drmaa_model.specs.declared.rows.Row.{Row}
use Rattle.drmaa_model.specs.AfterLaws.{HoldsAfter, answer-leads}
use Rattle.drmaa_model.specs.Consistent.{IsConsistent}
use Rattle.drmaa_model.specs.Controlling.{control_step, is_done}
use Rattle.drmaa_model.specs.ControlLaws.{control-wants}
use Rattle.drmaa_model.specs.Courses.{planned_end, launched}
use Rattle.drmaa_model.specs.Effects.{left_by, is_forgotten}
use Rattle.drmaa_model.specs.Fit.{IsFit}
use Rattle.drmaa_model.specs.FitLaws.{advance-fit, all-append, with_course-wants}
use Rattle.drmaa_model.specs.History.{replay, IsLegal}
use Rattle.drmaa_model.specs.HistoryLaws.{legal-keeps}
use Rattle.drmaa_model.specs.Load.{fits, in_queue}
use Rattle.drmaa_model.specs.MoveLaws.{report-moves}
use Rattle.drmaa_model.specs.Moving.{course_after}
use Rattle.drmaa_model.specs.OperationLaws.{no_test, refusal-append}
use Rattle.drmaa_model.specs.NextLaunch.{has_room_in, has_slots_free}
use Rattle.drmaa_model.specs.Plan.{Plan}
use Rattle.drmaa_model.specs.Requests.{is_other}
use Rattle.drmaa_model.specs.RowLaws.{all-each, all-filter, all-implied, all-map}
use Rattle.drmaa_model.specs.Rows.{with_course}
use Rattle.drmaa_model.specs.Steps.{IsStep}
use Rattle.drmaa_model.specs.StepLaws.{legal-config, legal-consistent, opening-consistent, step-consistent, step-config}
use Rattle.drmaa_model.specs.Submitting.{Member, bulk_tests, indices_of, members, membership, named_slots, names_none, new_rows, room_tests, submit_tests}
use Rattle.drmaa_model.specs.Targets.{is_meant}
use Rattle.drmaa_model.specs.Time.{called_in, lapsed, lasts, advance}
use Rattle.drmaa_model.specs.TimeLaws.{timed, timed-wants, map-twice}
use Rattle.drmaa_model.specs.World.{World}

-- a job that asks for this is of one of these queues, and of none only where there are none
pub record IsPlaced (queues : List QueueSpec) (place : Option ℕ) : Type 0 where
  pub there : IfSome place (λ (n : ℕ). IsSome (queue_at n queues))
  pub none : place ≡ None → queues ≡ []

abbrev pub ArePlaced : List QueueSpec → List Row → Type 0
ArePlaced queues rows = AllByRecursion (λ (row : Row). IsPlaced queues row.wants.queue) rows

-- the same of the jobs of a plan
abbrev ArePlacedIn : List QueueSpec → Plan → Type 0
ArePlacedIn queues p = ArePlaced queues p.rows

-- no job is of a queue
abbrev pub AreQueueless : List Row → Type 0
AreQueueless rows = AllByRecursion (λ (row : Row). row.wants.queue ≡ None) rows

-- ---- what the rules of queues come to

-- a job that is of no queue needs the calendar alone
pub slots-queueless : (p : Plan) (slots : ℕ) (row : Row) → row.wants.queue ≡ None → has_slots_free p slots row ≡ fits p slots p.moment (planned_end row.wants p.moment)
slots-queueless p slots row none =
    ap (λ (o : Option ℕ). fits p slots p.moment (planned_end row.wants p.moment) && option_map_or (has_room_in p slots) o true) none
    ∙ and-true (fits p slots p.moment (planned_end row.wants p.moment))

-- without queues a least number of slots is bad where it is 0, or above the machine's slots
pub least-queueless : (slots : ℕ) (t : JobTemplate) → is_bad_least slots [] t ≡ ((eqb (min_slots t) 0) || ltb slots (min_slots t))
least-queueless slots t = ap (λ (o : Option ℕ). ((eqb (min_slots t) 0) || ltb slots (min_slots t)) || option_map_or (λ (limit : ℕ). ltb limit (min_slots t)) o false) limit
    ∙ or-false ((eqb (min_slots t) 0) || ltb slots (min_slots t)) where
      limit : queue_limit [] t ≡ None
      limit = elim (is_some t.reservation_id) as (λ b. cond {A = Option ℕ} b None None ≡ None) [ true ↦ refl | false ↦ refl ]

-- ---- the queue of a job that may be submitted

at-suc : (i : ℕ) (qs : List QueueSpec) → queue_at (suc i) qs ≡ slice_get qs i
unfolding queue_at
at-suc i qs =
    let test : eqb (suc i) 0 ≡ false = grind (arith, nat_tests) in
    let less : suc i - 1 ≡ i = omega arith in
    ap (λ b. cond {A = Option QueueSpec} b None (slice_get qs (suc i - 1))) test ∙ ap (slice_get qs) less

-- where the name of a queue was found, a queue is
found-there : (name : List ℕ) (first : QueueSpec) (others : List QueueSpec) → is_none (place_of name (first ∷ others)) ≡ false → IsPlaced (first ∷ others) (place_of name (first ∷ others))
found-there name first others =
    let qs : List QueueSpec = first ∷ others in
    (elim (position (is_named name) qs) as (λ o. position (is_named name) qs ≡ o → is_none (option_map suc o) ≡ false → IsPlaced qs (option_map suc o)) [
      | None ↦ λ e h. absurd (cc)
      | Some i ↦ λ e h.
          (let within = (position-Some (is_named name) qs i first e).0 in
          record { there = subst IsSome (sym (at-suc i qs ∙ slice_get-get_or qs i first within)) refl; none = λ n. absurd (cc) })
    ]) refl

queue-there : (queues : List QueueSpec) (t : JobTemplate) → (queue_test queues t).0 ≡ false → IsPlaced queues (queue_of queues t)
unfolding queue_at
queue-there [] t = λ free. record { there = tt; none = λ e. refl }
queue-there (first ∷ others) t =
    elim t.queue_name as (λ o. is_none (option_map_or (λ (name : List ℕ). place_of name (first ∷ others)) o (Some 1)) ≡ false
    → IsPlaced (first ∷ others) (option_map_or (λ (name : List ℕ). place_of name (first ∷ others)) o (Some 1))) [
      | None ↦ λ h. record { there = refl; none = λ e. absurd (cc) }
      | Some name ↦ λ h. found-there name first others h
    ]

-- a submission that is not refused names a queue that is there, or none
queue-free : (t : JobTemplate) (indices : Option Indices) (p : Plan) → first_refusal (submit_tests t indices p) ≡ None → (queue_test p.queues t).0 ≡ false
queue-free t indices p free =
    let rest : List (Bool × Refusal) = room_tests (members t indices p) p in
    let second : Bool × Refusal = (option_map_or (λ (slots : ℕ). ltb slots (min_slots t)) (named_slots t p) false, InvalidArgument which.MinSlots) in
    let first : Bool × Refusal = (names_none t p, InvalidArgument which.Reservation) in
    let all = refusal-append (bulk_tests indices ++ job_tests p.total p.queues p.moment t) (first ∷ second ∷ rest) free in
    let front = refusal-append (bulk_tests indices) (job_tests p.total p.queues p.moment t) all.0 in
    let job = refusal-append (command_tests t ++ path_tests p.queues t ++ slot_tests p.total p.queues p.moment t ++ limit_tests false t.resource_limits) (other_tests t.others) front.1 in
    let limits = refusal-append (command_tests t ++ path_tests p.queues t ++ slot_tests p.total p.queues p.moment t) (limit_tests false t.resource_limits) job.0 in
    let slots = refusal-append (command_tests t ++ path_tests p.queues t) (slot_tests p.total p.queues p.moment t) limits.0 in
    let paths = refusal-append (command_tests t) (path_tests p.queues t) slots.0 in
    let texts : List (Bool × Refusal) = (is_bad_path t.working_directory, InvalidArgument which.WorkingDirectory) ∷ (is_bad_name t.job_name, InvalidArgument which.JobName) ∷
    (is_bad_path t.input_path, InvalidArgument which.InputPath) ∷ (is_bad_path t.output_path, InvalidArgument which.OutputPath) ∷ (is_bad_path t.error_path, InvalidArgument which.ErrorPath) ∷ [] in
    (no_test (queue_test p.queues t) [] (refusal-append texts (queue_test p.queues t ∷ []) paths.1).1).0

-- ---- each step keeps that each job is of a queue that is there

kept-by : (queues : List QueueSpec) (f : Row → Row) → ((r : Row) → (f r).wants ≡ r.wants) → (rows : List Row) → ArePlaced queues rows → ArePlaced queues (map f rows)
kept-by queues f same rows placed =
    all-map (λ (r : Row). IsPlaced queues r.wants.queue) f rows
    (all-implied (λ (r : Row). IsPlaced queues r.wants.queue) (λ (r : Row). IsPlaced queues (f r).wants.queue) (λ r is. subst (λ w. IsPlaced queues w.queue) (sym (same r)) is) rows placed)

timed-placed : (queues : List QueueSpec) (m : ℕ) (rs : List Accepted) (rows : List Row) → ArePlaced queues rows → ArePlaced queues (map (called_in m rs) (map (lapsed m rs) rows))
timed-placed queues m rs rows placed = subst (ArePlaced queues) (map-twice (called_in m rs) (lapsed m rs) rows) (kept-by queues (timed m rs) (timed-wants m rs) rows placed)

new-placed : (home : ℕ) (p : Plan) (n : ℕ) (ms : List Member) → AllByRecursion (λ (m : Member). IsPlaced p.queues (queue_of p.queues m.template)) ms → ArePlaced p.queues (new_rows home p n ms)
new-placed home p n [] all = tt
new-placed home p n (m ∷ ms) all = (all.0, new-placed home p (n + 1) ms all.1)

-- each member of an array is of the queue of its template
expanded-queue : (queues : List QueueSpec) (index : ℕ) (t : JobTemplate) → queue_of queues t ≡ queue_of queues (expanded index t)
expanded-queue [] index t = refl
expanded-queue (first ∷ others) index t = refl

members-placed : (t : JobTemplate) (indices : Option Indices) (p : Plan) → IsPlaced p.queues (queue_of p.queues t) → AllByRecursion (λ (m : Member). IsPlaced p.queues (queue_of p.queues m.template)) (members t indices p)
members-placed t None p is = (is, tt)
members-placed t (Some i) p is =
    let made : ℕ → Member = λ index. record { template = expanded index t; membership = membership i p index } in
    all-map (λ (m : Member). IsPlaced p.queues (queue_of p.queues m.template)) made (indices_of i)
    (all-each (λ (index : ℕ). IsPlaced p.queues (queue_of p.queues (made index).template)) (λ index. subst (IsPlaced p.queues) (expanded-queue p.queues index t) is) (indices_of i))

module _ (v : World) (rows : ArePlaced v.plan.queues v.plan.rows) where
  goes-on : (job : JobId) (course : Course) → ArePlaced v.plan.queues (map (with_course job course) v.plan.rows)
  goes-on job course = kept-by v.plan.queues (with_course job course) (with_course-wants job course) v.plan.rows rows

  after : IsFit v.plan → (c : Call) → HoldsAfter v c (ArePlacedIn v.plan.queues)
  after fit c = record {
    same = rows;
    forgets = λ home.
        (kept-by v.plan.queues (λ (row : Row). record row { home = left_by home row.home }) (λ r. refl) (filter (λ (row : Row). not (is_forgotten home row)) v.plan.rows)
        (all-filter (λ (r : Row). IsPlaced v.plan.queues r.wants.queue) (λ (row : Row). not (is_forgotten home row)) v.plan.rows rows));
    submits = λ home t indices free.
        (all-append (λ (r : Row). IsPlaced v.plan.queues r.wants.queue) v.plan.rows (new_rows home v.plan v.plan.next_job (members t indices v.plan)) rows
        (new-placed home v.plan v.plan.next_job (members t indices v.plan) (members-placed t indices v.plan (queue-there v.plan.queues t (queue-free t indices v.plan free)))));
    controls = λ meant what. kept-by v.plan.queues (control_step v.plan.moment meant what) (control-wants v.plan.moment meant what) v.plan.rows rows;
    reaps = λ meant. all-filter (λ (r : Row). IsPlaced v.plan.queues r.wants.queue) (λ (row : Row). not (is_meant meant row && is_done row)) v.plan.rows rows;
    requests = λ home t free. rows;
    ends = λ number. timed-placed v.plan.queues v.plan.moment (filter (is_other number) v.plan.reservations) v.plan.rows rows;
    launches = λ asked next is. goes-on next.0.job (launched v.plan.moment next.1 (planned_end next.0.wants v.plan.moment) next.0.course);
    signals = rows;
    reports = λ r free.
        (let moved = report-moves r (v.entries + 1) v.plan fit free in
        subst (ArePlaced v.plan.queues) (sym moved.moves.rows) (goes-on moved.row.job (course_after v.plan.moment r moved.row)));
  }

step-placed : (w : World) (entry : Entry) (next : World) → IsFit w.plan → ArePlaced w.plan.queues w.plan.rows → IsStep w entry next → ArePlaced w.plan.queues next.plan.rows
step-placed w entry next fit rows step =
    let v = advance w entry.at in
    let placed = timed-placed w.plan.queues (max w.plan.moment entry.at) (filter (lasts (max w.plan.moment entry.at)) w.plan.reservations) w.plan.rows rows in
    answer-leads entry.at v entry.call (ArePlacedIn w.plan.queues) (after v placed (advance-fit (w.entries + 1) entry.at w.plan fit) entry.call) entry.reply next step.answered

queues-are : (config : Config) (w : World) → IsConsistent w → w.config ≡ config → w.plan.queues ≡ config.queues
queues-are config w ok same = ok.queues ∙ ap (λ (c : Config). c.queues) same

-- In each legal history each job is of a queue of the machine, and of none only where it has none.
pub legal-placed : (config : Config) (history : List Entry) → IsLegal config history → ArePlaced config.queues (replay config history).plan.rows
legal-placed config history legal =
    (legal-keeps config (λ (w : World). IsConsistent w × (w.config ≡ config) × ArePlaced config.queues w.plan.rows) (opening-consistent config, refl, tt)
    (λ w entry next all step.
    (let same = queues-are config w all.0 all.1 in
    let rows = step-placed w entry next all.0.fit (subst (λ queues. ArePlaced queues w.plan.rows) (sym same) all.2) step in
    (step-consistent w entry next all.0 step, step-config w entry next all.0 step ∙ all.1, subst (λ queues. ArePlaced queues next.plan.rows) same rows))) history legal).2

nowhere : (n : ℕ) → IsSome (queue_at n []) → ⊥
unfolding queue_at
nowhere n = elim (eqb n 0) as (λ b. IsSome (cond {A = Option QueueSpec} b None None) → ⊥) [ true ↦ λ h. absurd (cc) | false ↦ λ h. absurd (cc) ]

of-none : (place : Option ℕ) → IsPlaced [] place → place ≡ None
of-none None is = refl
of-none (Some n) is = absurd (nowhere n is.there)

-- Without queues no job is of one.
pub legal-queueless : (config : Config) (history : List Entry) → config.queues ≡ [] → IsLegal config history → AreQueueless (replay config history).plan.rows
legal-queueless config history none legal =
    all-implied (λ (r : Row). IsPlaced [] r.wants.queue) (λ (r : Row). r.wants.queue ≡ None) (λ r is. of-none r.wants.queue is) (replay config history).plan.rows
    (subst (λ queues. ArePlaced queues (replay config history).plan.rows) none (legal-placed config history legal))

-- In the world of each legal history the ordinary jobs of a queue hold at most its limit.
pub legal-queued : (config : Config) (history : List Entry) → IsLegal config history → (place : ℕ)
    → IfSome (queue_at place config.queues) (λ (queue : QueueSpec). in_queue place (replay config history).plan.rows ≤ queue.limit)
legal-queued config history legal place =
    let ok = legal-consistent config history legal in
    let same : (replay config history).plan.queues ≡ config.queues = ok.queues ∙ ap (λ (c : Config). c.queues) (legal-config config history legal) in
    subst (λ (queues : List QueueSpec). IfSome (queue_at place queues) (λ (queue : QueueSpec). in_queue place (replay config history).plan.rows ≤ queue.limit)) same (ok.fit.queued place)
