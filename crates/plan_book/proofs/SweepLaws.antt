-- What a control call does to what is promised, owed and asked.
use Rattle.std.proofs.Common.{◌≡◌, ◌≢◌, ℕ, ◌+◌, ◌≤◌, Bool, true, false, cond, ◌&&◌, List, [], ◌∷◌, map, filter, length, sum_by, Option, Some, None, refl, sym, ◌∙◌, ap, subst, arith, length-append}
use Rattle.std.specs.Prelude.{is_some}
use Rattle.std.specs.List.{AllByRecursion, flat_map}
use Rattle.std.specs.Option.{option_map_or}
use Rattle.std.proofs.lemmas.Bool.{and_parts}
use Rattle.std.proofs.lemmas.List.Sums.{sum_by-cons}
use Rattle.drmaa_types.specs.States.{is_state, is_waiting, is_started, after_control}
use Rattle.drmaa_types.specs.declared.changes.Change.{Change}
use Rattle.drmaa_types.specs.declared.states.Control.{Control}
use Rattle.drmaa_types.specs.declared.states.Control.TheVariants.{Suspend, Resume, Hold, Release, Terminate}
use Rattle.drmaa_types.specs.declared.states.JobState.{JobState}
use Rattle.drmaa_types.specs.declared.states.JobState.TheVariants.{Undetermined, Queued, QueuedHeld, Running, Suspended, Requeued, RequeuedHeld, Done, Failed}
use Rattle.drmaa_types.specs.declared.states.Note.{Note}
use Rattle.drmaa_types.specs.declared.states.Note.TheVariants as note
use Rattle.drmaa_types.specs.declared.states.SignalKind.TheVariants as signal
use Rattle.drmaa_model.specs.declared.calls.Target.{Target}
use Rattle.drmaa_model.specs.declared.courses.Course.{Course}
use Rattle.drmaa_model.specs.declared.courses.Order.{Order}
use Rattle.drmaa_model.specs.declared.courses.Phase.{Phase}
use Rattle.drmaa_model.specs.declared.courses.Phase.TheVariants.{Idle, Launching, Alive}
use Rattle.drmaa_model.specs.declared.rows.Row.{Row}
use Rattle.drmaa_model.specs.Controlling.{permits, is_controlled, controlled_row, control_step, control, asked_orders, orders_for}
use Rattle.drmaa_model.specs.ControlLaws.{eases-control}
use Rattle.drmaa_model.specs.Courses.{failed, called, is_unasked, may_kill, terminated, controlled, asked_for}
use Rattle.drmaa_model.specs.Fit.{IsSound, IsFit}
use Rattle.drmaa_model.specs.FitLaws.{Eases, same-kind, SameKind, ends-waiting}
use Rattle.drmaa_model.specs.Growth.{is_growing}
use Rattle.drmaa_model.specs.Plan.{Plan}
use Rattle.drmaa_model.specs.RowLaws.{all-implied}
use Rattle.drmaa_model.specs.Rows.{change_of}
use Rattle.drmaa_model.specs.Size.{room_of, phase_room, promised, weight}
use Rattle.drmaa_model.specs.Targets.{is_meant}
use Rattle.drmaa_model.specs.TimeLaws.{waits-not_failed}
use Rattle.drmaa_model.specs.WeightLaws.{length-same}
use Rattle.reservation_calendar.specs.Schedules.{Schedule}
use Rattle.plan_book.specs.Book.{owes, owes_kill, owed, owed_kills}
use Rattle.plan_book.specs.Sweeps.{acted, growth, may_add_order, most_orders, noted}
use Rattle.plan_book.specs.Ties.{IsTied}
use Rattle.plan_book.specs.TieLaws.{tied-eased}

-- ---- the states

-- a call other than a termination leads to another state
moves : (what : Control) (s t : JobState) → (what ≡ Terminate → ⊥) → after_control s what ≡ Some t → is_state s t ≡ false
moves Suspend Undetermined t quiet e = absurd (cc)
moves Suspend Queued t quiet e = absurd (cc)
moves Suspend QueuedHeld t quiet e = absurd (cc)
moves Suspend Running t quiet e = (let same : Suspended ≡ t = cc in subst (λ (x : JobState). is_state Running x ≡ false) same refl)
moves Suspend Suspended t quiet e = absurd (cc)
moves Suspend Requeued t quiet e = absurd (cc)
moves Suspend RequeuedHeld t quiet e = absurd (cc)
moves Suspend Done t quiet e = absurd (cc)
moves Suspend Failed t quiet e = absurd (cc)
moves Resume Undetermined t quiet e = absurd (cc)
moves Resume Queued t quiet e = absurd (cc)
moves Resume QueuedHeld t quiet e = absurd (cc)
moves Resume Running t quiet e = absurd (cc)
moves Resume Suspended t quiet e = (let same : Running ≡ t = cc in subst (λ (x : JobState). is_state Suspended x ≡ false) same refl)
moves Resume Requeued t quiet e = absurd (cc)
moves Resume RequeuedHeld t quiet e = absurd (cc)
moves Resume Done t quiet e = absurd (cc)
moves Resume Failed t quiet e = absurd (cc)
moves Hold Undetermined t quiet e = absurd (cc)
moves Hold Queued t quiet e = (let same : QueuedHeld ≡ t = cc in subst (λ (x : JobState). is_state Queued x ≡ false) same refl)
moves Hold QueuedHeld t quiet e = absurd (cc)
moves Hold Running t quiet e = absurd (cc)
moves Hold Suspended t quiet e = absurd (cc)
moves Hold Requeued t quiet e = (let same : RequeuedHeld ≡ t = cc in subst (λ (x : JobState). is_state Requeued x ≡ false) same refl)
moves Hold RequeuedHeld t quiet e = absurd (cc)
moves Hold Done t quiet e = absurd (cc)
moves Hold Failed t quiet e = absurd (cc)
moves Release Undetermined t quiet e = absurd (cc)
moves Release Queued t quiet e = absurd (cc)
moves Release QueuedHeld t quiet e = (let same : Queued ≡ t = cc in subst (λ (x : JobState). is_state QueuedHeld x ≡ false) same refl)
moves Release Running t quiet e = absurd (cc)
moves Release Suspended t quiet e = absurd (cc)
moves Release Requeued t quiet e = absurd (cc)
moves Release RequeuedHeld t quiet e = (let same : Requeued ≡ t = cc in subst (λ (x : JobState). is_state RequeuedHeld x ≡ false) same refl)
moves Release Done t quiet e = absurd (cc)
moves Release Failed t quiet e = absurd (cc)
moves Terminate s t quiet e = absurd (quiet refl)

-- a job that permits a call waits or is started
pub lives : (what : Control) (s t : JobState) → after_control s what ≡ Some t → is_waiting s ≡ false → is_started s ≡ false → ⊥
lives Suspend Undetermined t e idle stopped = cc
lives Suspend Queued t e idle stopped = cc
lives Suspend QueuedHeld t e idle stopped = cc
lives Suspend Running t e idle stopped = cc
lives Suspend Suspended t e idle stopped = cc
lives Suspend Requeued t e idle stopped = cc
lives Suspend RequeuedHeld t e idle stopped = cc
lives Suspend Done t e idle stopped = cc
lives Suspend Failed t e idle stopped = cc
lives Resume Undetermined t e idle stopped = cc
lives Resume Queued t e idle stopped = cc
lives Resume QueuedHeld t e idle stopped = cc
lives Resume Running t e idle stopped = cc
lives Resume Suspended t e idle stopped = cc
lives Resume Requeued t e idle stopped = cc
lives Resume RequeuedHeld t e idle stopped = cc
lives Resume Done t e idle stopped = cc
lives Resume Failed t e idle stopped = cc
lives Hold Undetermined t e idle stopped = cc
lives Hold Queued t e idle stopped = cc
lives Hold QueuedHeld t e idle stopped = cc
lives Hold Running t e idle stopped = cc
lives Hold Suspended t e idle stopped = cc
lives Hold Requeued t e idle stopped = cc
lives Hold RequeuedHeld t e idle stopped = cc
lives Hold Done t e idle stopped = cc
lives Hold Failed t e idle stopped = cc
lives Release Undetermined t e idle stopped = cc
lives Release Queued t e idle stopped = cc
lives Release QueuedHeld t e idle stopped = cc
lives Release Running t e idle stopped = cc
lives Release Suspended t e idle stopped = cc
lives Release Requeued t e idle stopped = cc
lives Release RequeuedHeld t e idle stopped = cc
lives Release Done t e idle stopped = cc
lives Release Failed t e idle stopped = cc
lives Terminate Undetermined t e idle stopped = cc
lives Terminate Queued t e idle stopped = cc
lives Terminate QueuedHeld t e idle stopped = cc
lives Terminate Running t e idle stopped = cc
lives Terminate Suspended t e idle stopped = cc
lives Terminate Requeued t e idle stopped = cc
lives Terminate RequeuedHeld t e idle stopped = cc
lives Terminate Done t e idle stopped = cc
lives Terminate Failed t e idle stopped = cc

some-of : (o : Option JobState) → is_some o ≡ true → (state : JobState) × (o ≡ Some state)
some-of None is = absurd (cc)
some-of (Some state) is = (state, refl)

-- a job is controlled, and its state permits that, or it stays
stays-or : (Q : Row → Row → Bool → Type 0) (moment : ℕ) (t : Target) (what : Control) (r : Row) → Q r r false
    → ((state : JobState) → after_control r.course.state what ≡ Some state → Q r (record r { course = controlled moment what state r.course }) true)
    → Q r (control_step moment t what r) (is_controlled t what r)
stays-or Q moment t what r here there =
    (elim (is_controlled t what r) as (λ b. is_controlled t what r ≡ b → Q r (cond b (controlled_row moment what r) r) b) [
      | false ↦ λ e. here
      | true ↦ λ e.
          (let permitted = some-of (after_control r.course.state what) (and_parts (is_meant t r) (permits what r) e).1 in
          subst (λ (o : Option JobState). Q r (option_map_or (λ (state : JobState). record r { course = controlled moment what state r.course }) o r) true) (sym permitted.1) (there permitted.0 permitted.1))
    ]) refl

length-moved : (entry : ℕ) (r next : Row) → is_state r.course.state next.course.state ≡ false → length (change_of entry r next) ≡ 1
length-moved entry r next is =
    let change : Change = record { entry = entry; job = r.job; home = r.home; from = r.course.state; to = next.course.state } in
    ap (λ b. length {A = Change} (cond b [] (change ∷ []))) is

-- ---- what is promised to a job

-- what is promised by its state alone, as long as its phase stays
record IsPromise (g : Course → ℕ) : Type 0 where
  alike : (c : Course) (s : JobState) → is_waiting s ≡ is_waiting c.state → is_started s ≡ is_started c.state → g (record c { state = s }) ≡ g c
  called : (c : Course) (n : Note) → g (called n c) ≡ g c
  waits : (c : Course) → is_waiting c.state ≡ true → g c ≡ 1
  over : (c : Course) (m : ℕ) (n : Note) → g (failed m n c) ≡ 0

room-promise : IsPromise room_of
room-promise = record {
  alike = λ c s waits starts. ap (λ b. cond {A = ℕ} b 1 (phase_room c.phase)) waits;
  called = λ c n. refl;
  waits = λ c waits. ap (λ b. cond {A = ℕ} b 1 (phase_room c.phase)) waits;
  over = λ c m n. refl;
}

owes-promise : IsPromise owes
owes-promise = record {
  alike = λ c s waits starts. ap (λ b. cond {A = ℕ} b 1 (cond (is_started s) 2 0)) waits ∙ ap (λ b. cond {A = ℕ} (is_waiting c.state) 1 (cond b 2 0)) starts;
  called = λ c n. refl;
  waits = λ c waits. ap (λ b. cond {A = ℕ} b 1 (cond (is_started c.state) 2 0)) waits;
  over = λ c m n. refl;
}

-- what one job adds
abbrev adds : (Course → ℕ) → ℕ → Row → Row → ℕ → Type 0
adds g entry r next n = g next.course + length (change_of entry r next) ≡ g r.course + n

module _ (g : Course → ℕ) (promise : IsPromise g) (entry moment : ℕ) where
  adds-state : (r : Row) (state : JobState) → SameKind r.course.state state → is_state r.course.state state ≡ false → adds g entry r (record r { course = record r.course { state = state } }) 1
  adds-state r state kind moved =
      let same = promise.alike r.course state kind.waits kind.kind in
      let one = length-moved entry r (record r { course = record r.course { state = state } }) moved in
      omega (arith, same, one)

  adds-none : (r next : Row) → next.course.state ≡ r.course.state → g next.course ≡ g r.course → adds g entry r next 0
  adds-none r next state same = (let none = length-same entry r next state in omega (arith, same, none))

  adds-terminated : (r : Row) (state : JobState) → after_control r.course.state Terminate ≡ Some state → adds g entry r (record r { course = terminated moment r.course }) 0
  adds-terminated r state permits =
      (elim (is_started r.course.state) as (λ s. is_started r.course.state ≡ s →
      adds g entry r (record r { course = cond s (cond (may_kill r.course.kill) (called note.Terminated r.course) r.course) (failed moment note.Terminated r.course) }) 0) [
        | true ↦ λ is. elim (may_kill r.course.kill) as (λ k. adds g entry r (record r { course = cond k (called note.Terminated r.course) r.course }) 0) [
          | true ↦ adds-none r (record r { course = called note.Terminated r.course }) refl (promise.called r.course note.Terminated)
          | false ↦ adds-none r r refl refl
        ]
        | false ↦ λ is.
            (let waits = ends-waiting r.course.state state permits is in
            let before = promise.waits r.course waits in
            let after = promise.over r.course moment note.Terminated in
            let one = length-moved entry r (record r { course = failed moment note.Terminated r.course }) (waits-not_failed r.course.state waits) in
            omega (arith, before, after, one))
      ]) refl

  adds-controlled : (what : Control) (r : Row) (state : JobState) → after_control r.course.state what ≡ Some state
      → adds g entry r (record r { course = controlled moment what state r.course }) (cond {A = ℕ} (is_growing what) 1 0)
  adds-controlled Suspend r state permits = adds-state r state (same-kind Suspend r.course.state state (λ e. cc) permits) (moves Suspend r.course.state state (λ e. cc) permits)
  adds-controlled Resume r state permits = adds-state r state (same-kind Resume r.course.state state (λ e. cc) permits) (moves Resume r.course.state state (λ e. cc) permits)
  adds-controlled Hold r state permits = adds-state r state (same-kind Hold r.course.state state (λ e. cc) permits) (moves Hold r.course.state state (λ e. cc) permits)
  adds-controlled Release r state permits = adds-state r state (same-kind Release r.course.state state (λ e. cc) permits) (moves Release r.course.state state (λ e. cc) permits)
  adds-controlled Terminate r state permits = adds-terminated r state permits

  adds-step : (t : Target) (what : Control) (r : Row) → adds g entry r (control_step moment t what r) (cond {A = ℕ} (is_controlled t what r) (cond (is_growing what) 1 0) 0)
  adds-step t what r = stays-or (λ (p q : Row) (b : Bool). adds g entry p q (cond {A = ℕ} b (cond (is_growing what) 1 0) 0)) moment t what r
      (adds-none r r refl refl) (λ state e. adds-controlled what r state e)

  -- what all jobs add
  all-add : (t : Target) (what : Control) (rows : List Row)
      → sum_by (λ (r : Row). g r.course) (map (control_step moment t what) rows) + length (flat_map (noted entry moment t what) rows) ≡ sum_by (λ (r : Row). g r.course) rows + growth what (acted t what rows)
  all-add t what [] = (elim (is_growing what) as (λ b. 0 + 0 ≡ 0 + cond {A = ℕ} b 0 0) [ true ↦ refl | false ↦ refl ])
  all-add t what (r ∷ rows) =
      let h : Row → ℕ = λ (x : Row). g x.course in
      let f = control_step moment t what in
      let more : growth what (acted t what (r ∷ rows)) ≡ cond {A = ℕ} (is_controlled t what r) (cond (is_growing what) 1 0) 0 + growth what (acted t what rows) =
      (elim (is_controlled t what r) as (λ b. cond {A = ℕ} (is_growing what) (length (cond b (r ∷ filter (is_controlled t what) rows) (filter (is_controlled t what) rows))) 0 ≡ cond {A = ℕ} b (cond (is_growing what) 1 0) 0 + cond (is_growing what) (acted t what rows) 0) [
        | false ↦ omega arith
        | true ↦ (elim (is_growing what) as (λ k. cond {A = ℕ} k (length (r ∷ filter (is_controlled t what) rows)) 0 ≡ cond {A = ℕ} k 1 0 + cond k (acted t what rows) 0) [ true ↦ omega arith | false ↦ omega arith ])
      ]) in
      omega (arith, adds-step t what r, all-add t what rows, more, sum_by-cons h r rows, sum_by-cons h (f r) (map f rows), length-append (noted entry moment t what r) (flat_map (noted entry moment t what) rows))

pub control-promised : (entry moment : ℕ) (t : Target) (what : Control) (rows : List Row)
    → promised (map (control_step moment t what) rows) + length (flat_map (noted entry moment t what) rows) ≡ promised rows + growth what (acted t what rows)
control-promised entry moment t what rows = all-add room_of room-promise entry moment t what rows

pub control-owed : (entry moment : ℕ) (t : Target) (what : Control) (rows : List Row)
    → owed (map (control_step moment t what) rows) + length (flat_map (noted entry moment t what) rows) ≡ owed rows + growth what (acted t what rows)
control-owed entry moment t what rows = all-add owes owes-promise entry moment t what rows

pub control-size : (t : Target) (what : Control) (entry : ℕ) (p : Plan) → weight ((control t what).effect entry p) ≡ weight p + growth what (acted t what p.rows)
control-size t what entry p = omega (arith, control-promised entry p.moment t what p.rows, length-append p.changes (flat_map (noted entry p.moment t what) p.rows))

-- ---- the orders

abbrev asks-at-most : Control → Row → Row → List Order → Bool → Type 0
asks-at-most what r next orders b = owes_kill next.course + length orders ≤ owes_kill r.course + cond {A = ℕ} b (cond (may_add_order what) 1 0) 0

asks-state : (r : Row) (state : JobState) → is_started state ≡ is_started r.course.state → owes_kill (record r.course { state = state }) ≡ owes_kill r.course
asks-state r state same = ap (λ b. cond {A = ℕ} (b && is_unasked r.course.kill) 1 0) same

asks-called : (s : Bool) → cond {A = ℕ} (s && false) 1 0 ≡ 0
asks-called true = refl
asks-called false = refl

asks-terminated : (moment : ℕ) (r : Row) → asks-at-most Terminate r (record r { course = terminated moment r.course }) (orders_for r.job (asked_for Terminate r.course)) true
asks-terminated moment r =
    (elim (is_started r.course.state) as (λ s. is_started r.course.state ≡ s →
    owes_kill (cond s (cond (may_kill r.course.kill) (called note.Terminated r.course) r.course) (failed moment note.Terminated r.course)) + length (orders_for r.job (cond (s && may_kill r.course.kill) (Some signal.Kill) None)) ≤ owes_kill r.course + 1) [
      | true ↦ λ is. elim (may_kill r.course.kill) as (λ k. owes_kill (cond k (called note.Terminated r.course) r.course) + length (orders_for r.job (cond k (Some signal.Kill) None)) ≤ owes_kill r.course + 1) [
        | true ↦ omega (arith, asks-called (is_started r.course.state))
        | false ↦ omega arith
      ]
      | false ↦ λ is. omega arith
    ]) refl

asks-controlled : (moment : ℕ) (what : Control) (r : Row) (state : JobState) → after_control r.course.state what ≡ Some state
    → asks-at-most what r (record r { course = controlled moment what state r.course }) (orders_for r.job (asked_for what r.course)) true
asks-controlled moment Suspend r state permits = (let same = asks-state r state (same-kind Suspend r.course.state state (λ e. cc) permits).kind in omega (arith, same))
asks-controlled moment Resume r state permits = (let same = asks-state r state (same-kind Resume r.course.state state (λ e. cc) permits).kind in omega (arith, same))
asks-controlled moment Hold r state permits = (let same = asks-state r state (same-kind Hold r.course.state state (λ e. cc) permits).kind in omega (arith, same))
asks-controlled moment Release r state permits = (let same = asks-state r state (same-kind Release r.course.state state (λ e. cc) permits).kind in omega (arith, same))
asks-controlled moment Terminate r state permits = asks-terminated moment r

asks-step : (moment : ℕ) (t : Target) (what : Control) (r : Row) → asks-at-most what r (control_step moment t what r) (asked_orders t what r) (is_controlled t what r)
asks-step moment t what r = stays-or (λ (p q : Row) (b : Bool). asks-at-most what p q (cond b (orders_for p.job (asked_for what p.course)) []) b) moment t what r
    (omega arith) (λ state e. asks-controlled moment what r state e)

pub control-owed_kills : (moment : ℕ) (t : Target) (what : Control) (rows : List Row)
    → owed_kills (map (control_step moment t what) rows) + length (flat_map (asked_orders t what) rows) ≤ owed_kills rows + most_orders what (acted t what rows)
control-owed_kills moment t what [] = (elim (may_add_order what) as (λ b. 0 + 0 ≤ 0 + cond {A = ℕ} b 0 0) [ true ↦ omega arith | false ↦ omega arith ])
control-owed_kills moment t what (r ∷ rows) =
    let h : Row → ℕ = λ (x : Row). owes_kill x.course in
    let f = control_step moment t what in
    let more : most_orders what (acted t what (r ∷ rows)) ≡ cond {A = ℕ} (is_controlled t what r) (cond (may_add_order what) 1 0) 0 + most_orders what (acted t what rows) =
    (elim (is_controlled t what r) as (λ b. cond {A = ℕ} (may_add_order what) (length (cond b (r ∷ filter (is_controlled t what) rows) (filter (is_controlled t what) rows))) 0 ≡ cond {A = ℕ} b (cond (may_add_order what) 1 0) 0 + cond (may_add_order what) (acted t what rows) 0) [
      | false ↦ omega arith
      | true ↦ (elim (may_add_order what) as (λ k. cond {A = ℕ} k (length (r ∷ filter (is_controlled t what) rows)) 0 ≡ cond {A = ℕ} k 1 0 + cond k (acted t what rows) 0) [ true ↦ omega arith | false ↦ omega arith ])
    ]) in
    omega (arith, asks-step moment t what r, control-owed_kills moment t what rows, more, sum_by-cons h r rows, sum_by-cons h (f r) (map f rows), length-append (asked_orders t what r) (flat_map (asked_orders t what) rows))

-- ---- how many there are

busy-room : (p : Phase) → p ≢ Idle → 1 ≤ phase_room p
busy-room Idle busy = absurd (busy refl)
busy-room Launching busy = omega arith
busy-room Alive busy = omega arith

acts-room : (t : Target) (what : Control) (r : Row) → IsSound r.wants r.course → cond {A = ℕ} (is_controlled t what r) 1 0 ≤ room_of r.course
acts-room t what r sound =
    (elim (is_controlled t what r) as (λ b. is_controlled t what r ≡ b → cond {A = ℕ} b 1 0 ≤ room_of r.course) [
      | false ↦ λ e. omega arith
      | true ↦ λ e.
          (let permitted = some-of (after_control r.course.state what) (and_parts (is_meant t r) (permits what r) e).1 in
          (elim (is_waiting r.course.state) as (λ w. is_waiting r.course.state ≡ w → 1 ≤ cond {A = ℕ} w 1 (phase_room r.course.phase)) [
            | true ↦ λ waits. omega arith
            | false ↦ λ idle.
                ((elim (is_started r.course.state) as (λ s. is_started r.course.state ≡ s → 1 ≤ phase_room r.course.phase) [
                  | true ↦ λ starts. busy-room r.course.phase (sound.started starts).0
                  | false ↦ λ stopped. absurd (lives what r.course.state permitted.0 permitted.1 idle stopped)
                ]) refl)
          ]) refl)
    ]) refl

pub acted-promised : (t : Target) (what : Control) (rows : List Row) → AllByRecursion (λ (r : Row). IsSound r.wants r.course) rows → acted t what rows ≤ promised rows
acted-promised t what [] all = omega arith
acted-promised t what (r ∷ rows) all =
    let more : acted t what (r ∷ rows) ≡ cond {A = ℕ} (is_controlled t what r) 1 0 + acted t what rows =
    (elim (is_controlled t what r) as (λ b. length (cond b (r ∷ filter (is_controlled t what) rows) (filter (is_controlled t what) rows)) ≡ cond {A = ℕ} b 1 0 + acted t what rows) [ true ↦ omega arith | false ↦ omega arith ]) in
    omega (arith, acts-room t what r all.0, acted-promised t what rows all.1, more, sum_by-cons (λ (x : Row). room_of x.course) r rows)

pub filter-map : {X Y : Type 0} (test : Y → Bool) (f : X → Y) (xs : List X) → length (filter test (map f xs)) ≡ length (filter (λ x. test (f x)) xs)
filter-map test f [] = refl
filter-map test f (x ∷ xs) =
    elim (test (f x)) as (λ b. length (cond b (f x ∷ filter test (map f xs)) (filter test (map f xs))) ≡ length (cond b (x ∷ filter (λ y. test (f y)) xs) (filter (λ y. test (f y)) xs))) [
      | true ↦ omega (arith, filter-map test f xs)
      | false ↦ filter-map test f xs
    ]

-- ---- the calendar

pub tied-controlled : (s : Schedule) (t : Target) (what : Control) (entry : ℕ) (p : Plan) → IsFit p → IsTied s p → IsTied s ((control t what).effect entry p)
tied-controlled s t what entry p fit tied =
    tied-eased s p ((control t what).effect entry p) (control_step p.moment t what) refl refl refl
    (all-implied (λ (r : Row). IsSound r.wants r.course) (λ (r : Row). Eases r (control_step p.moment t what r)) (eases-control p.moment t what) p.rows fit.sound) tied
