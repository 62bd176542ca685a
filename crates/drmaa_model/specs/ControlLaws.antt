-- Control and reaping keep a plan fit.
use Rattle.std.proofs.Common.{◌≡◌, ℕ, ◌<◌, ◌≤◌, Bool, true, false, cond, not, ◌&&◌, List, [], ◌∷◌, ◌++◌, map, filter, length, sum_by, Option, Some, None, refl, sym, ◌∙◌, ap, arith, length-append}
use Rattle.std.specs.Prelude.{IfSome, is_some}
use Rattle.std.specs.List.{AllByRecursion, flat_map}
use Rattle.std.specs.Option.{option_map, option_map_or}
use Rattle.std.proofs.lemmas.Bool.{and_parts, false≢true, not-false}
use Rattle.std.proofs.lemmas.List.Sums.{sum_by-cons}
use Rattle.drmaa_types.specs.Queues.{queue_at}
use Rattle.drmaa_types.specs.States.{is_started, has_terminated, after_control}
use Rattle.drmaa_types.specs.declared.identifiers.ArrayId.{ArrayId}
use Rattle.drmaa_types.specs.declared.identifiers.JobId.{JobId}
use Rattle.drmaa_types.specs.declared.identifiers.ReservationId.{ReservationId}
use Rattle.drmaa_types.specs.declared.states.Control.{Control}
use Rattle.drmaa_types.specs.declared.states.Control.TheVariants.{Suspend, Resume, Hold, Release, Terminate}
use Rattle.drmaa_types.specs.declared.states.JobState.{JobState}
use Rattle.drmaa_types.specs.declared.states.JobState.TheVariants.{Running, Suspended, Done, Failed}
use Rattle.drmaa_types.specs.declared.states.Note.TheVariants as note
use Rattle.drmaa_types.specs.declared.states.SignalKind.{SignalKind}
use Rattle.drmaa_types.specs.declared.states.SignalKind.TheVariants as signal
use Rattle.drmaa_model.specs.declared.calls.Target.{Target}
use Rattle.drmaa_model.specs.declared.courses.Course.{Course}
use Rattle.drmaa_model.specs.declared.courses.Order.{Order}
use Rattle.drmaa_model.specs.declared.reservations.Accepted.{Accepted}
use Rattle.drmaa_model.specs.declared.rows.Row.{Row}
use Rattle.drmaa_model.specs.Controlling.{permits, is_controlled, controlled_row, control_step, orders_for, asked_orders, control, is_done, reap}
use Rattle.drmaa_model.specs.Courses.{failed, called, may_kill, terminated, controlled, asked_for}
use Rattle.drmaa_model.specs.Fit.{number_of, IsSound, IsFor, IsFit, IsBound, IsAlike, launched_at}
use Rattle.drmaa_model.specs.FitLaws.{queue-under, Eases, eases-same, eases-failed, eases-asked, eased, SameKind, same-kind, ends-waiting, orders-lasting, all-append, bound-under}
use Rattle.drmaa_model.specs.Launching.{is_alive}
use Rattle.drmaa_model.specs.Load.{in_queue, held_in_queue, uses_at, is_using, held_inside, in_reservation, holds_in}
use Rattle.drmaa_model.specs.OperationLaws.{KeepsFit}
use Rattle.drmaa_model.specs.NextLaunchLaws.{rising-filter}
use Rattle.drmaa_model.specs.Plan.{Plan}
use Rattle.drmaa_model.specs.RowLaws.{all-filter, all-implied, all-both, rising-found, row_of-map}
use Rattle.drmaa_model.specs.Rows.{is_of, row_of, change_of, change_rows}
use Rattle.drmaa_model.specs.Targets.{is_meant}

-- a job is controlled, in a state that permits it, or it stays
pub control-cases : (Q : Row → Row → Type 0) (moment : ℕ) (t : Target) (what : Control) (r : Row) → Q r r
    → ((state : JobState) → after_control r.course.state what ≡ Some state → Q r (record r { course = controlled moment what state r.course }))
    → Q r (control_step moment t what r)
control-cases Q moment t what r here there =
    elim (is_controlled t what r) as (λ b. Q r (cond b (controlled_row moment what r) r)) [
      | false ↦ here
      | true ↦
          (elim (after_control r.course.state what) as (λ o. after_control r.course.state what ≡ o →
          Q r (option_map_or (λ (state : JobState). record r { course = controlled moment what state r.course }) o r)) [
            | None ↦ λ e. here
            | Some state ↦ λ e. there state e
          ]) refl
    ]

pub control-job : (moment : ℕ) (t : Target) (what : Control) (r : Row) → (control_step moment t what r).job ≡ r.job
control-job moment t what r = control-cases (λ (p q : Row). q.job ≡ p.job) moment t what r refl (λ state e. refl)

pub control-wants : (moment : ℕ) (t : Target) (what : Control) (r : Row) → (control_step moment t what r).wants ≡ r.wants
control-wants moment t what r = control-cases (λ (p q : Row). q.wants ≡ p.wants) moment t what r refl (λ state e. refl)

-- ---- how a job eases

-- a job goes over to a state of the same kind
eases-state : (r : Row) (state : JobState) → SameKind r.course.state state → IsSound r.wants r.course → Eases r (record r { course = record r.course { state = state } })
eases-state r state kind sound =
    let using : is_using (record r { course = record r.course { state = state } }) ≡ is_using r = (let k = kind.kind in cc) in
    record {
      job = refl;
      wants = refl;
      held = refl;
      attempt = refl;
      dispatched = refl;
      uses = λ x. (let k = kind.kind in cc);
      using = using;
      planned = λ u. refl;
      sound = record {
        least = sound.least;
        range = sound.range;
        known = kind.known;
        idle = λ e. sound.idle (sym kind.kind ∙ e);
        started = λ e. sound.started (sym kind.kind ∙ e);
        planned = λ e. sound.planned (sym kind.kind ∙ e);
        unplanned = λ e. sound.unplanned (sym kind.kind ∙ e);
        spared = λ e. sound.spared (sym kind.waits ∙ e);
        limit = sound.limit;
      };
      lasts = record { started = λ e. kind.kind ∙ e; alive = λ e. e };
    }

-- a job is terminated
eases-terminated : (moment : ℕ) (r : Row) (state : JobState) → after_control r.course.state Terminate ≡ Some state → IsSound r.wants r.course → Eases r (record r { course = terminated moment r.course })
eases-terminated moment r state permits sound =
    (elim (is_started r.course.state) as (λ s. is_started r.course.state ≡ s →
    Eases r (record r { course = cond s (cond (may_kill r.course.kill) (called note.Terminated r.course) r.course) (failed moment note.Terminated r.course) })) [
      | false ↦ λ is. eases-failed moment note.Terminated r (ends-waiting r.course.state state permits is) sound
      | true ↦ λ is. elim (may_kill r.course.kill) as (λ k. Eases r (record r { course = cond k (called note.Terminated r.course) r.course })) [
        | true ↦ eases-asked note.Terminated r is sound
        | false ↦ eases-same r sound
      ]
    ]) refl

eases-controlled : (moment : ℕ) (what : Control) (r : Row) (state : JobState) → after_control r.course.state what ≡ Some state → IsSound r.wants r.course → Eases r (record r { course = controlled moment what state r.course })
eases-controlled moment Suspend r state permits sound = eases-state r state (same-kind Suspend r.course.state state (λ e. cc) permits) sound
eases-controlled moment Resume r state permits sound = eases-state r state (same-kind Resume r.course.state state (λ e. cc) permits) sound
eases-controlled moment Hold r state permits sound = eases-state r state (same-kind Hold r.course.state state (λ e. cc) permits) sound
eases-controlled moment Release r state permits sound = eases-state r state (same-kind Release r.course.state state (λ e. cc) permits) sound
eases-controlled moment Terminate r state permits sound = eases-terminated moment r state permits sound

pub eases-control : (moment : ℕ) (t : Target) (what : Control) (r : Row) → IsSound r.wants r.course → Eases r (control_step moment t what r)
eases-control moment t what r sound =
    control-cases (λ (p q : Row). IsSound p.wants p.course → Eases p q) moment t what r (λ s. eases-same r s) (λ state e s. eases-controlled moment what r state e s) sound

-- ---- the orders that are asked for

suspend-started : (s t : JobState) → after_control s Suspend ≡ Some t → is_started s ≡ true
suspend-started Running t e = refl
suspend-started _ t e = absurd (cc)

resume-started : (s t : JobState) → after_control s Resume ≡ Some t → is_started s ≡ true
resume-started Suspended t e = refl
resume-started _ t e = absurd (cc)

-- a signal is asked for where the job is started
asks-started : (what : Control) (course : Course) (state : JobState) (kind : SignalKind) → after_control course.state what ≡ Some state → asked_for what course ≡ Some kind → is_started course.state ≡ true
asks-started Suspend course state kind permits asks = suspend-started course.state state permits
asks-started Resume course state kind permits asks = resume-started course.state state permits
asks-started Hold course state kind permits asks = absurd (cc)
asks-started Release course state kind permits asks = absurd (cc)
asks-started Terminate course state kind permits asks =
    (elim (is_started course.state) as (λ s. cond (s && may_kill course.kill) (Some signal.Kill) None ≡ Some kind → s ≡ true) [
      | true ↦ λ e. refl
      | false ↦ λ e. absurd (cc)
    ]) asks

some-of : (o : Option JobState) → is_some o ≡ true → (state : JobState) × (o ≡ Some state)
some-of None is = absurd (cc)
some-of (Some state) is = (state, refl)

pub all-flat_map : {X Y : Type 0} (P : Y → Type 0) (f : X → List Y) (xs : List X) → AllByRecursion (λ x. AllByRecursion P (f x)) xs → AllByRecursion P (flat_map f xs)
all-flat_map P f [] all = tt
all-flat_map P f (x ∷ xs) all = all-append P (f x) (flat_map f xs) all.0 (all-flat_map P f xs all.1)

-- a new order is for a job that is started once the call is made
new-order : (f : Row → Row) → ((r : Row) → (f r).job ≡ r.job) → (rows : List Row) (r : Row) (kind : SignalKind) → row_of r.job rows ≡ Some r → is_started (f r).course.state ≡ true
    → IsFor (map f rows) (record { job = r.job; kind = kind; taken = false })
new-order f same rows r kind found starts =
    let there : row_of r.job (map f rows) ≡ Some (f r) = row_of-map f same r.job rows ∙ ap (option_map f) found in
    record {
      started = ap (λ (o : Option Row). option_map_or (λ (row : Row). is_started row.course.state) o false) there ∙ starts;
      alive = λ taken. absurd (cc);
    }

asked-for-rows : (moment : ℕ) (t : Target) (what : Control) (rows : List Row) (r : Row) → (row_of r.job rows ≡ Some r) × IsSound r.wants r.course
    → AllByRecursion (IsFor (map (control_step moment t what) rows)) (asked_orders t what r)
asked-for-rows moment t what rows r both =
    let f = control_step moment t what in
    (elim (is_controlled t what r) as (λ b. is_controlled t what r ≡ b → AllByRecursion (IsFor (map f rows)) (cond b (orders_for r.job (asked_for what r.course)) [])) [
      | false ↦ λ e. tt
      | true ↦ λ e.
          (let permitted = some-of (after_control r.course.state what) (and_parts (is_meant t r) (permits what r) e).1 in
          (elim (asked_for what r.course) as (λ o. asked_for what r.course ≡ o → AllByRecursion (IsFor (map f rows)) (orders_for r.job o)) [
            | None ↦ λ asks. tt
            | Some kind ↦ λ asks.
                (let starts = asks-started what r.course permitted.0 kind permitted.1 asks in
                (new-order f (control-job moment t what) rows r kind both.0 ((eases-control moment t what r both.1).lasts.started starts), tt))
          ]) refl)
    ]) refl

pub control-fit : (t : Target) (what : Control) (entry : ℕ) (p : Plan) → IsFit p → IsFit ((control t what).effect entry p)
control-fit t what entry p fit =
    let f = control_step p.moment t what in
    let same = control-job p.moment t what in
    let all : AllByRecursion (λ r. Eases r (f r)) p.rows = all-implied (λ (r : Row). IsSound r.wants r.course) (λ r. Eases r (f r)) (eases-control p.moment t what) p.rows fit.sound in
    let changes = (change_rows entry f p).changes in
    let more : length p.changes ≤ length changes = omega (arith, length-append p.changes (flat_map (λ row. change_of entry row (f row)) p.rows)) in
    let asked : AllByRecursion (IsFor (map f p.rows)) (flat_map (asked_orders t what) p.rows) =
    all-flat_map (IsFor (map f p.rows)) (asked_orders t what) p.rows
    (all-implied (λ (r : Row). (row_of r.job p.rows ≡ Some r) × IsSound r.wants r.course) (λ r. AllByRecursion (IsFor (map f p.rows)) (asked_orders t what r)) (asked-for-rows p.moment t what p.rows) p.rows
    (all-both (λ (r : Row). row_of r.job p.rows ≡ Some r) (λ (r : Row). IsSound r.wants r.course) p.rows (rising-found p.rows fit.jobs.rising) fit.sound)) in
    eased f same (control-wants p.moment t what) p fit all changes more (p.orders ++ flat_map (asked_orders t what) p.rows)
    (all-append (IsFor (map f p.rows)) p.orders (flat_map (asked_orders t what) p.rows) (orders-lasting f same p.rows all p.orders fit.asked) asked)

pub control-keeps : (t : Target) (what : Control) → KeepsFit (control t what)
control-keeps t what = record { keeps = λ entry p fit free. control-fit t what entry p fit }

-- ---- reaping

-- a sum over fewer rows is no more
sum-fewer : (g : Row → ℕ) (test : Row → Bool) (rows : List Row) → sum_by g (filter test rows) ≤ sum_by g rows
sum-fewer g test [] = omega arith
sum-fewer g test (r ∷ rows) =
    elim (test r) as (λ b. sum_by g (cond b (r ∷ filter test rows) (filter test rows)) ≤ sum_by g (r ∷ rows)) [
      | true ↦ omega (arith, sum-fewer g test rows, sum_by-cons g r rows, sum_by-cons g r (filter test rows))
      | false ↦ omega (arith, sum-fewer g test rows, sum_by-cons g r rows)
    ]

-- a row that stays is found where it was
found-fewer : (test : Row → Bool) (job : JobId) (rows : List Row) (r : Row) → row_of job rows ≡ Some r → test r ≡ true → row_of job (filter test rows) ≡ Some r
found-fewer test job [] r found stays = absurd (cc)
found-fewer test job (x ∷ rows) r found stays =
    (elim (is_of job x) as (λ b. is_of job x ≡ b → cond b (Some x) (row_of job rows) ≡ Some r → row_of job (cond (test x) (x ∷ filter test rows) (filter test rows)) ≡ Some r) [
      | true ↦ λ is e.
          (let same : x ≡ r = cc in
          let stays' : test x ≡ true = ap test same ∙ stays in
          ap (λ b. row_of job (cond b (x ∷ filter test rows) (filter test rows))) stays' ∙ ap (λ b. cond b (Some x) (row_of job (filter test rows))) is ∙ e)
      | false ↦ λ is e.
          (let rest = found-fewer test job rows r e stays in
          elim (test x) as (λ b. row_of job (cond b (x ∷ filter test rows) (filter test rows)) ≡ Some r) [
            | true ↦ ap (λ b. cond b (Some x) (row_of job (filter test rows))) is ∙ rest
            | false ↦ rest
          ])
    ]) refl found

found-started : (rows : List Row) (job : JobId) → option_map_or (λ (row : Row). is_started row.course.state) (row_of job rows) false ≡ true
    → (r : Row) × (row_of job rows ≡ Some r) × (is_started r.course.state ≡ true)
found-started rows job is =
    (elim (row_of job rows) as (λ o. row_of job rows ≡ o → option_map_or (λ (row : Row). is_started row.course.state) o false ≡ true → (r : Row) × (row_of job rows ≡ Some r) × (is_started r.course.state ≡ true)) [
      | None ↦ λ e h. absurd (cc)
      | Some r ↦ λ e h. (r, e, h)
    ]) refl is

-- a started row is kept
keeps-started : (test : Row → Bool) → ((r : Row) → test r ≡ false → is_started r.course.state ≡ false) → (r : Row) → is_started r.course.state ≡ true → test r ≡ true
keeps-started test stops r is =
    (elim (test r) as (λ b. test r ≡ b → b ≡ true) [
      | true ↦ λ e. refl
      | false ↦ λ e. absurd (false≢true (sym (stops r e) ∙ is))
    ]) refl

for-fewer : (test : Row → Bool) → ((r : Row) → test r ≡ false → is_started r.course.state ≡ false) → (rows : List Row) (order : Order) → IsFor rows order → IsFor (filter test rows) order
for-fewer test stops rows order is =
    let found = found-started rows order.job is.started in
    let there : row_of order.job (filter test rows) ≡ row_of order.job rows = found-fewer test order.job rows found.0 found.1 (keeps-started test stops found.0 found.2) ∙ sym found.1 in
    record {
      started = ap (λ (o : Option Row). option_map_or (λ (row : Row). is_started row.course.state) o false) there ∙ is.started;
      alive = λ taken. ap (λ (o : Option Row). option_map_or (λ (row : Row). is_alive row.course.phase) o false) there ∙ is.alive taken;
    }

-- without rows that are not started a plan is fit
pub fewer-rows-fit : (test : Row → Bool) → ((r : Row) → test r ≡ false → is_started r.course.state ≡ false) → (p : Plan) → IsFit p → IsFit (record p { rows = filter test p.rows })
fewer-rows-fit test stops p fit = record {
  within = (let less = sum-fewer (λ (r : Row). r.course.held) test p.rows in let within = fit.within in omega arith);
  sound = all-filter (λ (r : Row). IsSound r.wants r.course) test p.rows fit.sound;
  jobs = record { rising = rising-filter number_of test p.rows fit.jobs.rising; below = all-filter (λ (r : Row). number_of r < p.next_job) test p.rows fit.jobs.below };
  reserved = all-filter (λ (r : Row). IfSome r.wants.reservation (λ (n : ReservationId). n.0 < p.next_reservation)) test p.rows fit.reserved;
  arrays = all-filter (λ (r : Row). IfSome r.wants.array (λ (a : ArrayId). a.0 < p.next_array)) test p.rows fit.arrays;
  attempts = all-filter (λ (r : Row). r.course.attempt ≤ length p.changes) test p.rows fit.attempts;
  asked = all-implied (IsFor p.rows) (IsFor (filter test p.rows)) (for-fewer test stops p.rows) p.orders fit.asked;
  loads = λ x low high. (let l = fit.loads x low high in let u = sum-fewer (uses_at x) test p.rows in omega arith);
  books = fit.books;
  inside = all-implied (λ (a : Accepted). in_reservation a.reservation p.rows ≤ a.slots) (λ (a : Accepted). in_reservation a.reservation (filter test p.rows) ≤ a.slots)
      (λ a h. (let u = sum-fewer (held_inside a.reservation) test p.rows in omega arith)) p.reservations fit.inside;
  queued = λ place. queue-under (queue_at place p.queues) (in_queue place p.rows) (in_queue place (filter test p.rows)) (sum-fewer (held_in_queue place) test p.rows) (fit.queued place);
  bounds = all-filter (IsBound (filter test p.rows)) test p.rows
      (all-implied (IsBound p.rows) (IsBound (filter test p.rows)) (λ r h. bound-under r.wants p.rows (filter test p.rows) (λ array. sum-fewer (holds_in array) test p.rows) h) p.rows fit.bounds);
  alike = all-filter (λ (r : Row). AllByRecursion (IsAlike r) (filter test p.rows)) test p.rows
      (all-implied (λ (r : Row). AllByRecursion (IsAlike r) p.rows) (λ (r : Row). AllByRecursion (IsAlike r) (filter test p.rows)) (λ r all. all-filter (IsAlike r) test p.rows all) p.rows fit.alike);
  accepted = fit.accepted;
  dispatched = all-filter (λ (r : Row). launched_at r.course ≤ p.moment) test p.rows fit.dispatched;
}

done-stopped : (s : JobState) → has_terminated s ≡ true → is_started s ≡ false
done-stopped Done h = refl
done-stopped Failed h = refl
done-stopped _ h = absurd (cc)

-- what is forgotten has ended
pub forgotten-stopped : (meant : Row → Bool) (r : Row) → not (meant r && is_done r) ≡ false → is_started r.course.state ≡ false
forgotten-stopped meant r h = done-stopped r.course.state (and_parts (meant r) (is_done r) (not-false (meant r && is_done r) h)).1

pub reap-fit : (t : Target) (entry : ℕ) (p : Plan) → IsFit p → IsFit ((reap t).effect entry p)
reap-fit t entry p fit = fewer-rows-fit (λ (row : Row). not (is_meant t row && is_done row)) (forgotten-stopped (is_meant t)) p fit

pub reap-keeps : (t : Target) → KeepsFit (reap t)
reap-keeps t = record { keeps = λ entry p fit free. reap-fit t entry p fit }
