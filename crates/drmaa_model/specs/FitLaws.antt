-- What keeps a plan fit: time, and each operation that is not refused.
use Rattle.drmaa_model.specs.SumLaws.{sum-filter, sum-same}
use Rattle.drmaa_types.specs.Moments.{greatest}
use Rattle.drmaa_types.specs.Queues.{queue_at}
use Rattle.drmaa_types.specs.declared.queues.QueueSpec.{QueueSpec}
use Rattle.drmaa_types.specs.declared.changes.Change.{Change}
use Rattle.drmaa_types.specs.declared.identifiers.ArrayId.{ArrayId}
use Rattle.drmaa_model.specs.Load.{uses_at, used, in_reservation, held_inside, in_queue, held_in_queue, in_array, holds_in, ends_after, is_ordinary, slots_at, booked, load, is_using}
use Rattle.std.proofs.Common.{◌≡◌, ◌≢◌, ℕ, ◌+◌, ◌<◌, ◌≤◌, Bool, true, false, cond, eqb, not, ◌&&◌, List, [], ◌∷◌, ◌++◌, map, filter, length, max, sum_by, Option, Some, None, refl, sym, ◌∙◌, ap, subst, arith, length-append, leb, ltb}
use Rattle.std.specs.Prelude.{IfSome}
use Rattle.std.specs.List.{AllByRecursion, flat_map}
use Rattle.std.specs.Option.{option_map, option_map_or}
use Rattle.std.proofs.lemmas.Bool.{and_parts, false≢true, eqb-true, eq-eqb, not-true, ltb-false, le-ltb}
use Rattle.std.proofs.lemmas.List.Sums.{sum_by-cons}
use Rattle.drmaa_types.specs.States.{is_waiting, is_started, may, after_control}
use Rattle.drmaa_types.specs.declared.identifiers.JobId.{JobId}
use Rattle.drmaa_types.specs.declared.identifiers.ReservationId.{ReservationId}
use Rattle.drmaa_types.specs.declared.states.Control.{Control}
use Rattle.drmaa_types.specs.declared.states.Control.TheVariants.{Suspend, Resume, Hold, Release, Terminate}
use Rattle.drmaa_types.specs.declared.states.JobState.{JobState}
use Rattle.drmaa_types.specs.declared.states.JobState.TheVariants.{Undetermined, Queued, QueuedHeld, Running, Suspended, Requeued, RequeuedHeld}
use Rattle.drmaa_types.specs.declared.states.Note.{Note}
use Rattle.drmaa_types.specs.declared.states.SignalKind.{SignalKind}
use Rattle.drmaa_model.specs.declared.courses.Course.{Course}
use Rattle.drmaa_model.specs.declared.courses.Order.{Order}
use Rattle.drmaa_model.specs.declared.courses.Phase.{Phase}
use Rattle.drmaa_model.specs.declared.courses.Phase.TheVariants.{Idle}
use Rattle.drmaa_model.specs.declared.reservations.Accepted.{Accepted}
use Rattle.drmaa_model.specs.declared.rows.Row.{Row}
use Rattle.drmaa_model.specs.declared.rows.Wants.{Wants}
use Rattle.drmaa_model.specs.Courses.{failed, called}
use Rattle.drmaa_model.specs.Fit.{IsRising, number_of, IsSound, IsFor, IsFit, IsBound, IsAlike, reservation_number, launched_at}
use Rattle.drmaa_model.specs.Launching.{is_alive}
use Rattle.drmaa_model.specs.Reporting.{orders_without}
use Rattle.drmaa_model.specs.NextLaunch.{held}
use Rattle.drmaa_model.specs.Plan.{Plan}
use Rattle.drmaa_model.specs.Rows.{is_of, row_of, change_of, with_course, go_on}
use Rattle.drmaa_model.specs.RowLaws.{all-implied, all-map, all-filter, all-passes, all-both, numbered-map, row_of-is, row_of-all, row_of-map, with_course-number, sum_with_course, all_with_course, rising-found}
use Rattle.drmaa_model.specs.Time.{come_to, let_go, lapsed, expire, is_due, called_in, kill_order, call_in, advance_plan, lasts}
use Rattle.drmaa_model.specs.TimeLaws.{lapsed-cases, called-cases, lapsed-job, called-job, waits-not_started, lapsed-wants, called-wants}

-- ---- orders over rows that go on

abbrev pub started_in : List Row → JobId → Bool
started_in rows job = option_map_or (λ (row : Row). is_started row.course.state) (row_of job rows) false

abbrev pub alive_in : List Row → JobId → Bool
alive_in rows job = option_map_or (λ (row : Row). is_alive row.course.phase) (row_of job rows) false

-- a row stays started and alive where it was
pub record Lasts (before after : Row) : Type 0 where
  pub started : is_started before.course.state ≡ true → is_started after.course.state ≡ true
  pub alive : is_alive before.course.phase ≡ true → is_alive after.course.phase ≡ true

lasting-found : (f : Row → Row) (test : Row → Bool) (o : Option Row) (P : Row → Type 0) → ((r : Row) → P r → test r ≡ true → test (f r) ≡ true)
    → ((r : Row) → o ≡ Some r → P r) → option_map_or test o false ≡ true → option_map_or test (option_map f o) false ≡ true
lasting-found f test None P keeps holds is = is
lasting-found f test (Some r) P keeps holds is = keeps r (holds r refl) is

-- orders stand where all rows last that they are for
pub for-lasting : (f : Row → Row) → ((r : Row) → (f r).job ≡ r.job) → (rows : List Row) (order : Order)
    → ((r : Row) → row_of order.job rows ≡ Some r → Lasts r (f r)) → IsFor rows order → IsFor (map f rows) order
for-lasting f same rows order lasts is = record {
  started = ap (λ (o : Option Row). option_map_or (λ (row : Row). is_started row.course.state) o false) (row_of-map f same order.job rows)
      ∙ lasting-found f (λ (row : Row). is_started row.course.state) (row_of order.job rows) (λ r. Lasts r (f r)) (λ r l. l.started) lasts is.started;
  alive = λ taken. ap (λ (o : Option Row). option_map_or (λ (row : Row). is_alive row.course.phase) o false) (row_of-map f same order.job rows)
      ∙ lasting-found f (λ (row : Row). is_alive row.course.phase) (row_of order.job rows) (λ r. Lasts r (f r)) (λ r l. l.alive) lasts (is.alive taken);
}

-- ---- rows that go on, all at once

-- what a rule of time asks of each row: it wants the same, holds no more, stays sound, and lasts
pub record Eases (before after : Row) : Type 0 where
  pub job : after.job ≡ before.job
  pub wants : after.wants ≡ before.wants
  pub held : after.course.held ≡ before.course.held
  pub attempt : after.course.attempt ≡ before.course.attempt
  pub dispatched : after.course.dispatched ≡ before.course.dispatched
  pub uses : (x : ℕ) → uses_at x after ≡ uses_at x before
  pub using : is_using after ≡ is_using before
  pub planned : is_using before ≡ true → after.course.planned ≡ before.course.planned
  pub sound : IsSound after.wants after.course
  pub lasts : Lasts before after

-- a bound of an array in which no more members hold slots
pub bound-under : (w : Wants) (rows after : List Row) → ((array : ArrayId) → in_array array after ≤ in_array array rows)
    → IfSome w.bound (λ (bound : ℕ). IfSome w.array (λ (array : ArrayId). in_array array rows ≤ bound))
    → IfSome w.bound (λ (bound : ℕ). IfSome w.array (λ (array : ArrayId). in_array array after ≤ bound))
bound-under w rows after under =
    (elim w.bound as (λ b. IfSome b (λ (bound : ℕ). IfSome w.array (λ (array : ArrayId). in_array array rows ≤ bound)) → IfSome b (λ (bound : ℕ). IfSome w.array (λ (array : ArrayId). in_array array after ≤ bound))) [
      | None ↦ λ h. h
      | Some bound ↦
          (elim w.array as (λ o. IfSome o (λ (array : ArrayId). in_array array rows ≤ bound) → IfSome o (λ (array : ArrayId). in_array array after ≤ bound)) [
            | None ↦ λ h. h
            | Some array ↦ λ h. (let less = under array in omega arith)
          ])
    ])

-- a queue of which no more is held
pub queue-under : (o : Option QueueSpec) (n m : ℕ) → m ≤ n → IfSome o (λ (queue : QueueSpec). n ≤ queue.limit) → IfSome o (λ (queue : QueueSpec). m ≤ queue.limit)
queue-under None n m less h = tt
queue-under (Some queue) n m less h = omega arith

module _ (f : Row → Row) (same : (r : Row) → (f r).job ≡ r.job) (rows : List Row) (eases : AllByRecursion (λ r. Eases r (f r)) rows) where
  pub held-eased : (xs : List Row) → AllByRecursion (λ r. Eases r (f r)) xs → held (map f xs) ≡ held xs
  held-eased [] all = refl
  held-eased (x ∷ xs) all = (let here = all.0.held in let rest = held-eased xs all.1 in
      omega (arith, here, rest, sum_by-cons (λ (r : Row). r.course.held) x xs, sum_by-cons (λ (r : Row). r.course.held) (f x) (map f xs)))

  all-eased : (P Q : Row → Type 0) → ((r : Row) → Eases r (f r) → P r → Q (f r)) → (xs : List Row) → AllByRecursion (λ r. Eases r (f r)) xs → AllByRecursion P xs → AllByRecursion Q (map f xs)
  all-eased P Q keeps [] all holds = tt
  all-eased P Q keeps (x ∷ xs) all holds = (keeps x all.0 holds.0, all-eased P Q keeps xs all.1 holds.1)

  sum-eased : (g : Row → ℕ) → ((r : Row) → Eases r (f r) → g (f r) ≡ g r) → (xs : List Row) → AllByRecursion (λ r. Eases r (f r)) xs → sum_by g (map f xs) ≡ sum_by g xs
  sum-eased g each [] all = refl
  sum-eased g each (x ∷ xs) all = omega (arith, each x all.0, sum-eased g each xs all.1, sum_by-cons g x xs, sum_by-cons g (f x) (map f xs))

  pub used-eased : (x : ℕ) → used (map f rows) x ≡ used rows x
  used-eased x = sum-eased (uses_at x) (λ r e. e.uses x) rows eases

  pub inside-eased : (number : ReservationId) → in_reservation number (map f rows) ≡ in_reservation number rows
  inside-eased number = sum-eased (held_inside number) (λ r e. (let w = e.wants in let h = e.held in cc)) rows eases

  pub queue-eased : (place : ℕ) → in_queue place (map f rows) ≡ in_queue place rows
  queue-eased place = sum-eased (held_in_queue place) (λ r e. (let w = e.wants in let h = e.held in cc)) rows eases

  pub array-eased : (array : ArrayId) → in_array array (map f rows) ≡ in_array array rows
  array-eased array = sum-eased (holds_in array) (λ r e. (let w = e.wants in let h = e.held in cc)) rows eases

  bound-eased : (r : Row) → Eases r (f r) → IsBound rows r → IsBound (map f rows) (f r)
  bound-eased r e is = subst (λ (w : Wants). IfSome w.bound (λ (bound : ℕ). IfSome w.array (λ (array : ArrayId). in_array array (map f rows) ≤ bound))) (sym e.wants)
      (bound-under r.wants rows (map f rows) (λ array. (let same = array-eased array in omega arith)) is)

-- what an alike row asks for
alike-wants : (r q r' q' : Row) → r'.wants ≡ r.wants → q'.wants ≡ q.wants → IsAlike r q → IsAlike r' q'
alike-wants r q r' q' same same' alike = λ array one other.
    (let a : r.wants.array ≡ Some array = ap (λ (w : Wants). w.array) (sym same) ∙ one in
    let b : q.wants.array ≡ Some array = ap (λ (w : Wants). w.array) (sym same') ∙ other in
    ap (λ (w : Wants). w.bound) same ∙ alike array a b ∙ ap (λ (w : Wants). w.bound) (sym same'))

-- rows that want what they wanted are alike as they were
pub alike-map : (f : Row → Row) → ((r : Row) → (f r).wants ≡ r.wants) → (rows : List Row) → AllByRecursion (λ r. AllByRecursion (IsAlike r) rows) rows
    → AllByRecursion (λ r. AllByRecursion (IsAlike r) (map f rows)) (map f rows)
alike-map f same rows all =
    all-map (λ r. AllByRecursion (IsAlike r) (map f rows)) f rows
    (all-implied (λ r. AllByRecursion (IsAlike r) rows) (λ r. AllByRecursion (IsAlike (f r)) (map f rows))
    (λ r each. all-map (IsAlike (f r)) f rows (all-implied (IsAlike r) (λ q. IsAlike (f r) (f q)) (λ q is. alike-wants r q (f r) (f q) (same r) (same q) is) rows each)) rows all)

-- a plan whose rows ease is fit, with more changes and with orders that are for its rows
pub eased : (f : Row → Row) → ((r : Row) → (f r).job ≡ r.job) → ((r : Row) → (f r).wants ≡ r.wants) → (p : Plan) → IsFit p → AllByRecursion (λ r. Eases r (f r)) p.rows
    → (changes : List Change) → length p.changes ≤ length changes → (orders : List Order) → AllByRecursion (IsFor (map f p.rows)) orders
    → IsFit (record p { rows = map f p.rows; changes = changes; orders = orders })
eased f same wants p fit eases changes more orders asked =
    let sum : held (map f p.rows) ≡ held p.rows = held-eased f same p.rows eases p.rows eases in
    record {
      within = (let within = fit.within in omega arith);
      sound = all-eased f same p.rows eases (λ (r : Row). IsSound r.wants r.course) (λ (r : Row). IsSound r.wants r.course) (λ r e s. e.sound) p.rows eases fit.sound;
      jobs = numbered-map number_of f (λ r. ap (λ (j : JobId). j.0) (same r)) p.next_job p.rows fit.jobs;
      reserved = all-eased f same p.rows eases (λ (r : Row). IfSome r.wants.reservation (λ (n : ReservationId). n.0 < p.next_reservation)) (λ (r : Row). IfSome r.wants.reservation (λ (n : ReservationId). n.0 < p.next_reservation))
          (λ r e h. subst (λ (w : Wants). IfSome w.reservation (λ (n : ReservationId). n.0 < p.next_reservation)) (sym e.wants) h) p.rows eases fit.reserved;
      arrays = all-eased f same p.rows eases (λ (r : Row). IfSome r.wants.array (λ (a : ArrayId). a.0 < p.next_array)) (λ (r : Row). IfSome r.wants.array (λ (a : ArrayId). a.0 < p.next_array))
          (λ r e h. subst (λ (w : Wants). IfSome w.array (λ (a : ArrayId). a.0 < p.next_array)) (sym e.wants) h) p.rows eases fit.arrays;
      attempts = all-eased f same p.rows eases (λ (r : Row). r.course.attempt ≤ length p.changes) (λ (r : Row). r.course.attempt ≤ length changes) (λ r e h. (let a = e.attempt in omega arith)) p.rows eases fit.attempts;
      asked = asked;
      loads = λ x low high. (let u = used-eased f same p.rows eases x in let l = fit.loads x low high in omega arith);
      books = fit.books;
      inside = all-implied (λ (a : Accepted). in_reservation a.reservation p.rows ≤ a.slots) (λ (a : Accepted). in_reservation a.reservation (map f p.rows) ≤ a.slots)
          (λ a h. (let u = inside-eased f same p.rows eases a.reservation in omega arith)) p.reservations fit.inside;
      queued = λ place. (let same = queue-eased f same p.rows eases place in queue-under (queue_at place p.queues) (in_queue place p.rows) (in_queue place (map f p.rows)) (omega arith) (fit.queued place));
      bounds = all-eased f same p.rows eases (IsBound p.rows) (IsBound (map f p.rows)) (bound-eased f same p.rows eases) p.rows eases fit.bounds;
      alike = alike-map f wants p.rows fit.alike;
      accepted = fit.accepted;
      dispatched = all-eased f same p.rows eases (λ (r : Row). launched_at r.course ≤ p.moment) (λ (r : Row). launched_at r.course ≤ p.moment)
          (λ r e h. subst (λ (o : Option ℕ). option_map_or (λ (m : ℕ). m) o 0 ≤ p.moment) (sym e.dispatched) h) p.rows eases fit.dispatched;
    }

-- ---- time

pub sound-failed : (moment : ℕ) (n : Note) (r : Row) → IsSound r.wants r.course → IsSound r.wants (failed moment n r.course)
sound-failed moment n r sound = record {
  least = sound.least;
  range = sound.range;
  known = λ e. cc;
  idle = λ e. (refl, refl);
  started = λ e. absurd (cc);
  planned = λ e. absurd (cc);
  unplanned = λ e. refl;
  spared = λ e. absurd (cc);
  limit = sound.limit;
}

pub sound-called : (n : Note) (r : Row) → is_started r.course.state ≡ true → IsSound r.wants r.course → IsSound r.wants (called n r.course)
sound-called n r is sound = record {
  least = sound.least;
  range = sound.range;
  known = sound.known;
  idle = sound.idle;
  started = sound.started;
  planned = sound.planned;
  unplanned = sound.unplanned;
  spared = λ waits. absurd (false≢true (sym (waits-not_started r.course.state waits) ∙ is));
  limit = sound.limit;
}

pub idle-not_alive : (p : Phase) → p ≡ Idle → is_alive p ≡ false
idle-not_alive p is = ap is_alive is

-- a job that is not started takes nothing from the calendar
pub unused : (x : ℕ) (r : Row) → is_started r.course.state ≡ false → uses_at x r ≡ 0
unused x r idle =
    ap (λ b. cond (is_ordinary r && b && option_map_or (ends_after x) r.course.planned false) r.course.held 0) idle
    ∙ (elim (is_ordinary r) as (λ b. cond (b && false && option_map_or (ends_after x) r.course.planned false) r.course.held 0 ≡ 0) [ true ↦ refl | false ↦ refl ])

pub not-using : (r : Row) → is_started r.course.state ≡ false → is_using r ≡ false
not-using r idle = ap (λ b. is_ordinary r && b) idle ∙ (elim (is_ordinary r) as (λ b. (b && false) ≡ false) [ true ↦ refl | false ↦ refl ])

-- a job that waits ends
pub eases-failed : (moment : ℕ) (n : Note) (r : Row) → is_waiting r.course.state ≡ true → IsSound r.wants r.course → Eases r (record r { course = failed moment n r.course })
eases-failed moment n r waits s = record {
  job = refl;
  wants = refl;
  held = sym (s.idle (waits-not_started r.course.state waits)).1;
  attempt = refl;
  dispatched = refl;
  uses = λ x. unused x (record r { course = failed moment n r.course }) refl ∙ sym (unused x r (waits-not_started r.course.state waits));
  using = not-using (record r { course = failed moment n r.course }) refl ∙ sym (not-using r (waits-not_started r.course.state waits));
  planned = λ u. absurd (false≢true (sym (not-using r (waits-not_started r.course.state waits)) ∙ u));
  sound = sound-failed moment n r s;
  lasts = record {
    started = λ e. absurd (false≢true (sym (waits-not_started r.course.state waits) ∙ e));
    alive = λ e. absurd (false≢true (sym (idle-not_alive r.course.phase (s.idle (waits-not_started r.course.state waits)).0) ∙ e));
  };
}

-- a started job is asked to end
pub eases-asked : (n : Note) (r : Row) → is_started r.course.state ≡ true → IsSound r.wants r.course → Eases r (record r { course = called n r.course })
eases-asked n r is s = record { job = refl; wants = refl; held = refl; attempt = refl; dispatched = refl; uses = λ x. refl; using = refl; planned = λ u. refl; sound = sound-called n r is s; lasts = record { started = λ e. e; alive = λ e. e } }

pub eases-same : (r : Row) → IsSound r.wants r.course → Eases r r
eases-same r s = record { job = refl; wants = refl; held = refl; attempt = refl; dispatched = refl; uses = λ x. refl; using = refl; planned = λ u. refl; sound = s; lasts = record { started = λ e. e; alive = λ e. e } }

pub eases-lapsed : (moment : ℕ) (rs : List Accepted) (r : Row) → IsSound r.wants r.course → Eases r (lapsed moment rs r)
eases-lapsed moment rs r sound = lapsed-cases (λ (p q : Row). IsSound p.wants p.course → Eases p q) moment rs r (λ h s. eases-same r s) (λ h waits n s. eases-failed moment n r waits s) sound

pub eases-called : (moment : ℕ) (rs : List Accepted) (r : Row) → IsSound r.wants r.course → Eases r (called_in moment rs r)
eases-called moment rs r sound = called-cases (λ (p q : Row). IsSound p.wants p.course → Eases p q) moment rs r (λ h s. eases-same r s) (λ h is n s. eases-asked n r is s) sound

found-lasts : (f : Row → Row) (rows : List Row) (job : JobId) → AllByRecursion (λ r. Eases r (f r)) rows → (r : Row) → row_of job rows ≡ Some r → Lasts r (f r)
found-lasts f rows job all r found = (row_of-all (λ (x : Row). Eases x (f x)) job rows r all found).lasts

pub orders-lasting : (f : Row → Row) → ((r : Row) → (f r).job ≡ r.job) → (rows : List Row) → AllByRecursion (λ r. Eases r (f r)) rows
    → (orders : List Order) → AllByRecursion (IsFor rows) orders → AllByRecursion (IsFor (map f rows)) orders
orders-lasting f same rows all orders = all-implied (IsFor rows) (IsFor (map f rows)) (λ order is. for-lasting f same rows order (found-lasts f rows order.job all) is) orders

pub expire-fit : (entry : ℕ) (p : Plan) → IsFit p → IsFit (expire entry p)
expire-fit entry p fit =
    let f = lapsed p.moment p.reservations in
    let same = lapsed-job p.moment p.reservations in
    let all : AllByRecursion (λ r. Eases r (f r)) p.rows = all-implied (λ (r : Row). IsSound r.wants r.course) (λ r. Eases r (f r)) (eases-lapsed p.moment p.reservations) p.rows fit.sound in
    let more : length p.changes ≤ length (expire entry p).changes = omega (arith, length-append p.changes (flat_map (λ row. change_of entry row (f row)) p.rows)) in
    eased f same (lapsed-wants p.moment p.reservations) p fit all (expire entry p).changes more p.orders (orders-lasting f same p.rows all p.orders fit.asked)

pub all-append : {X : Type 0} (P : X → Type 0) (xs ys : List X) → AllByRecursion P xs → AllByRecursion P ys → AllByRecursion P (xs ++ ys)
all-append P [] ys front back = back
all-append P (x ∷ xs) ys front back = (front.0, all-append P xs ys front.1 back)

-- an order to kill a job that is due
kill-for : (moment : ℕ) (rs : List Accepted) (rows : List Row) (r : Row) → (row_of r.job rows ≡ Some r) × (is_due moment rs r ≡ true) → IsFor (map (called_in moment rs) rows) (kill_order r)
kill-for moment rs rows r both =
    let f = called_in moment rs in
    let there : row_of r.job (map f rows) ≡ Some (f r) = row_of-map f (called-job moment rs) r.job rows ∙ ap (option_map f) both.0 in
    let is : is_started r.course.state ≡ true = (and_parts (is_started r.course.state) _ both.1).0 in
    let still : is_started (f r).course.state ≡ true = called-cases (λ (p q : Row). is_started p.course.state ≡ true → is_started q.course.state ≡ true) moment rs r (λ h e. e) (λ h s n e. e) is in
    record {
      started = ap (λ (o : Option Row). option_map_or (λ (row : Row). is_started row.course.state) o false) there ∙ still;
      alive = λ taken. absurd (cc);
    }

pub call_in-fit : (p : Plan) → IsFit p → IsFit (call_in p)
call_in-fit p fit =
    let f = called_in p.moment p.reservations in
    let same = called-job p.moment p.reservations in
    let all : AllByRecursion (λ r. Eases r (f r)) p.rows = all-implied (λ (r : Row). IsSound r.wants r.course) (λ r. Eases r (f r)) (eases-called p.moment p.reservations) p.rows fit.sound in
    let due = is_due p.moment p.reservations in
    let kills : AllByRecursion (IsFor (map f p.rows)) (map kill_order (filter due p.rows)) =
    all-map (IsFor (map f p.rows)) kill_order (filter due p.rows)
    (all-implied (λ (r : Row). (row_of r.job p.rows ≡ Some r) × (due r ≡ true)) (λ r. IsFor (map f p.rows) (kill_order r)) (kill-for p.moment p.reservations p.rows) (filter due p.rows)
    (all-both (λ (r : Row). row_of r.job p.rows ≡ Some r) (λ r. due r ≡ true) (filter due p.rows)
    (all-filter (λ (r : Row). row_of r.job p.rows ≡ Some r) due p.rows (rising-found p.rows fit.jobs.rising)) (all-passes due p.rows))) in
    eased f same (called-wants p.moment p.reservations) p fit all p.changes (omega arith) (p.orders ++ map kill_order (filter due p.rows))
    (all-append (IsFor (map f p.rows)) p.orders (map kill_order (filter due p.rows)) (orders-lasting f same p.rows all p.orders fit.asked) kills)

-- ---- reservations that go

-- fewer reservations take no more
booked-fewer : (test : Accepted → Bool) (rs : List Accepted) (x : ℕ) → booked (filter test rs) x ≤ booked rs x
booked-fewer test [] x = omega arith
booked-fewer test (a ∷ rs) x =
    elim (test a) as (λ b. booked (cond b (a ∷ filter test rs) (filter test rs)) x ≤ booked (a ∷ rs) x) [
      | true ↦ omega (arith, booked-fewer test rs x, sum_by-cons (slots_at x) a rs, sum_by-cons (slots_at x) a (filter test rs))
      | false ↦ omega (arith, booked-fewer test rs x, sum_by-cons (slots_at x) a rs)
    ]

above-fewer : (test : Accepted → Bool) (rs : List Accepted) → IsRising reservation_number rs → IsRising reservation_number (filter test rs)
above-fewer test [] rising = tt
above-fewer test (a ∷ rs) rising =
    elim (test a) as (λ b. IsRising reservation_number (cond b (a ∷ filter test rs) (filter test rs))) [
      | true ↦ (all-filter (λ (y : Accepted). reservation_number a < reservation_number y) test rs rising.0, above-fewer test rs rising.1)
      | false ↦ above-fewer test rs rising.1
    ]

-- a plan is fit at a later moment, with fewer reservations
pub fewer-fit : (m : ℕ) (test : Accepted → Bool) (p : Plan) → p.moment ≤ m → IsFit p → IsFit (record p { moment = m; reservations = filter test p.reservations })
fewer-fit m test p later fit = record {
  within = fit.within;
  sound = fit.sound;
  jobs = fit.jobs;
  reserved = fit.reserved;
  arrays = fit.arrays;
  attempts = fit.attempts;
  asked = fit.asked;
  loads = λ x low high. (let l = fit.loads x (omega arith) high in let b = booked-fewer test p.reservations x in omega arith);
  books = λ x high. (let l = fit.books x high in let b = booked-fewer test p.reservations x in omega arith);
  inside = all-filter (λ (a : Accepted). in_reservation a.reservation p.rows ≤ a.slots) test p.reservations fit.inside;
  queued = fit.queued;
  bounds = fit.bounds;
  alike = fit.alike;
  accepted = record { rising = above-fewer test p.reservations fit.accepted.rising; below = all-filter (λ (a : Accepted). reservation_number a < p.next_reservation) test p.reservations fit.accepted.below };
  dispatched = all-implied (λ (r : Row). launched_at r.course ≤ p.moment) (λ (r : Row). launched_at r.course ≤ m) (λ r h. omega arith) p.rows fit.dispatched;
}

pub let_go-fit : (at : ℕ) (p : Plan) → IsFit p → IsFit (let_go (come_to at p))
let_go-fit at p fit = fewer-fit (max p.moment at) (lasts (max p.moment at)) p (omega arith) fit

-- time keeps a plan fit
pub advance-fit : (entry at : ℕ) (p : Plan) → IsFit p → IsFit (advance_plan entry at p)
advance-fit entry at p fit = call_in-fit (expire entry (let_go (come_to at p))) (expire-fit entry (let_go (come_to at p)) (let_go-fit at p fit))

-- ---- one job goes on

pub with_course-wants : (job : JobId) (course : Course) (r : Row) → (with_course job course r).wants ≡ r.wants
with_course-wants job course r = elim (is_of job r) as (λ b. (cond b (record r { course = course }) r).wants ≡ r.wants) [ true ↦ refl | false ↦ refl ]

-- what it takes for one job to go on by a course
pub record GoesOn (entry : ℕ) (p : Plan) (row : Row) (next : Course) : Type 0 where
  pub found : row_of row.job p.rows ≡ Some row
  pub sound : IsSound row.wants next
  pub fits : held p.rows + next.held ≤ p.total + row.course.held
  pub attempt : next.attempt ≤ length (go_on entry row.job next p).changes
  pub dispatched : launched_at next ≤ p.moment
  pub loads : (x : ℕ) → p.moment ≤ x → x ≤ greatest → load p x + uses_at x (record row { course = next }) ≤ p.total + uses_at x row
  pub inside : AllByRecursion (λ (a : Accepted). in_reservation a.reservation p.rows + held_inside a.reservation (record row { course = next }) ≤ a.slots + held_inside a.reservation row) p.reservations
  pub queued : (place : ℕ) → IfSome (queue_at place p.queues) (λ (queue : QueueSpec). in_queue place p.rows + held_in_queue place (record row { course = next }) ≤ queue.limit + held_in_queue place row)
  pub bounds : AllByRecursion (λ (r : Row). IfSome r.wants.bound (λ (bound : ℕ). IfSome r.wants.array (λ (array : ArrayId). in_array array p.rows + holds_in array (record row { course = next }) ≤ bound + holds_in array row))) p.rows

-- what a queue holds goes on by what its job holds
queue-then : (o : Option QueueSpec) (before after own next : ℕ) → after + own ≡ before + next → IfSome o (λ (queue : QueueSpec). before + next ≤ queue.limit + own) → IfSome o (λ (queue : QueueSpec). after ≤ queue.limit)
queue-then None before after own next sum h = tt
queue-then (Some queue) before after own next sum h = omega arith

module _ (entry : ℕ) (p : Plan) (row : Row) (next : Course) (fit : IsFit p) (on : GoesOn entry p row next) where
  bound-then : (w : Wants) → IfSome w.bound (λ (bound : ℕ). IfSome w.array (λ (array : ArrayId). in_array array p.rows + holds_in array (record row { course = next }) ≤ bound + holds_in array row))
      → IfSome w.bound (λ (bound : ℕ). IfSome w.array (λ (array : ArrayId). in_array array (map (with_course row.job next) p.rows) ≤ bound))
  bound-then w =
      (elim w.bound as (λ b. IfSome b (λ (bound : ℕ). IfSome w.array (λ (array : ArrayId). in_array array p.rows + holds_in array (record row { course = next }) ≤ bound + holds_in array row))
      → IfSome b (λ (bound : ℕ). IfSome w.array (λ (array : ArrayId). in_array array (map (with_course row.job next) p.rows) ≤ bound))) [
        | None ↦ λ h. h
        | Some bound ↦
            (elim w.array as (λ o. IfSome o (λ (array : ArrayId). in_array array p.rows + holds_in array (record row { course = next }) ≤ bound + holds_in array row)
            → IfSome o (λ (array : ArrayId). in_array array (map (with_course row.job next) p.rows) ≤ bound)) [
              | None ↦ λ h. h
              | Some array ↦ λ h. (let u = sum_with_course row.job next (holds_in array) p.rows row fit.jobs.rising on.found in omega arith)
            ])
      ])

  pub go_on-fit : (orders : List Order) → AllByRecursion (IsFor (map (with_course row.job next) p.rows)) orders → IsFit (record (go_on entry row.job next p) { orders = orders })
  go_on-fit orders asked =
      let sum : held (map (with_course row.job next) p.rows) + row.course.held ≡ held p.rows + next.held =
      sum_with_course row.job next (λ (r : Row). r.course.held) p.rows row fit.jobs.rising on.found in
      let more : length p.changes ≤ length (go_on entry row.job next p).changes =
      omega (arith, length-append p.changes (flat_map (λ r. change_of entry r (with_course row.job next r)) p.rows)) in
      record {
        within = (let fits = on.fits in omega arith);
        sound = all_with_course row.job next (λ (r : Row). IsSound r.wants r.course) p.rows row fit.jobs.rising on.found fit.sound on.sound;
        jobs = numbered-map number_of (with_course row.job next) (with_course-number row.job next) p.next_job p.rows fit.jobs;
        reserved = all_with_course row.job next (λ (r : Row). IfSome r.wants.reservation (λ (n : ReservationId). n.0 < p.next_reservation)) p.rows row fit.jobs.rising on.found fit.reserved
            (row_of-all (λ (r : Row). IfSome r.wants.reservation (λ (n : ReservationId). n.0 < p.next_reservation)) row.job p.rows row fit.reserved on.found);
        arrays = all_with_course row.job next (λ (r : Row). IfSome r.wants.array (λ (a : ArrayId). a.0 < p.next_array)) p.rows row fit.jobs.rising on.found fit.arrays
            (row_of-all (λ (r : Row). IfSome r.wants.array (λ (a : ArrayId). a.0 < p.next_array)) row.job p.rows row fit.arrays on.found);
        attempts = all_with_course row.job next (λ (r : Row). r.course.attempt ≤ length (go_on entry row.job next p).changes) p.rows row fit.jobs.rising on.found
            (all-implied (λ (r : Row). r.course.attempt ≤ length p.changes) (λ (r : Row). r.course.attempt ≤ length (go_on entry row.job next p).changes) (λ r h. omega arith) p.rows fit.attempts)
            on.attempt;
        asked = asked;
        loads = λ x low high. (let l = on.loads x low high in let u = sum_with_course row.job next (uses_at x) p.rows row fit.jobs.rising on.found in omega arith);
        books = fit.books;
        inside = all-implied (λ (a : Accepted). in_reservation a.reservation p.rows + held_inside a.reservation (record row { course = next }) ≤ a.slots + held_inside a.reservation row)
            (λ (a : Accepted). in_reservation a.reservation (map (with_course row.job next) p.rows) ≤ a.slots)
            (λ a h. (let u = sum_with_course row.job next (held_inside a.reservation) p.rows row fit.jobs.rising on.found in omega arith)) p.reservations on.inside;
        queued = λ place. queue-then (queue_at place p.queues) (in_queue place p.rows) (in_queue place (map (with_course row.job next) p.rows)) (held_in_queue place row) (held_in_queue place (record row { course = next }))
            (sum_with_course row.job next (held_in_queue place) p.rows row fit.jobs.rising on.found) (on.queued place);
        bounds = all-map (IsBound (map (with_course row.job next) p.rows)) (with_course row.job next) p.rows
            (all-implied (λ (r : Row). IfSome r.wants.bound (λ (bound : ℕ). IfSome r.wants.array (λ (array : ArrayId). in_array array p.rows + holds_in array (record row { course = next }) ≤ bound + holds_in array row)))
            (λ (r : Row). IsBound (map (with_course row.job next) p.rows) (with_course row.job next r))
            (λ r h. subst (λ (w : Wants). IfSome w.bound (λ (bound : ℕ). IfSome w.array (λ (array : ArrayId). in_array array (map (with_course row.job next) p.rows) ≤ bound))) (sym (with_course-wants row.job next r)) (bound-then r.wants h)) p.rows on.bounds);
        alike = alike-map (with_course row.job next) (with_course-wants row.job next) p.rows fit.alike;
        accepted = fit.accepted;
        dispatched = all_with_course row.job next (λ (r : Row). launched_at r.course ≤ p.moment) p.rows row fit.jobs.rising on.found fit.dispatched on.dispatched;
      }

  with_course-job : (r : Row) → (with_course row.job next r).job ≡ r.job
  with_course-job r = elim (is_of row.job r) as (λ b. (cond b (record r { course = next }) r).job ≡ r.job) [ true ↦ refl | false ↦ refl ]

  -- the row that is found is that job's, or stays
  found-cases : (Q : Row → Row → Type 0) → Q row (record row { course = next }) → ((r : Row) → Q r r)
      → (job : JobId) (r : Row) → row_of job p.rows ≡ Some r → Q r (with_course row.job next r)
  found-cases Q here there job r found =
      (elim (is_of row.job r) as (λ b. is_of row.job r ≡ b → Q r (cond b (record r { course = next }) r)) [
        | true ↦ λ is.
            (let number : r.job.0 ≡ row.job.0 = eqb-true r.job.0 row.job.0 is in
            let own : r.job.0 ≡ job.0 = row_of-is job p.rows r found in
            let same_job : row.job ≡ job = ap (λ (n : ℕ). let j : JobId = record { 0 = n } in j) (sym number ∙ own) in
            let found' : row_of row.job p.rows ≡ Some r = subst (λ (j : JobId). row_of j p.rows ≡ Some r) (sym same_job) found in
            let first = on.found in
            let same : row ≡ r = cc in
            subst (λ (x : Row). Q x (record x { course = next })) same here)
        | false ↦ λ is. there r
      ]) refl

  pub orders-kept : Lasts row (record row { course = next }) → (orders : List Order) → AllByRecursion (IsFor p.rows) orders → AllByRecursion (IsFor (map (with_course row.job next) p.rows)) orders
  orders-kept lasts orders = all-implied (IsFor p.rows) (IsFor (map (with_course row.job next) p.rows))
      (λ order is. for-lasting (with_course row.job next) with_course-job p.rows order
      (found-cases Lasts lasts (λ r. record { started = λ e. e; alive = λ e. e }) order.job) is) orders

  other-lasts : (order : Order) → (eqb order.job.0 row.job.0 ≡ false) → (r : Row) → row_of order.job p.rows ≡ Some r → Lasts r (with_course row.job next r)
  other-lasts order other r found =
      (elim (is_of row.job r) as (λ b. is_of row.job r ≡ b → Lasts r (cond b (record r { course = next }) r)) [
        | true ↦ λ is.
            (let number : r.job.0 ≡ row.job.0 = eqb-true r.job.0 row.job.0 is in
            let own : r.job.0 ≡ order.job.0 = row_of-is order.job p.rows r found in
            absurd (false≢true (sym other ∙ eq-eqb order.job.0 row.job.0 (sym own ∙ number))))
        | false ↦ λ is. record { started = λ e. e; alive = λ e. e }
      ]) refl

  pub orders-cleared : (orders : List Order) → AllByRecursion (IsFor p.rows) orders → AllByRecursion (IsFor (map (with_course row.job next) p.rows)) (orders_without row.job orders)
  orders-cleared orders all =
      all-implied (λ (o : Order). IsFor p.rows o × (not (eqb o.job.0 row.job.0) ≡ true)) (IsFor (map (with_course row.job next) p.rows))
      (λ order both. for-lasting (with_course row.job next) with_course-job p.rows order (other-lasts order (not-true (eqb order.job.0 row.job.0) both.1)) both.0)
      (orders_without row.job orders)
      (all-both (IsFor p.rows) (λ (o : Order). not (eqb o.job.0 row.job.0) ≡ true) (orders_without row.job orders)
      (all-filter (IsFor p.rows) (λ (o : Order). not (eqb o.job.0 row.job.0)) orders all) (all-passes (λ (o : Order). not (eqb o.job.0 row.job.0)) orders))

  is_of-own : is_of row.job row ≡ true
  is_of-own = eq-eqb row.job.0 row.job.0 refl

  pub order-new : (kind : SignalKind) → is_started next.state ≡ true → IsFor (map (with_course row.job next) p.rows) (record { job = row.job; kind = kind; taken = false })
  order-new kind starts =
      let there : row_of row.job (map (with_course row.job next) p.rows) ≡ Some (with_course row.job next row) =
      row_of-map (with_course row.job next) with_course-job row.job p.rows ∙ ap (option_map (with_course row.job next)) on.found in
      let own : with_course row.job next row ≡ record row { course = next } = ap (λ b. cond b (record row { course = next }) row) is_of-own in
      record {
        started = ap (λ (o : Option Row). option_map_or (λ (r : Row). is_started r.course.state) o false) (there ∙ ap (λ (r : Row). Some r) own) ∙ starts;
        alive = λ taken. absurd (cc);
      }

-- ---- the states of control

pub record SameKind (s t : JobState) : Type 0 where
  pub kind : is_started t ≡ is_started s
  pub waits : is_waiting t ≡ is_waiting s
  pub known : t ≢ Undetermined
  pub edge : may s t ≡ true

pub same-kind : (what : Control) (s t : JobState) → (what ≡ Terminate → ⊥) → after_control s what ≡ Some t → SameKind s t
same-kind Suspend Running t quiet e = (let same : Suspended ≡ t = cc in subst (SameKind Running) same (record { kind = refl; waits = refl; known = λ h. cc; edge = refl }))
same-kind Resume Suspended t quiet e = (let same : Running ≡ t = cc in subst (SameKind Suspended) same (record { kind = refl; waits = refl; known = λ h. cc; edge = refl }))
same-kind Hold Queued t quiet e = (let same : QueuedHeld ≡ t = cc in subst (SameKind Queued) same (record { kind = refl; waits = refl; known = λ h. cc; edge = refl }))
same-kind Hold Requeued t quiet e = (let same : RequeuedHeld ≡ t = cc in subst (SameKind Requeued) same (record { kind = refl; waits = refl; known = λ h. cc; edge = refl }))
same-kind Release QueuedHeld t quiet e = (let same : Queued ≡ t = cc in subst (SameKind QueuedHeld) same (record { kind = refl; waits = refl; known = λ h. cc; edge = refl }))
same-kind Release RequeuedHeld t quiet e = (let same : Requeued ≡ t = cc in subst (SameKind RequeuedHeld) same (record { kind = refl; waits = refl; known = λ h. cc; edge = refl }))
same-kind Terminate s t quiet e = absurd (quiet refl)
same-kind _ _ t quiet e = absurd (cc)

pub ends-waiting : (s t : JobState) → after_control s Terminate ≡ Some t → is_started s ≡ false → is_waiting s ≡ true
ends-waiting Queued t e idle = refl
ends-waiting QueuedHeld t e idle = refl
ends-waiting Requeued t e idle = refl
ends-waiting RequeuedHeld t e idle = refl
ends-waiting _ t e idle = absurd (cc)

-- what time leaves of each row, it leaves of the sum
pub kept-advance : (g : Row → ℕ) → ((r q : Row) → Eases r q → g q ≡ g r) → (entry at : ℕ) (p : Plan) → IsFit p → sum_by g (advance_plan entry at p).rows ≡ sum_by g p.rows
kept-advance g each entry at p fit =
    let q = let_go (come_to at p) in
    let e = expire entry q in
    let fit_q = let_go-fit at p fit in
    let fit_e = expire-fit entry q fit_q in
    let f = lapsed q.moment q.reservations in
    let h = called_in q.moment q.reservations in
    let first : AllByRecursion (λ r. Eases r (f r)) q.rows = all-implied (λ (r : Row). IsSound r.wants r.course) (λ r. Eases r (f r)) (eases-lapsed q.moment q.reservations) q.rows fit_q.sound in
    let second : AllByRecursion (λ r. Eases r (h r)) e.rows = all-implied (λ (r : Row). IsSound r.wants r.course) (λ r. Eases r (h r)) (eases-called q.moment q.reservations) e.rows fit_e.sound in
    sum-eased h (called-job q.moment q.reservations) e.rows second g (λ r is. each r (h r) is) e.rows second
    ∙ sum-eased f (lapsed-job q.moment q.reservations) q.rows first g (λ r is. each r (f r) is) q.rows first

-- time leaves the slots that are held, those of the jobs of a reservation, the members of an array that hold some, and what jobs take of the calendar
pub held-advance : (entry at : ℕ) (p : Plan) → IsFit p → held (advance_plan entry at p).rows ≡ held p.rows
held-advance entry at p fit = kept-advance (λ (r : Row). r.course.held) (λ r q e. e.held) entry at p fit

pub inside-advance : (number : ReservationId) (entry at : ℕ) (p : Plan) → IsFit p → in_reservation number (advance_plan entry at p).rows ≡ in_reservation number p.rows
inside-advance number entry at p fit = kept-advance (held_inside number) (λ r q e. (let w = e.wants in let h = e.held in cc)) entry at p fit

pub array-advance : (array : ArrayId) (entry at : ℕ) (p : Plan) → IsFit p → in_array array (advance_plan entry at p).rows ≡ in_array array p.rows
array-advance array entry at p fit = kept-advance (holds_in array) (λ r q e. (let w = e.wants in let h = e.held in cc)) entry at p fit

pub queue-advance : (place entry at : ℕ) (p : Plan) → IsFit p → in_queue place (advance_plan entry at p).rows ≡ in_queue place p.rows
queue-advance place entry at p fit = kept-advance (held_in_queue place) (λ r q e. (let w = e.wants in let h = e.held in cc)) entry at p fit

pub used-advance : (x entry at : ℕ) (p : Plan) → IsFit p → used (advance_plan entry at p).rows x ≡ used p.rows x
used-advance x entry at p fit = kept-advance (uses_at x) (λ r q e. e.uses x) entry at p fit

-- a reservation that has ended covers no moment from then on
ended-covers : (m x : ℕ) (a : Accepted) → m ≤ x → cond (lasts m a) (slots_at x a) 0 ≡ slots_at x a
ended-covers m x a later =
    (elim (lasts m a) as (λ b. lasts m a ≡ b → cond b (slots_at x a) 0 ≡ slots_at x a) [
      | true ↦ λ e. refl
      | false ↦ λ e.
          (let over = ltb-false m a.until e in
          let out : ltb x a.until ≡ false = le-ltb x a.until (omega arith) in
          sym (ap (λ b. cond (leb a.from x && b) a.slots 0) out ∙ (elim (leb a.from x) as (λ b. cond (b && false) a.slots 0 ≡ 0) [ true ↦ refl | false ↦ refl ])))
    ]) refl

-- without the reservations that have ended the load from the moment on is the same
pub load-fewer : (m : ℕ) (p : Plan) (x : ℕ) → m ≤ x → load (record p { moment = m; reservations = filter (lasts m) p.reservations }) x ≡ load p x
load-fewer m p x later =
    let books : booked (filter (lasts m) p.reservations) x ≡ booked p.reservations x =
    sum-filter (slots_at x) (lasts m) p.reservations ∙ sum-same (λ (a : Accepted). cond (lasts m a) (slots_at x a) 0) (slots_at x) (λ a. ended-covers m x a later) p.reservations in
    omega arith

pub load-let_go : (at : ℕ) (p : Plan) (x : ℕ) → max p.moment at ≤ x → load (let_go (come_to at p)) x ≡ load p x
load-let_go at p x later = load-fewer (max p.moment at) p x later

-- time leaves the load from the moment on
pub load-advance : (entry at : ℕ) (p : Plan) → IsFit p → (x : ℕ) → max p.moment at ≤ x → load (advance_plan entry at p) x ≡ load p x
load-advance entry at p fit x later =
    let m = max p.moment at in
    let books : booked (filter (lasts m) p.reservations) x ≡ booked p.reservations x =
    sum-filter (slots_at x) (lasts m) p.reservations ∙ sum-same (λ (a : Accepted). cond (lasts m a) (slots_at x a) 0) (slots_at x) (λ a. ended-covers m x a later) p.reservations in
    let uses = used-advance x entry at p fit in
    omega arith
