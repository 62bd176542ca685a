-- The launch of the next job keeps a plan fit.
use Rattle.std.proofs.Common.{◌≡◌, ℕ, ◌+◌, ◌<◌, ◌≤◌, Bool, true, false, cond, eqb, not, ◌&&◌, List, [], ◌∷◌, length, Option, Some, None, refl, sym, ◌∙◌, ap, subst, arith, length-append, ltb, leb}
use Rattle.std.specs.Prelude.{IfSome, is_some}
use Rattle.std.specs.List.{AllByRecursion, flat_map}
use Rattle.std.specs.Option.{option_map_or}
use Rattle.std.proofs.lemmas.Bool.{and_parts, false≢true, eqb-true, eq-eqb, ltb-true, leb-true, ne_eqb}
use Rattle.drmaa_types.specs.Queues.{queue_at}
use Rattle.drmaa_types.specs.States.{is_state, is_waiting}
use Rattle.drmaa_types.specs.declared.queues.QueueSpec.{QueueSpec}
use Rattle.drmaa_types.specs.declared.identifiers.ArrayId.{ArrayId}
use Rattle.drmaa_types.specs.declared.identifiers.ReservationId.{ReservationId}
use Rattle.drmaa_types.specs.declared.moments.End.{End}
use Rattle.drmaa_types.specs.declared.states.JobState.{JobState}
use Rattle.drmaa_types.specs.declared.states.JobState.TheVariants.{Running}
use Rattle.drmaa_model.specs.declared.reservations.Accepted.{Accepted}
use Rattle.drmaa_model.specs.declared.rows.Row.{Row}
use Rattle.drmaa_model.specs.declared.rows.Wants.{Wants}
use Rattle.drmaa_model.specs.Courses.{launched, planned_end}
use Rattle.drmaa_model.specs.Fit.{IsRising, IsSound, IsFit, IsBound, IsAlike, reservation_number}
use Rattle.drmaa_model.specs.FitLaws.{GoesOn, go_on-fit, orders-kept, idle-not_alive, unused}
use Rattle.drmaa_model.specs.Launching.{launch, launch_row}
use Rattle.drmaa_model.specs.Load.{is_in_queue, in_queue, held_in_queue, names, held_inside, holds_in, is_member, in_reservation, in_array, is_ordinary, ends_after, covers, load, reservation_of, fits}
use Rattle.drmaa_model.specs.MomentLaws.{fits-at, ends-before}
use Rattle.drmaa_model.specs.OperationLaws.{KeepsFit, row-sound}
use Rattle.drmaa_model.specs.NextLaunch.{next_launch, has_slots, has_slots_in, has_slots_free, has_room_in, is_within_bound}
use Rattle.drmaa_model.specs.NextLaunchLaws.{IsNextLaunch, next_launch-is, ready-parts}
use Rattle.drmaa_model.specs.Plan.{Plan}
use Rattle.drmaa_model.specs.RowLaws.{all-implied, all-both, row_of-all, changes_with_course}
use Rattle.drmaa_model.specs.Rows.{change_of, with_course}

waits-not_running : (s : JobState) → is_waiting s ≡ true → is_state s Running ≡ false
waits-not_running Running h = absurd (cc)
waits-not_running _ h = refl

sound-launched : (moment slots : ℕ) (row : Row) → IsSound row.wants row.course → row.wants.min ≤ slots → slots ≤ row.wants.max →
    IsSound row.wants (launched moment slots (planned_end row.wants moment) row.course)
sound-launched moment slots row sound least most = record {
  least = sound.least;
  range = sound.range;
  known = λ e. cc;
  idle = λ e. absurd (cc);
  started = λ e. ((λ same. cc), least, most);
  planned = λ e. refl;
  unplanned = λ e. absurd (cc);
  spared = λ e. absurd (cc);
  limit = sound.limit;
}

-- an ordinary job that is ready has slots that are free
ordinary-free : (p : Plan) (slots : ℕ) (row : Row) → is_ordinary row ≡ true → has_slots p slots row ≡ true → has_slots_free p slots row ≡ true
ordinary-free p slots row =
    elim row.wants.reservation as (λ o. not (is_some o) ≡ true → option_map_or (has_slots_in p slots) o (has_slots_free p slots row) ≡ true → has_slots_free p slots row ≡ true) [
      | None ↦ λ ordinary has. has
      | Some n ↦ λ ordinary has. absurd (cc)
    ]

own-queue : (p : Plan) (slots place : ℕ) (o : Option ℕ) (q : Option QueueSpec) → queue_at place p.queues ≡ q → option_map_or (λ (own : ℕ). eqb own place) o false ≡ true → option_map_or (has_room_in p slots) o true ≡ true
    → IfSome q (λ (queue : QueueSpec). in_queue place p.rows + slots ≤ queue.limit)
own-queue p slots place None q is own room = absurd (cc)
own-queue p slots place (Some n) None is own room = tt
own-queue p slots place (Some n) (Some queue) is own room =
    let same : n ≡ place = eqb-true n place own in
    let test : leb (in_queue place p.rows + slots) queue.limit ≡ true =
    sym (ap (λ (o : Option QueueSpec). option_map_or (λ (q : QueueSpec). leb (in_queue place p.rows + slots) q.limit) o true) is) ∙ subst (λ (m : ℕ). has_room_in p slots m ≡ true) same room in
    leb-true (in_queue place p.rows + slots) queue.limit test

-- an ordinary job that is ready keeps its queue within the limit
launch-queued : (p : Plan) (slots place : ℕ) (row : Row) → has_slots p slots row ≡ true → IfSome (queue_at place p.queues) (λ (queue : QueueSpec). in_queue place p.rows ≤ queue.limit)
    → IfSome (queue_at place p.queues) (λ (queue : QueueSpec). in_queue place p.rows + cond (is_in_queue place row) slots 0 ≤ queue.limit)
launch-queued p slots place row has =
    (elim (is_in_queue place row) as (λ b. is_in_queue place row ≡ b → IfSome (queue_at place p.queues) (λ (queue : QueueSpec). in_queue place p.rows ≤ queue.limit) → IfSome (queue_at place p.queues) (λ (queue : QueueSpec). in_queue place p.rows + cond b slots 0 ≤ queue.limit)) [
      | true ↦ λ e h.
          (let parts = and_parts (is_ordinary row) (option_map_or (λ (own : ℕ). eqb own place) row.wants.queue false) e in
          let free = and_parts (fits p slots p.moment (planned_end row.wants p.moment)) (option_map_or (has_room_in p slots) row.wants.queue true) (ordinary-free p slots row parts.0 has) in
          own-queue p slots place row.wants.queue (queue_at place p.queues) refl parts.1 free.1)
      | false ↦ λ e h. queue-same (queue_at place p.queues) (in_queue place p.rows) h
    ]) refl where
      queue-same : (o : Option QueueSpec) (n : ℕ) → IfSome o (λ (queue : QueueSpec). n ≤ queue.limit) → IfSome o (λ (queue : QueueSpec). n + 0 ≤ queue.limit)
      queue-same None n h = tt
      queue-same (Some queue) n h = omega arith

queue-more : (o : Option QueueSpec) (n k own : ℕ) → IfSome o (λ (queue : QueueSpec). n + k ≤ queue.limit) → IfSome o (λ (queue : QueueSpec). n + k ≤ queue.limit + own)
queue-more None n k own h = tt
queue-more (Some queue) n k own h = omega arith

-- an ordinary job that is ready fits the calendar
pub ordinary-fits : (p : Plan) (slots : ℕ) (row : Row) → is_ordinary row ≡ true → has_slots p slots row ≡ true → fits p slots p.moment (planned_end row.wants p.moment) ≡ true
ordinary-fits p slots row ordinary has = (and_parts (fits p slots p.moment (planned_end row.wants p.moment)) (option_map_or (has_room_in p slots) row.wants.queue true) (ordinary-free p slots row ordinary has)).0

-- a job that names a reservation and is ready fits it
pub named-fits : (p : Plan) (slots : ℕ) (row : Row) (a : Accepted) → names a.reservation row ≡ true → reservation_of a.reservation p.reservations ≡ Some a → has_slots p slots row ≡ true
    → in_reservation a.reservation p.rows + slots ≤ a.slots
named-fits p slots row a named found has =
    (elim row.wants.reservation as (λ o. option_map_or (λ (n : ReservationId). eqb n.0 a.reservation.0) o false ≡ true → option_map_or (has_slots_in p slots) o (has_slots_free p slots row) ≡ true
    → in_reservation a.reservation p.rows + slots ≤ a.slots) [
      | None ↦ λ is h. absurd (cc)
      | Some n ↦ λ is h.
          (let same : n ≡ a.reservation = ap (λ (m : ℕ). let r : ReservationId = record { 0 = m } in r) (eqb-true n.0 a.reservation.0 is) in
          let there : has_slots_in p slots a.reservation ≡ true = subst (λ (m : ReservationId). has_slots_in p slots m ≡ true) same h in
          let test : covers p.moment a && leb (in_reservation a.reservation p.rows + slots) a.slots ≡ true =
          sym (ap (λ (o : Option Accepted). option_map_or (λ (b : Accepted). covers p.moment b && leb (in_reservation a.reservation p.rows + slots) b.slots) o false) found) ∙ there in
          leb-true (in_reservation a.reservation p.rows + slots) a.slots (and_parts (covers p.moment a) (leb (in_reservation a.reservation p.rows + slots) a.slots) test).1)
    ]) named has

-- each accepted reservation is found by its number
pub reservations-found : (rs : List Accepted) → IsRising reservation_number rs → AllByRecursion (λ (a : Accepted). reservation_of a.reservation rs ≡ Some a) rs
reservations-found [] rising = tt
reservations-found (b ∷ rs) rising = (
  ap (λ t. cond t (Some b) (reservation_of b.reservation rs)) (eq-eqb b.reservation.0 b.reservation.0 refl),
  all-implied (λ (a : Accepted). (reservation_number b < reservation_number a) × (reservation_of a.reservation rs ≡ Some a)) (λ (a : Accepted). reservation_of a.reservation (b ∷ rs) ≡ Some a)
      (λ a both. ap (λ t. cond t (Some b) (reservation_of a.reservation rs)) (ne_eqb b.reservation.0 a.reservation.0 (λ e. omega (arith, both.0))) ∙ both.1) rs
      (all-both (λ (a : Accepted). reservation_number b < reservation_number a) (λ (a : Accepted). reservation_of a.reservation rs ≡ Some a) rs rising.0 (reservations-found rs rising.1)),
)

launch-uses : (x slots load total : ℕ) (planned : End) (ordinary : Bool) → load ≤ total → (ordinary ≡ true → ends_after x planned ≡ true → load + slots ≤ total)
    → load + cond (ordinary && true && ends_after x planned) slots 0 ≤ total
launch-uses x slots load total planned false low fits = omega arith
launch-uses x slots load total planned true low fits =
    (elim (ends_after x planned) as (λ b. ends_after x planned ≡ b → load + cond b slots 0 ≤ total) [
      | true ↦ λ e. fits refl e
      | false ↦ λ e. omega arith
    ]) refl

launch-inside : (n k most : ℕ) (named : Bool) → n ≤ most → (named ≡ true → n + k ≤ most) → n + cond named k 0 ≤ most
launch-inside n k most false low fits = omega arith
launch-inside n k most true low fits = fits refl

-- where an array has a bound and the job is within it, one member more may hold slots
in_bound-below : (rows : List Row) (w : Wants) (array : ArrayId) (bound : ℕ) → w.array ≡ Some array → w.bound ≡ Some bound
    → option_map_or (λ (b : ℕ). option_map_or (λ (a : ArrayId). ltb (in_array a rows) b) w.array true) w.bound true ≡ true → in_array array rows < bound
in_bound-below rows w array bound is is' in_bound =
    ltb-true (in_array array rows) bound
    (sym (ap (λ (o : Option ℕ). option_map_or (λ (b : ℕ). option_map_or (λ (a : ArrayId). ltb (in_array a rows) b) w.array true) o true) is'
    ∙ ap (λ (o : Option ArrayId). option_map_or (λ (a : ArrayId). ltb (in_array a rows) bound) o true) is) ∙ in_bound)

member-is : (array : ArrayId) (o : Option ArrayId) → option_map_or (λ (a : ArrayId). eqb a.0 array.0) o false ≡ true → o ≡ Some array
member-is array None is = absurd (cc)
member-is array (Some a) is = ap (λ (n : ℕ). let b : ArrayId = record { 0 = n } in Some b) (eqb-true a.0 array.0 is)

launch-member : (array : ArrayId) (bound n : ℕ) (member positive positive' : Bool) → n ≤ bound → (member ≡ true → n < bound) → n + cond {A = ℕ} (member && positive) 1 0 ≤ bound + cond {A = ℕ} (member && positive') 1 0
launch-member array bound n false positive positive' low in_bound = omega arith
launch-member array bound n true true positive' low in_bound = (let t = in_bound refl in omega arith)
launch-member array bound n true false positive' low in_bound = omega arith

launch-bound : (p : Plan) (row after r : Row) → after.wants ≡ row.wants → is_within_bound p.rows row.wants ≡ true → IsBound p.rows r × IsAlike r row
    → IfSome r.wants.bound (λ (bound : ℕ). IfSome r.wants.array (λ (array : ArrayId). in_array array p.rows + holds_in array after ≤ bound + holds_in array row))
launch-bound p row after r same in_bound both =
    (elim r.wants.bound as (λ b. r.wants.bound ≡ b → IfSome b (λ (bound : ℕ). IfSome r.wants.array (λ (array : ArrayId). in_array array p.rows ≤ bound))
    → IfSome b (λ (bound : ℕ). IfSome r.wants.array (λ (array : ArrayId). in_array array p.rows + holds_in array after ≤ bound + holds_in array row))) [
      | None ↦ λ e h. tt
      | Some bound ↦ λ e.
          (elim r.wants.array as (λ o. r.wants.array ≡ o → IfSome o (λ (array : ArrayId). in_array array p.rows ≤ bound)
          → IfSome o (λ (array : ArrayId). in_array array p.rows + holds_in array after ≤ bound + holds_in array row)) [
            | None ↦ λ e' h. tt
            | Some array ↦ λ e' h.
                (let member : is_member array after ≡ is_member array row = ap (λ (w : Wants). option_map_or (λ (a : ArrayId). eqb a.0 array.0) w.array false) same in
                subst (λ t. in_array array p.rows + cond {A = ℕ} (t && ltb 0 after.course.held) 1 0 ≤ bound + holds_in array row) (sym member)
                (launch-member array bound (in_array array p.rows) (is_member array row) (ltb 0 after.course.held) (ltb 0 row.course.held) h
                (λ is. (let own = member-is array row.wants.array is in in_bound-below p.rows row.wants array bound own (sym (both.1 array e' own) ∙ e) in_bound))))
          ]) refl
    ]) refl both.0

pub launch_row-fit : (entry : ℕ) (p : Plan) (row : Row) (slots : ℕ) → IsFit p → IsNextLaunch p row slots → IsFit (launch_row entry row slots p)
launch_row-fit entry p row slots fit next =
    let course = launched p.moment slots (planned_end row.wants p.moment) row.course in
    let sound = row-sound row.job p row fit next.kept in
    let change : change_of entry row (record row { course = course }) ≡ (record { entry = entry; job = row.job; home = row.home; from = row.course.state; to = Running }) ∷ [] =
    ap (λ b. cond b [] ((record { entry = entry; job = row.job; home = row.home; from = row.course.state; to = Running }) ∷ [])) (waits-not_running row.course.state next.state.waits) in
    let added : flat_map (λ r. change_of entry r (with_course row.job course r)) p.rows ≡ (record { entry = entry; job = row.job; home = row.home; from = row.course.state; to = Running }) ∷ [] =
    changes_with_course row.job course entry p.rows row fit.jobs.rising next.kept ∙ change in
    let before = row_of-all (λ (r : Row). r.course.attempt ≤ length p.changes) row.job p.rows row fit.attempts next.kept in
    let idle = (sound.idle next.state.idle).1 in
    let parts = ready-parts p slots row next.ready_at in
    let on : GoesOn entry p row course = record {
      found = next.kept;
      sound = sound-launched p.moment slots row sound next.least (next.most sound.range);
      fits = (let fits = next.fits in omega arith);
      attempt = omega (arith, before, ap length added, length-append p.changes (flat_map (λ r. change_of entry r (with_course row.job course r)) p.rows));
      dispatched = omega arith;
      loads = λ x low high.
          (let none = unused x row next.state.idle in
          let fits = launch-uses x slots (load p x) p.total (planned_end row.wants p.moment) (is_ordinary row) (fit.loads x low high)
          (λ ordinary after. fits-at p slots p.moment (planned_end row.wants p.moment) (ordinary-fits p slots row ordinary parts.has) x low (ends-before (planned_end row.wants p.moment) x high after)) in
          omega arith);
      inside = all-implied (λ (a : Accepted). (in_reservation a.reservation p.rows ≤ a.slots) × (reservation_of a.reservation p.reservations ≡ Some a))
          (λ (a : Accepted). in_reservation a.reservation p.rows + held_inside a.reservation (record row { course = course }) ≤ a.slots + held_inside a.reservation row)
          (λ a both. (let fits = launch-inside (in_reservation a.reservation p.rows) slots a.slots (names a.reservation row) both.0 (λ named. named-fits p slots row a named both.1 parts.has) in omega arith))
          p.reservations (all-both (λ (a : Accepted). in_reservation a.reservation p.rows ≤ a.slots) (λ (a : Accepted). reservation_of a.reservation p.reservations ≡ Some a) p.reservations fit.inside
          (reservations-found p.reservations fit.accepted.rising));
      queued = λ place. queue-more (queue_at place p.queues) (in_queue place p.rows) (held_in_queue place (record row { course = course })) (held_in_queue place row)
          (launch-queued p slots place row parts.has (fit.queued place));
      bounds = all-implied (λ (r : Row). IsBound p.rows r × IsAlike r row) (λ (r : Row). IfSome r.wants.bound (λ (bound : ℕ). IfSome r.wants.array (λ (array : ArrayId). in_array array p.rows + holds_in array (record row { course = course }) ≤ bound + holds_in array row)))
          (λ r both. launch-bound p row (record row { course = course }) r refl parts.in_bound both) p.rows
          (all-both (IsBound p.rows) (λ (r : Row). IsAlike r row) p.rows fit.bounds
          (all-implied (λ (r : Row). AllByRecursion (IsAlike r) p.rows) (λ (r : Row). IsAlike r row) (λ r all. row_of-all (IsAlike r) row.job p.rows row all next.kept) p.rows fit.alike));
    } in
    go_on-fit entry p row course fit on p.orders (orders-kept entry p row course fit on (record {
      started = λ e. refl;
      alive = λ e. absurd (false≢true (sym (idle-not_alive row.course.phase (sound.idle next.state.idle).0) ∙ e));
    }) p.orders fit.asked)

pub launch-effect : (entry : ℕ) (p : Plan) (next : Row × ℕ) → next_launch p ≡ Some next → launch.effect entry p ≡ launch_row entry next.0 next.1 p
launch-effect entry p next first = ap (λ (o : Option (Row × ℕ)). option_map_or (λ (n : Row × ℕ). launch_row entry n.0 n.1 p) o p) first

pub launch-keeps : KeepsFit launch
launch-keeps = record {
  keeps = λ entry p fit free.
      ((elim (next_launch p) as (λ o. next_launch p ≡ o → IsFit (option_map_or (λ (n : Row × ℕ). launch_row entry n.0 n.1 p) o p)) [
        | None ↦ λ is. fit
        | Some next ↦ λ is. launch_row-fit entry p next.0 next.1 fit (next_launch-is p next fit.jobs.rising is)
      ]) refl);
}
