-- The submission of a job, or of an array of jobs, keeps a plan fit.
use Rattle.std.proofs.Common.{◌≡◌, ℕ, zero, suc, ◌+◌, ◌<◌, ◌≤◌, Bool, true, false, cond, eqb, ltb, not, ◌&&◌, ◌||◌, List, [], ◌∷◌, ◌++◌, length, Option, Some, None, refl, sym, ◌∙◌, ap, subst, arith, append_assoc, append-nil}
use Rattle.std.specs.Prelude.{IfSome, is_some, find}
use Rattle.std.specs.List.{AllByRecursion}
use Rattle.std.specs.Option.{option_map, option_map_or}
use Rattle.std.proofs.lemmas.Bool.{eqb-true, eqb-false, ltb-false, not-false, or_parts}
use Rattle.std.proofs.lemmas.List.{length-map}
use Rattle.std.proofs.lemmas.List.Sums.{sum_by_push, sum_by-cons}
use Rattle.job_template.specs.declared.templates.JobTemplate.{JobTemplate}
use Rattle.drmaa_types.specs.declared.template_parts.ResourceLimit.{ResourceLimit}
use Rattle.job_template.specs.Expand.{expanded}
use Rattle.job_template.specs.JobTests.{command_tests, path_tests, slot_tests, limit_tests, job_tests, is_bad_deadline, is_bad_least}
use Rattle.job_template.specs.Unsupported.{other_tests, other_limit}
use Rattle.job_template.specs.Wants.{is_wallclock, min_slots, max_slots, queue_limit, wallclock_limit}
use Rattle.drmaa_types.specs.Queues.{queue_at}
use Rattle.drmaa_types.specs.Refusals.{first_refusal}
use Rattle.drmaa_types.specs.States.{is_started}
use Rattle.drmaa_types.specs.declared.identifiers.ArrayId.{ArrayId}
use Rattle.drmaa_types.specs.declared.identifiers.ReservationId.{ReservationId}
use Rattle.drmaa_types.specs.declared.queues.QueueSpec.{QueueSpec}
use Rattle.drmaa_types.specs.declared.refusals.Refusal.{Refusal}
use Rattle.drmaa_types.specs.declared.refusals.Refusal.TheVariants.{InvalidArgument, OutOfResource}
use Rattle.drmaa_types.specs.declared.refusals.Limit.TheVariants as resource
use Rattle.drmaa_types.specs.declared.refusals.Which.TheVariants as which
use Rattle.drmaa_model.specs.declared.calls.Indices.{Indices}
use Rattle.drmaa_model.specs.declared.courses.Order.{Order}
use Rattle.drmaa_model.specs.declared.reservations.Accepted.{Accepted}
use Rattle.drmaa_model.specs.declared.rows.Row.{Row}
use Rattle.drmaa_model.specs.declared.rows.Wants.{Wants}
use Rattle.drmaa_model.specs.Courses.{submitted_course}
use Rattle.drmaa_model.specs.Fit.{number_of, reservation_number, IsSound, IsFor, IsFit, IsBound, IsAlike, launched_at}
use Rattle.drmaa_model.specs.FitLaws.{bound-under, queue-under, unused}
use Rattle.drmaa_model.specs.Launching.{is_alive}
use Rattle.drmaa_model.specs.Load.{is_in_queue, in_queue, held_in_queue, uses_at, held_inside, holds_in, is_member, in_reservation, in_array}
use Rattle.drmaa_model.specs.OperationLaws.{KeepsFit, refusal-append, no_test}
use Rattle.drmaa_model.specs.Plan.{Plan}
use Rattle.drmaa_model.specs.RowLaws.{all-each, all-push, all-map, all-implied, all-both, numbered-push}
use Rattle.drmaa_model.specs.Rows.{is_of, row_of}
use Rattle.drmaa_model.specs.Submitting.{indices_from, index_count, indices_of, most_members, arrays_used, membership, Member, members, bulk_tests, names_none, named_slots, room_tests, submit_tests, new_row, new_rows, with_rows, submit}
use Rattle.drmaa_model.specs.Time.{is_accepted}

-- ---- one row more

row_of-push : (test : Row → Bool) (rows : List Row) (row : Row) (order : Order) → option_map_or test (row_of order.job rows) false ≡ true → option_map_or test (row_of order.job (rows ++ row ∷ [])) false ≡ true
row_of-push test [] row order is = absurd (cc)
row_of-push test (r ∷ rows) row order is =
    (elim (is_of order.job r) as (λ b. option_map_or test (cond b (Some r) (row_of order.job rows)) false ≡ true → option_map_or test (cond b (Some r) (row_of order.job (rows ++ row ∷ []))) false ≡ true) [
      | true ↦ λ h. h
      | false ↦ λ h. row_of-push test rows row order h
    ]) is

for-push : (rows : List Row) (row : Row) (order : Order) → IsFor rows order → IsFor (rows ++ row ∷ []) order
for-push rows row order is = record {
  started = row_of-push (λ (r : Row). is_started r.course.state) rows row order is.started;
  alive = λ taken. row_of-push (λ (r : Row). is_alive r.course.phase) rows row order (is.alive taken);
}

-- alike is alike both ways
alike-back : (r q : Row) → IsAlike r q → IsAlike q r
alike-back r q alike array one other = sym (alike array other one)

-- what it takes for a job to be added
pub record Joins (p : Plan) (row : Row) : Type 0 where
  pub number : row.job.0 ≡ p.next_job
  pub sound : IsSound row.wants row.course
  pub stopped : is_started row.course.state ≡ false
  pub attempt : row.course.attempt ≡ 0
  pub dispatched : row.course.dispatched ≡ None
  pub reserved : IfSome row.wants.reservation (λ (n : ReservationId). n.0 < p.next_reservation)
  pub arrays : IfSome row.wants.array (λ (a : ArrayId). a.0 < p.next_array)
  pub alike : AllByRecursion (IsAlike row) p.rows
  pub bound : IsBound p.rows row

-- one row more, under the next number
abbrev pub with_row : Row → Plan → Plan
with_row row p = record p { rows = p.rows ++ row ∷ []; next_job = p.next_job + 1 }

held-none : (row : Row) (number : ReservationId) → row.course.held ≡ 0 → held_inside number row ≡ 0
held-none row number none = ap (λ (n : ℕ). cond (option_map_or (λ (r : ReservationId). eqb r.0 number.0) row.wants.reservation false) n 0) none
    ∙ (elim (option_map_or (λ (r : ReservationId). eqb r.0 number.0) row.wants.reservation false) as (λ b. cond {A = ℕ} b 0 0 ≡ 0) [ true ↦ refl | false ↦ refl ])

queue-none : (row : Row) (place : ℕ) → row.course.held ≡ 0 → held_in_queue place row ≡ 0
queue-none row place none = ap (λ (n : ℕ). cond (is_in_queue place row) n 0) none ∙ (elim (is_in_queue place row) as (λ b. cond {A = ℕ} b 0 0 ≡ 0) [ true ↦ refl | false ↦ refl ])

holds-none : (row : Row) (array : ArrayId) → row.course.held ≡ 0 → holds_in array row ≡ 0
holds-none row array none = ap (λ (n : ℕ). cond {A = ℕ} (is_member array row && ltb 0 n) 1 0) none
    ∙ (elim (is_member array row) as (λ b. cond {A = ℕ} (b && false) 1 0 ≡ 0) [ true ↦ refl | false ↦ refl ])

pub join-fit : (p : Plan) (row : Row) → IsFit p → Joins p row → IsFit (with_row row p)
join-fit p row fit joins =
    let none : row.course.held ≡ 0 = (joins.sound.idle joins.stopped).1 in
    let members : (array : ArrayId) → in_array array (p.rows ++ row ∷ []) ≡ in_array array p.rows = λ array. (let sum = sum_by_push (holds_in array) p.rows row in let zero = holds-none row array none in omega arith) in
    let bounds : (r : Row) → IsBound p.rows r → IsBound (p.rows ++ row ∷ []) r = λ r h. bound-under r.wants p.rows (p.rows ++ row ∷ []) (λ array. (let same = members array in omega arith)) h in
    record {
      within = (let within = fit.within in let sum = sum_by_push (λ (r : Row). r.course.held) p.rows row in omega arith);
      sound = all-push (λ (r : Row). IsSound r.wants r.course) p.rows row fit.sound joins.sound;
      jobs = numbered-push number_of p.next_job p.rows row fit.jobs joins.number;
      reserved = all-push (λ (r : Row). IfSome r.wants.reservation (λ (n : ReservationId). n.0 < p.next_reservation)) p.rows row fit.reserved joins.reserved;
      arrays = all-push (λ (r : Row). IfSome r.wants.array (λ (a : ArrayId). a.0 < p.next_array)) p.rows row fit.arrays joins.arrays;
      attempts = all-push (λ (r : Row). r.course.attempt ≤ length p.changes) p.rows row fit.attempts (let zero = joins.attempt in omega arith);
      asked = all-implied (IsFor p.rows) (IsFor (p.rows ++ row ∷ [])) (for-push p.rows row) p.orders fit.asked;
      loads = λ x low high. (let u = sum_by_push (uses_at x) p.rows row in let zero = unused x row joins.stopped in let l = fit.loads x low high in omega arith);
      books = fit.books;
      inside = all-implied (λ (a : Accepted). in_reservation a.reservation p.rows ≤ a.slots) (λ (a : Accepted). in_reservation a.reservation (p.rows ++ row ∷ []) ≤ a.slots)
          (λ a h. (let u = sum_by_push (held_inside a.reservation) p.rows row in let zero = held-none row a.reservation none in omega arith)) p.reservations fit.inside;
      queued = λ place. (let u = sum_by_push (held_in_queue place) p.rows row in let zero = queue-none row place none in
          queue-under (queue_at place p.queues) (in_queue place p.rows) (in_queue place (p.rows ++ row ∷ [])) (omega arith) (fit.queued place));
      bounds = all-push (IsBound (p.rows ++ row ∷ [])) p.rows row (all-implied (IsBound p.rows) (IsBound (p.rows ++ row ∷ [])) bounds p.rows fit.bounds) (bounds row joins.bound);
      alike = all-push (λ (r : Row). AllByRecursion (IsAlike r) (p.rows ++ row ∷ [])) p.rows row
          (all-implied (λ (r : Row). AllByRecursion (IsAlike r) p.rows × IsAlike row r) (λ (r : Row). AllByRecursion (IsAlike r) (p.rows ++ row ∷ []))
          (λ r both. all-push (IsAlike r) p.rows row both.0 (alike-back row r both.1)) p.rows
          (all-both (λ (r : Row). AllByRecursion (IsAlike r) p.rows) (IsAlike row) p.rows fit.alike joins.alike))
          (all-push (IsAlike row) p.rows row joins.alike (λ array one other. refl));
      accepted = fit.accepted;
      dispatched = all-push (λ (r : Row). launched_at r.course ≤ p.moment) p.rows row fit.dispatched
          (subst (λ (o : Option ℕ). option_map_or (λ (m : ℕ). m) o 0 ≤ p.moment) (sym joins.dispatched) (omega arith));
    }

-- ---- the rows of one submission

-- what each job of a submission asks for; the array and the bound are those of all
pub record Suits (next_reservation : ℕ) (array : Option ArrayId) (bound : Option ℕ) (m : Member) : Type 0 where
  pub least : 1 ≤ min_slots m.template
  pub range : min_slots m.template ≤ max_slots m.template
  pub limit : IfSome (wallclock_limit m.template) (λ (seconds : ℕ). 1 ≤ seconds)
  pub reserved : IfSome m.template.reservation_id (λ (n : ReservationId). n.0 < next_reservation)
  pub array_is : m.membership.array ≡ array
  pub bound_is : m.membership.bound ≡ bound

-- the members of this array so far: they hold no slots, and have this bound
pub record IsYoung (array : ArrayId) (bound : Option ℕ) (p : Plan) : Type 0 where
  pub below : array.0 < p.next_array
  pub none : in_array array p.rows ≡ 0
  pub bounds : AllByRecursion (λ (r : Row). r.wants.array ≡ Some array → r.wants.bound ≡ bound) p.rows

course-stopped : (on_hold : Bool) → is_started (submitted_course on_hold).state ≡ false
course-stopped true = refl
course-stopped false = refl

sound-submitted : (w : Wants) (on_hold : Bool) → 1 ≤ w.min → w.min ≤ w.max → IfSome w.limit (λ (seconds : ℕ). 1 ≤ seconds) → IsSound w (submitted_course on_hold)
sound-submitted w true least range limit = record { least = least; range = range; known = λ e. cc; idle = λ e. (refl, refl); started = λ e. absurd (cc); planned = λ e. absurd (cc); unplanned = λ e. refl; spared = λ e. refl; limit = limit }
sound-submitted w false least range limit = record { least = least; range = range; known = λ e. cc; idle = λ e. (refl, refl); started = λ e. absurd (cc); planned = λ e. absurd (cc); unplanned = λ e. refl; spared = λ e. refl; limit = limit }

module _ (home : ℕ) (p : Plan) where
  -- a job that is no member of an array joins
  joins-alone : (q : Plan) (m : Member) → Suits q.next_reservation None None m → Joins q (new_row home p q.next_job m)
  joins-alone q m suits =
      let row = new_row home p q.next_job m in
      let none : row.wants.array ≡ None = suits.array_is in
      let unbound : row.wants.bound ≡ None = suits.bound_is in
      record {
        number = refl;
        sound = sound-submitted row.wants m.template.submit_as_hold suits.least suits.range suits.limit;
        stopped = course-stopped m.template.submit_as_hold;
        attempt = refl;
        dispatched = refl;
        reserved = suits.reserved;
        arrays = subst (λ (o : Option ArrayId). IfSome o (λ (a : ArrayId). a.0 < q.next_array)) (sym none) tt;
        alike = all-each (IsAlike row) (λ r array one other. absurd (cc)) q.rows;
        bound = subst (λ (o : Option ℕ). IfSome o (λ (bound : ℕ). IfSome row.wants.array (λ (array : ArrayId). in_array array q.rows ≤ bound))) (sym unbound) tt;
      }

  bound-young : (q : Plan) (array : ArrayId) (o : Option ℕ) → in_array array q.rows ≡ 0 → IfSome o (λ (bound : ℕ). in_array array q.rows ≤ bound)
  bound-young q array None none = tt
  bound-young q array (Some bound) none = omega arith

  -- a member of a new array joins
  joins-member : (q : Plan) (array : ArrayId) (bound : Option ℕ) (m : Member) → IsYoung array bound q → Suits q.next_reservation (Some array) bound m → Joins q (new_row home p q.next_job m)
  joins-member q array bound m young suits =
      let row = new_row home p q.next_job m in
      let own : row.wants.array ≡ Some array = suits.array_is in
      record {
        number = refl;
        sound = sound-submitted row.wants m.template.submit_as_hold suits.least suits.range suits.limit;
        stopped = course-stopped m.template.submit_as_hold;
        attempt = refl;
        dispatched = refl;
        reserved = suits.reserved;
        arrays = subst (λ (o : Option ArrayId). IfSome o (λ (a : ArrayId). a.0 < q.next_array)) (sym own) young.below;
        alike = all-implied (λ (r : Row). r.wants.array ≡ Some array → r.wants.bound ≡ bound) (IsAlike row)
            (λ r has a one other. (let same : Some array ≡ Some a = sym own ∙ one in suits.bound_is ∙ sym (has (other ∙ sym same)))) q.rows young.bounds;
        bound = subst (λ (o : Option ArrayId). IfSome row.wants.bound (λ (b : ℕ). IfSome o (λ (a : ArrayId). in_array a q.rows ≤ b))) (sym own)
            (bound-young q array row.wants.bound young.none);
      }

  -- the array stays young
  stays-young : (q : Plan) (array : ArrayId) (bound : Option ℕ) (m : Member) → IsYoung array bound q → Suits q.next_reservation (Some array) bound m → IsYoung array bound (with_row (new_row home p q.next_job m) q)
  stays-young q array bound m young suits =
      let row = new_row home p q.next_job m in
      record {
        below = young.below;
        none = (let sum = sum_by_push (holds_in array) q.rows row in let zero = holds-none row array refl in let before = young.none in omega arith);
        bounds = all-push (λ (r : Row). r.wants.array ≡ Some array → r.wants.bound ≡ bound) q.rows row young.bounds (λ e. suits.bound_is);
      }

  pub length-new : (number : ℕ) (ms : List Member) → length (new_rows home p number ms) ≡ length ms
  length-new number [] = refl
  length-new number (m ∷ ms) = omega (arith, length-new (number + 1) ms)

  -- with the rows of all
  abbrev all_joined : Plan → List Member → Plan
  all_joined q ms = record q { rows = q.rows ++ new_rows home p q.next_job ms; next_job = q.next_job + length ms }

  joined-none : (q : Plan) → q ≡ all_joined q []
  joined-none q =
      let same : q.next_job ≡ q.next_job + 0 = omega arith in
      ap (λ (n : ℕ). record q { next_job = n }) same ∙ ap (λ (rows : List Row). record q { rows = rows; next_job = q.next_job + 0 }) (sym (append-nil q.rows))

  joined-more : (q : Plan) (m : Member) (ms : List Member) → all_joined (with_row (new_row home p q.next_job m) q) ms ≡ all_joined q (m ∷ ms)
  joined-more q m ms =
      let row = new_row home p q.next_job m in
      let count : q.next_job + 1 + length ms ≡ q.next_job + length (m ∷ ms) = omega arith in
      ap (λ (n : ℕ). record q { rows = (q.rows ++ row ∷ []) ++ new_rows home p (q.next_job + 1) ms; next_job = n }) count
      ∙ ap (λ (rows : List Row). record q { rows = rows; next_job = q.next_job + length (m ∷ ms) }) (append_assoc q.rows (row ∷ []) (new_rows home p (q.next_job + 1) ms))

  -- all jobs of a submission join, one after another
  join-alone : (q : Plan) (ms : List Member) → IsFit q → AllByRecursion (Suits q.next_reservation None None) ms → IsFit (all_joined q ms)
  join-alone q [] fit suit = subst IsFit (joined-none q) fit
  join-alone q (m ∷ ms) fit suit =
      let row = new_row home p q.next_job m in
      subst IsFit (joined-more q m ms) (join-alone (with_row row q) ms (join-fit q row fit (joins-alone q m suit.0)) suit.1)

  join-members : (q : Plan) (array : ArrayId) (bound : Option ℕ) (ms : List Member) → IsFit q → IsYoung array bound q → AllByRecursion (Suits q.next_reservation (Some array) bound) ms → IsFit (all_joined q ms)
  join-members q array bound [] fit young suit = subst IsFit (joined-none q) fit
  join-members q array bound (m ∷ ms) fit young suit =
      let row = new_row home p q.next_job m in
      subst IsFit (joined-more q m ms)
      (join-members (with_row row q) array bound ms (join-fit q row fit (joins-member q array bound m young suit.0)) (stays-young q array bound m young suit.0) suit.1)

-- ---- what is not refused

-- what is known of a submission that is not refused
pub record MaySubmit (t : JobTemplate) (indices : Option Indices) (p : Plan) : Type 0 where
  pub bulk : first_refusal (bulk_tests indices) ≡ None
  pub slots : first_refusal (slot_tests p.total p.queues p.moment t) ≡ None
  pub limits : first_refusal (limit_tests false t.resource_limits) ≡ None
  pub named : names_none t p ≡ false
  pub room : first_refusal (room_tests (members t indices p) p) ≡ None

pub may-submit : (t : JobTemplate) (indices : Option Indices) (p : Plan) → first_refusal (submit_tests t indices p) ≡ None → MaySubmit t indices p
may-submit t indices p free =
    let rest : List (Bool × Refusal) = room_tests (members t indices p) p in
    let second : Bool × Refusal = (option_map_or (λ (slots : ℕ). ltb slots (min_slots t)) (named_slots t p) false, InvalidArgument which.MinSlots) in
    let first : Bool × Refusal = (names_none t p, InvalidArgument which.Reservation) in
    let all = refusal-append (bulk_tests indices ++ job_tests p.total p.queues p.moment t) (first ∷ second ∷ rest) free in
    let front = refusal-append (bulk_tests indices) (job_tests p.total p.queues p.moment t) all.0 in
    let job = refusal-append (command_tests t ++ path_tests p.queues t ++ slot_tests p.total p.queues p.moment t ++ limit_tests false t.resource_limits) (other_tests t.others) front.1 in
    let limits = refusal-append (command_tests t ++ path_tests p.queues t ++ slot_tests p.total p.queues p.moment t) (limit_tests false t.resource_limits) job.0 in
    let slots = refusal-append (command_tests t ++ path_tests p.queues t) (slot_tests p.total p.queues p.moment t) limits.0 in
    let named = no_test first (second ∷ rest) all.1 in
    record { bulk = front.0; slots = slots.1; limits = limits.1; named = named.0; room = (no_test second rest named.1).1 }

-- the slots that a job asks for have a meaning
pub record HasSlotRange (t : JobTemplate) : Type 0 where
  pub least : 1 ≤ min_slots t
  pub range : min_slots t ≤ max_slots t

has-slot_range : (slots : ℕ) (queues : List QueueSpec) (now : ℕ) (t : JobTemplate) → first_refusal (slot_tests slots queues now t) ≡ None → HasSlotRange t
has-slot_range slots queues now t free =
    let third : Bool × Refusal = (is_bad_deadline now t, InvalidArgument which.DeadlineTime) in
    let second : Bool × Refusal = (ltb (max_slots t) (min_slots t), InvalidArgument which.MaxSlots) in
    let one = no_test (is_bad_least slots queues t, InvalidArgument which.MinSlots) (second ∷ third ∷ []) free in
    let two = no_test second (third ∷ []) one.1 in
    let some = eqb-false (min_slots t) 0 (or_parts (eqb (min_slots t) 0) (ltb slots (min_slots t)) (or_parts ((eqb (min_slots t) 0) || ltb slots (min_slots t)) (option_map_or (λ (limit : ℕ). ltb limit (min_slots t)) (queue_limit queues t) false) one.0).0).0 in
    record { least = omega arith; range = ltb-false (max_slots t) (min_slots t) two.0 }

limit-some : (ls : List ResourceLimit) → first_refusal (limit_tests false ls) ≡ None → IfSome (option_map (λ (l : ResourceLimit). l.value) (find is_wallclock ls)) (λ (seconds : ℕ). 1 ≤ seconds)
limit-some [] free = tt
limit-some (l ∷ ls) free =
    let second : Bool × Refusal = ((eqb l.value 0) || false, InvalidArgument which.ResourceLimits) in
    let more : List (Bool × Refusal) = limit_tests (false || is_wallclock l) ls in
    let one = no_test (not (is_wallclock l), other_limit l.name) (second ∷ more) free in
    let two = no_test second more one.1 in
    let is : is_wallclock l ≡ true = not-false (is_wallclock l) one.0 in
    let some = eqb-false l.value 0 (or_parts (eqb l.value 0) false two.0).0 in
    let least : 1 ≤ l.value = omega arith in
    subst (λ (b : Bool). IfSome (option_map (λ (k : ResourceLimit). k.value) (cond b (Some l) (find is_wallclock ls))) (λ (seconds : ℕ). 1 ≤ seconds)) (sym is) least

accepted-below : (rs : List Accepted) (n : ReservationId) (next : ℕ) → is_accepted rs n ≡ true → AllByRecursion (λ (a : Accepted). reservation_number a < next) rs → n.0 < next
accepted-below [] n next is all = absurd (cc)
accepted-below (a ∷ rs) n next is all =
    (elim (eqb a.reservation.0 n.0) as (λ b. eqb a.reservation.0 n.0 ≡ b → is_some (cond b (Some a) (find (λ (r : Accepted). eqb r.reservation.0 n.0) rs)) ≡ true → n.0 < next) [
      | true ↦ λ e h. subst (λ (m : ℕ). m < next) (eqb-true a.reservation.0 n.0 e) all.0
      | false ↦ λ e h. accepted-below rs n next h all.1
    ]) refl is

named-below : (o : Option ReservationId) (p : Plan) → IsFit p → option_map_or (λ (number : ReservationId). not (is_accepted p.reservations number)) o false ≡ false → IfSome o (λ (n : ReservationId). n.0 < p.next_reservation)
named-below None p fit free = tt
named-below (Some n) p fit free = accepted-below p.reservations n p.next_reservation (not-false (is_accepted p.reservations n) free) fit.accepted.below

-- each job suits
suits-alone : (t : JobTemplate) (p : Plan) → IsFit p → MaySubmit t None p → AllByRecursion (Suits p.next_reservation None None) (members t None p)
suits-alone t p fit may =
    let slots = has-slot_range p.total p.queues p.moment t may.slots in
    (record { least = slots.least; range = slots.range; limit = limit-some t.resource_limits may.limits; reserved = named-below t.reservation_id p fit may.named; array_is = refl; bound_is = refl }, tt)

suits-members : (t : JobTemplate) (i : Indices) (p : Plan) → IsFit p → MaySubmit t (Some i) p → AllByRecursion (Suits p.next_reservation (Some (record { 0 = p.next_array })) i.bound) (members t (Some i) p)
suits-members t i p fit may =
    let slots = has-slot_range p.total p.queues p.moment t may.slots in
    let Fits : Member → Type 0 = Suits p.next_reservation (Some (record { 0 = p.next_array })) i.bound in
    let made : ℕ → Member = λ index. record { template = expanded index t; membership = membership i p index } in
    all-map Fits made (indices_of i)
    (all-each (λ (index : ℕ). Fits (made index)) (λ index. record {
      least = slots.least;
      range = slots.range;
      limit = limit-some t.resource_limits may.limits;
      reserved = named-below t.reservation_id p fit may.named;
      array_is = refl;
      bound_is = refl;
    }) (indices_of i))

-- ---- a new array

more-arrays : (n k : ℕ) (o : Option ArrayId) → IfSome o (λ (a : ArrayId). a.0 < n) → IfSome o (λ (a : ArrayId). a.0 < n + k)
more-arrays n k None h = tt
more-arrays n k (Some a) h = omega arith

arrays-fit : (p : Plan) (k : ℕ) → IsFit p → IsFit (record p { next_array = p.next_array + k })
arrays-fit p k fit = record {
  within = fit.within;
  sound = fit.sound;
  jobs = fit.jobs;
  reserved = fit.reserved;
  arrays = all-implied (λ (r : Row). IfSome r.wants.array (λ (a : ArrayId). a.0 < p.next_array)) (λ (r : Row). IfSome r.wants.array (λ (a : ArrayId). a.0 < p.next_array + k)) (λ r h. more-arrays p.next_array k r.wants.array h) p.rows fit.arrays;
  attempts = fit.attempts;
  asked = fit.asked;
  loads = fit.loads;
  books = fit.books;
  inside = fit.inside;
  queued = fit.queued;
  bounds = fit.bounds;
  alike = fit.alike;
  accepted = fit.accepted;
  dispatched = fit.dispatched;
}

-- no job is a member of an array that is yet to come
member-none : (n held : ℕ) (o : Option ArrayId) → IfSome o (λ (a : ArrayId). a.0 < n) → cond {A = ℕ} (option_map_or (λ (a : ArrayId). eqb a.0 n) o false && ltb 0 held) 1 0 ≡ 0
member-none n held None h = refl
member-none n held (Some a) h =
    (elim (eqb a.0 n) as (λ b. eqb a.0 n ≡ b → cond {A = ℕ} (b && ltb 0 held) 1 0 ≡ 0) [
      | true ↦ λ e. (let same = eqb-true a.0 n e in absurd (omega arith))
      | false ↦ λ e. refl
    ]) refl

array-none : (n : ℕ) (rows : List Row) → AllByRecursion (λ (r : Row). IfSome r.wants.array (λ (a : ArrayId). a.0 < n)) rows → in_array (record { 0 = n }) rows ≡ 0
array-none n [] all = refl
array-none n (r ∷ rows) all =
    let here : holds_in (record { 0 = n }) r ≡ 0 = member-none n r.course.held r.wants.array all.0 in
    omega (arith, here, array-none n rows all.1, sum_by-cons (holds_in (record { 0 = n })) r rows)

new-young : (p : Plan) (bound : Option ℕ) → IsFit p → IsYoung (record { 0 = p.next_array }) bound (record p { next_array = p.next_array + 1 })
new-young p bound fit = record {
  below = omega arith;
  none = array-none p.next_array p.rows fit.arrays;
  bounds = all-implied (λ (r : Row). IfSome r.wants.array (λ (a : ArrayId). a.0 < p.next_array)) (λ (r : Row). r.wants.array ≡ Some (record { 0 = p.next_array }) → r.wants.bound ≡ bound)
      (λ r h e. (let below : p.next_array < p.next_array = subst (λ (o : Option ArrayId). IfSome o (λ (a : ArrayId). a.0 < p.next_array)) e h in absurd (omega arith))) p.rows fit.arrays;
}

-- ---- the submission

-- the rows that are added are as many as the jobs
submitted-joined : (home : ℕ) (p : Plan) (indices : Option Indices) (ms : List Member) → all_joined home p (record p { next_array = p.next_array + arrays_used indices }) ms ≡ with_rows (new_rows home p p.next_job ms) indices p
submitted-joined home p indices ms =
    ap (λ (n : ℕ). record p { rows = p.rows ++ new_rows home p p.next_job ms; next_job = p.next_job + n; next_array = p.next_array + arrays_used indices }) (sym (length-new home p p.next_job ms))

submit-fit : (home : ℕ) (t : JobTemplate) (indices : Option Indices) (p : Plan) → IsFit p → MaySubmit t indices p → IsFit (with_rows (new_rows home p p.next_job (members t indices p)) indices p)
submit-fit home t None p fit may =
    subst IsFit (submitted-joined home p None (members t None p))
    (join-alone home p (record p { next_array = p.next_array + 0 }) (members t None p) (arrays-fit p 0 fit) (suits-alone t p fit may))
submit-fit home t (Some i) p fit may =
    subst IsFit (submitted-joined home p (Some i) (members t (Some i) p))
    (join-members home p (record p { next_array = p.next_array + 1 }) (record { 0 = p.next_array }) i.bound (members t (Some i) p) (arrays-fit p 1 fit) (new-young p i.bound fit) (suits-members t i p fit may))

pub submit-keeps : (home : ℕ) (t : JobTemplate) (indices : Option Indices) → KeepsFit (submit home t indices)
submit-keeps home t indices = record { keeps = λ entry p fit free. submit-fit home t indices p fit (may-submit t indices p free) }

-- ---- how many jobs a submission has

length-indices : (begin step count : ℕ) → length (indices_from begin step count) ≡ count
length-indices begin step zero = refl
length-indices begin step (suc count) = omega (arith, length-indices (begin + step) step count)

-- an array has a member for each index
pub length-members : (t : JobTemplate) (i : Indices) (p : Plan) → length (members t (Some i) p) ≡ index_count i
length-members t i p = length-map (indices_of i) (λ index. record { template = expanded index t; membership = membership i p index }) ∙ length-indices i.begin i.step (index_count i)

-- a submission has at least one job, and at most 10,000
pub submit-count : (t : JobTemplate) (indices : Option Indices) (p : Plan) → MaySubmit t indices p → (1 ≤ length (members t indices p)) × (length (members t indices p) ≤ most_members)
submit-count t None p may = (omega arith, omega arith)
submit-count t (Some i) p may =
    let third : Bool × Refusal = (ltb most_members (index_count i), OutOfResource resource.BulkMembers) in
    let second : Bool × Refusal = (option_map_or (λ (bound : ℕ). eqb bound 0) i.bound false, InvalidArgument which.MaxParallel) in
    let one = no_test ((eqb i.begin 0) || ltb i.end i.begin || (eqb i.step 0), InvalidArgument which.Indices) (second ∷ third ∷ []) may.bulk in
    let three = no_test third [] (no_test second (third ∷ []) one.1).1 in
    let few = ltb-false most_members (index_count i) three.0 in
    let same = length-members t i p in
    (omega arith, omega arith)
