-- What groups have in use as jobs come in, go on and leave.
use Rattle.std.proofs.Common.{◌≡◌, ℕ, ◌+◌, ◌<◌, ◌&&◌, ◌++◌, ◌∷◌, Bool, true, false, cond, not, List, [], map, filter, length, get_or, sum_by, Some, refl, sym, ◌∙◌, ap, subst, arith}
use Rattle.std.specs.Prelude.{nat_lt}
use Rattle.std.specs.List.{AllByRecursion, remove}
use Rattle.std.proofs.lemmas.List.Sums.{sum_by_push, sum_by-remove}
use Rattle.drmaa_types.specs.declared.identifiers.JobId.{JobId}
use Rattle.drmaa_types.specs.declared.states.Control.{Control}
use Rattle.drmaa_model.specs.declared.calls.Target.{Target}
use Rattle.drmaa_model.specs.declared.courses.Course.{Course}
use Rattle.drmaa_model.specs.declared.reservations.Accepted.{Accepted}
use Rattle.drmaa_model.specs.declared.rows.Row.{Row}
use Rattle.drmaa_model.specs.Controlling.{control_step, is_done}
use Rattle.drmaa_model.specs.ControlLaws.{control-job, eases-control}
use Rattle.drmaa_model.specs.Effects.{left_by}
use Rattle.drmaa_model.specs.Fit.{IsRising, IsSound, number_of}
use Rattle.drmaa_model.specs.FitLaws.{Eases, array-eased, inside-eased, queue-eased, eases-lapsed, eases-called}
use Rattle.drmaa_model.specs.Load.{held_in_queue, is_in_queue, is_member, names}
use Rattle.drmaa_model.specs.RowLaws.{all-implied, all-map, sum_with_course}
use Rattle.drmaa_model.specs.Rows.{row_of, with_course}
use Rattle.drmaa_model.specs.Time.{lapsed, called_in}
use Rattle.drmaa_model.specs.TimeLaws.{timed, called-job, lapsed-job, map-twice, sum-kept}
use Rattle.plan_book.specs.declared.usage.GroupUsage.{GroupUsage}
use Rattle.plan_book.specs.declared.usage.Usage.{Usage}
use Rattle.plan_book.specs.Usage.{AreUsed, Exchanges, IsUsed, Passes, holding, in_array_of, in_reservation_of}
use Rattle.plan_book.proofs.ArrivalLaws.{left-idle}

-- ---- a job that holds no slots has nothing in use

none-or : (b : Bool) → cond {A = ℕ} b 0 0 ≡ 0
none-or true = refl
none-or false = refl

none-both : (b : Bool) → cond {A = ℕ} (b && false) 1 0 ≡ 0
none-both true = refl
none-both false = refl

idle-array : (n : ℕ) (row : Row) → row.course.held ≡ 0 → in_array_of n row ≡ 0
idle-array n row idle =
    let b = is_member (record { 0 = n }) row in
    ap (λ h. cond {A = ℕ} (b && nat_lt 0 h) 1 0) idle ∙ none-both b

idle-queue : (n : ℕ) (row : Row) → row.course.held ≡ 0 → held_in_queue n row ≡ 0
idle-queue n row idle = (let b = is_in_queue n row in ap (λ h. cond b h 0) idle ∙ none-or b)

idle-reservation : (n : ℕ) (row : Row) → row.course.held ≡ 0 → in_reservation_of n row ≡ 0
idle-reservation n row idle = (let b = names (record { 0 = n }) row in ap (λ h. cond b h 0) idle ∙ none-or b)

-- ---- of one kind of groups

-- the sums stay
used-same : (part : ℕ → Row → ℕ) (rows next : List Row) (usage : GroupUsage) → ((n : ℕ) → sum_by (part n) next ≡ sum_by (part n) rows) → IsUsed part rows usage → IsUsed part next usage
used-same part rows next usage same is = λ whole group. is whole group ∙ sym (same group)

-- they go on by one job
used-then : (part : ℕ → Row → ℕ) (rows next : List Row) (before after : Row) (old new : GroupUsage)
    → ((n : ℕ) → sum_by (part n) next + part n before ≡ sum_by (part n) rows + part n after) → Exchanges (λ n. part n before) (λ n. part n after) old new
    → IsUsed part rows old → IsUsed part next new
used-then part rows next before after old new sums passes is = λ whole group.
    (let both = passes whole in
    omega (arith, both.1 group, is both.0 group, sums group))

-- ---- of all

-- jobs that keep what they want and what they hold
used-eased : (f : Row → Row) → ((row : Row) → (f row).job ≡ row.job) → (rows : List Row) (usage : Usage) → AllByRecursion (λ row. Eases row (f row)) rows → AreUsed rows usage → AreUsed (map f rows) usage
used-eased f same rows usage eases are = record {
  arrays = used-same in_array_of rows (map f rows) usage.arrays (λ n. array-eased f same rows eases (record { 0 = n })) are.arrays;
  queues = used-same held_in_queue rows (map f rows) usage.queues (λ n. queue-eased f same rows eases n) are.queues;
  reservations = used-same in_reservation_of rows (map f rows) usage.reservations (λ n. inside-eased f same rows eases (record { 0 = n })) are.reservations;
}

abbrev Sound : Row → Type 0
Sound row = IsSound row.wants row.course

pub used-timed : (m : ℕ) (rs : List Accepted) (rows : List Row) (usage : Usage) → AllByRecursion (λ (row : Row). IsSound row.wants row.course) rows → AreUsed rows usage → AreUsed (map (timed m rs) rows) usage
used-timed m rs rows usage sound are =
    let f = lapsed m rs in
    let h = called_in m rs in
    let first : AllByRecursion (λ row. Eases row (f row)) rows = all-implied Sound (λ row. Eases row (f row)) (eases-lapsed m rs) rows sound in
    let sound' : AllByRecursion Sound (map f rows) = all-map Sound f rows (all-implied (λ row. Eases row (f row)) (λ row. Sound (f row)) (λ row e. e.sound) rows first) in
    let second : AllByRecursion (λ row. Eases row (h row)) (map f rows) = all-implied Sound (λ row. Eases row (h row)) (eases-called m rs) (map f rows) sound' in
    subst (λ (xs : List Row). AreUsed xs usage) (sym (map-twice h f rows)) (used-eased h (called-job m rs) (map f rows) usage second (used-eased f (lapsed-job m rs) rows usage first are))

pub used-step : (m : ℕ) (t : Target) (what : Control) (rows : List Row) (usage : Usage) → AllByRecursion (λ (row : Row). IsSound row.wants row.course) rows → AreUsed rows usage → AreUsed (map (control_step m t what) rows) usage
used-step m t what rows usage sound are =
    used-eased (control_step m t what) (control-job m t what) rows usage (all-implied Sound (λ row. Eases row (control_step m t what row)) (eases-control m t what) rows sound) are

pub used-homeless : (gone : ℕ) (rows : List Row) (usage : Usage) → AreUsed rows usage → AreUsed (map (λ (row : Row). record row { home = left_by gone row.home }) rows) usage
used-homeless gone rows usage are =
    (let f : Row → Row = λ (row : Row). record row { home = left_by gone row.home } in
    record {
      arrays = used-same in_array_of rows (map f rows) usage.arrays (λ n. sum-kept (in_array_of n) f (λ row. refl) rows) are.arrays;
      queues = used-same held_in_queue rows (map f rows) usage.queues (λ n. sum-kept (held_in_queue n) f (λ row. refl) rows) are.queues;
      reservations = used-same in_reservation_of rows (map f rows) usage.reservations (λ n. sum-kept (in_reservation_of n) f (λ row. refl) rows) are.reservations;
    })

-- ended ones leave, which hold none
pub used-left : (meant : Row → Bool) (rows : List Row) (usage : Usage) → AllByRecursion (λ (row : Row). IsSound row.wants row.course) rows → AreUsed rows usage
    → AreUsed (filter (λ (row : Row). not (meant row && is_done row)) rows) usage
used-left meant rows usage sound are =
    (let next = filter (λ (row : Row). not (meant row && is_done row)) rows in
    record {
      arrays = used-same in_array_of rows next usage.arrays (λ n. left-idle meant rows sound (in_array_of n) (idle-array n)) are.arrays;
      queues = used-same held_in_queue rows next usage.queues (λ n. left-idle meant rows sound (held_in_queue n) (idle-queue n)) are.queues;
      reservations = used-same in_reservation_of rows next usage.reservations (λ n. left-idle meant rows sound (in_reservation_of n) (idle-reservation n)) are.reservations;
    })

-- ---- one job's slots are others

pub used-course : (job : JobId) (course : Course) (rows : List Row) (row : Row) (old new : Usage) → IsRising number_of rows → row_of job rows ≡ Some row
    → Passes (holding row.course.held row) (holding course.held row) old new → AreUsed rows old → AreUsed (map (with_course job course) rows) new
used-course job course rows row old new rising found passes are =
    let next = map (with_course job course) rows in
    let sums : (f : Row → ℕ) → sum_by f next + f row ≡ sum_by f rows + f (record row { course = course }) = λ f. sum_with_course job course f rows row rising found in
    record {
      arrays = used-then in_array_of rows next row (record row { course = course }) old.arrays new.arrays (λ n. sums (in_array_of n)) passes.arrays are.arrays;
      queues = used-then held_in_queue rows next row (record row { course = course }) old.queues new.queues (λ n. sums (held_in_queue n)) passes.queues are.queues;
      reservations = used-then in_reservation_of rows next row (record row { course = course }) old.reservations new.reservations (λ n. sums (in_reservation_of n)) passes.reservations are.reservations;
    }

pub used-push : (rows : List Row) (row : Row) (old new : Usage) → Passes (holding 0 row) (holding row.course.held row) old new → AreUsed rows old → AreUsed (rows ++ row ∷ []) new
used-push rows row old new passes are =
    let next = rows ++ row ∷ [] in
    record {
      arrays = used-then in_array_of rows next (holding 0 row) row old.arrays new.arrays (λ n. omega (arith, sum_by_push (in_array_of n) rows row, idle-array n (holding 0 row) refl)) passes.arrays are.arrays;
      queues = used-then held_in_queue rows next (holding 0 row) row old.queues new.queues (λ n. omega (arith, sum_by_push (held_in_queue n) rows row, idle-queue n (holding 0 row) refl)) passes.queues are.queues;
      reservations = used-then in_reservation_of rows next (holding 0 row) row old.reservations new.reservations (λ n. omega (arith, sum_by_push (in_reservation_of n) rows row, idle-reservation n (holding 0 row) refl)) passes.reservations are.reservations;
    }

pub used-removed : (rows : List Row) (place : ℕ) (row : Row) (old new : Usage) → place < length rows → row ≡ get_or rows place row
    → Passes (holding row.course.held row) (holding 0 row) old new → AreUsed rows old → AreUsed (remove rows place) new
used-removed rows place row old new within is passes are =
    let next = remove rows place in
    let without : (f : Row → ℕ) → sum_by f next + f row ≡ sum_by f rows = λ f. omega (arith, sum_by-remove f rows place row within, ap f is) in
    record {
      arrays = used-then in_array_of rows next row (holding 0 row) old.arrays new.arrays (λ n. omega (arith, without (in_array_of n), idle-array n (holding 0 row) refl)) passes.arrays are.arrays;
      queues = used-then held_in_queue rows next row (holding 0 row) old.queues new.queues (λ n. omega (arith, without (held_in_queue n), idle-queue n (holding 0 row) refl)) passes.queues are.queues;
      reservations = used-then in_reservation_of rows next row (holding 0 row) old.reservations new.reservations (λ n. omega (arith, without (in_reservation_of n), idle-reservation n (holding 0 row) refl)) passes.reservations are.reservations;
    }
