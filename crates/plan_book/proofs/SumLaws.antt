-- What rows come to as rows come in and go on.
use Rattle.std.proofs.Common.{◌≡◌, ℕ, suc, ◌+◌, ◌*◌, ◌<◌, ◌≤◌, ◌^◌, ◌&&◌, Bool, true, false, cond, List, [], ◌∷◌, ◌++◌, map, length, get_or, sum_by, Some, refl, sym, ◌∙◌, ap, subst, arith, length-append}
use Rattle.std.specs.List.{AllByRecursion, remove}
use Rattle.std.proofs.lemmas.List.{length-map}
use Rattle.std.proofs.lemmas.List.Edits.{length-remove}
use Rattle.std.proofs.lemmas.List.Sums.{sum_by-cons, sum_by-append, sum_by_push, sum_by-remove}
use Rattle.drmaa_types.specs.States.{is_waiting, is_started}
use Rattle.drmaa_types.specs.declared.identifiers.JobId.{JobId}
use Rattle.drmaa_model.specs.declared.courses.Course.{Course}
use Rattle.drmaa_model.specs.declared.courses.Phase.{Phase}
use Rattle.drmaa_model.specs.declared.courses.Phase.TheVariants.{Idle, Launching, Alive}
use Rattle.drmaa_model.specs.declared.rows.Row.{Row}
use Rattle.drmaa_model.specs.Courses.{is_unasked}
use Rattle.drmaa_model.specs.Fit.{IsRising, number_of}
use Rattle.drmaa_model.specs.Rows.{row_of, with_course}
use Rattle.drmaa_model.specs.RowLaws.{all-implied, all-map, all-push, all_with_course, sum_with_course, sum-found}
use Rattle.drmaa_model.specs.Size.{phase_room, room_of}
use Rattle.drmaa_model.specs.TimeLaws.{sum-kept}
use Rattle.plan_book.specs.declared.sums.Sums.{Sums}
use Rattle.plan_book.specs.Owed.{owes, owes_kill, reports_due}
use Rattle.plan_book.specs.Sums.{AreSums, AreFew, AreParts, with_job, with_others, without_job}
use Rattle.plan_book.proofs.Searched.{all-removed}

-- ---- the sums of few rows are small

sum-most : (f : Row → ℕ) (most : ℕ) (rows : List Row) → AllByRecursion (λ row. f row ≤ most) rows → sum_by f rows ≤ length rows * most
sum-most f most [] all = omega arith
sum-most f most (row ∷ rows) all =
    let rest = sum-most f most rows all.1 in
    let cons = sum_by-cons f row rows in
    subst (λ n. n ≤ suc (length rows) * most) (sym cons) (omega (arith, rest, all.0))

all-are : (P : Row → Type 0) → ((row : Row) → P row) → (rows : List Row) → AllByRecursion P rows
all-are P each [] = tt
all-are P each (row ∷ rows) = (each row, all-are P each rows)

phase-most : (waits : Bool) (phase : Phase) → cond waits 1 (phase_room phase) ≤ 4
phase-most true phase = omega arith
phase-most false Idle = omega arith
phase-most false Launching = omega arith
phase-most false Alive = omega arith

owes-most : (waits starts : Bool) → cond {A = ℕ} waits 1 (cond starts 2 0) ≤ 2
owes-most true starts = omega arith
owes-most false true = omega arith
owes-most false false = omega arith

due-most : (phase : Phase) → reports_due phase ≤ 2
due-most Idle = omega arith
due-most Launching = omega arith
due-most Alive = omega arith

asks-most : (asks : Bool) → cond {A = ℕ} asks 1 0 ≤ 1
asks-most true = omega arith
asks-most false = omega arith

pub sums-few : (rows : List Row) (sums : Sums) → length rows < 2 ^ 72 → AreSums rows sums → AreFew sums
sums-few rows sums few are =
    let room = sum-most (λ (row : Row). room_of row.course) 4 rows (all-are (λ row. room_of row.course ≤ 4) (λ row. phase-most (is_waiting row.course.state) row.course.phase) rows) in
    let changes = sum-most (λ (row : Row). owes row.course) 2 rows (all-are (λ row. owes row.course ≤ 2) (λ row. owes-most (is_waiting row.course.state) (is_started row.course.state)) rows) in
    let orders = sum-most (λ (row : Row). owes_kill row.course) 1 rows (all-are (λ row. owes_kill row.course ≤ 1) (λ row. asks-most (is_started row.course.state && is_unasked row.course.kill)) rows) in
    let slots = sum-most (λ (row : Row). row.course.held) 4294967296 rows (all-implied (λ row. row.course.held < 2 ^ 32) (λ row. row.course.held ≤ 4294967296) (λ row less. omega (arith, less)) rows are.small) in
    let reports = sum-most (λ (row : Row). reports_due row.course.phase) 2 rows (all-are (λ row. reports_due row.course.phase ≤ 2) (λ row. due-most row.course.phase) rows) in
    record {
      promised = omega (arith, few, room, are.promised);
      owed = omega (arith, few, changes, are.owed);
      owed_kills = omega (arith, few, orders, are.owed_kills);
      held = omega (arith, few, slots, are.held);
      reports = omega (arith, few, reports, are.reports);
      count = omega (arith, few, are.count);
    }

one-each : (rows : List Row) → sum_by (λ (row : Row). 1) rows ≡ length rows
one-each [] = refl
one-each (row ∷ rows) = omega (arith, one-each rows, sum_by-cons (λ (r : Row). 1) row rows)

-- ---- rows come in

pub sums-push : (rows : List Row) (row : Row) (sums : Sums) → row.course.held < 2 ^ 32 → AreSums rows sums → AreSums (rows ++ row ∷ []) (with_job sums row.course)
sums-push rows row sums small are = record {
  promised = ap (λ n. n + room_of row.course) are.promised ∙ sym (sum_by_push (λ (r : Row). room_of r.course) rows row);
  owed = ap (λ n. n + owes row.course) are.owed ∙ sym (sum_by_push (λ (r : Row). owes r.course) rows row);
  owed_kills = ap (λ n. n + owes_kill row.course) are.owed_kills ∙ sym (sum_by_push (λ (r : Row). owes_kill r.course) rows row);
  held = ap (λ n. n + row.course.held) are.held ∙ sym (sum_by_push (λ (r : Row). r.course.held) rows row);
  reports = ap (λ n. n + reports_due row.course.phase) are.reports ∙ sym (sum_by_push (λ (r : Row). reports_due r.course.phase) rows row);
  count = omega (arith, are.count, length-append rows (row ∷ []));
  small = all-push (λ r. r.course.held < 2 ^ 32) rows row are.small small;
}

pub all-append : (P : Row → Type 0) (rows more : List Row) → AllByRecursion P rows → AllByRecursion P more → AllByRecursion P (rows ++ more)
all-append P [] more all others = others
all-append P (row ∷ rows) more all others = (all.0, all-append P rows more all.1 others)

pub sums-append : (rows more : List Row) (sums added : Sums) → AreSums rows sums → AreSums more added → AreSums (rows ++ more) (with_others sums added)
sums-append rows more sums added are others = record {
  promised = omega (arith, are.promised, others.promised, sum_by-append (λ (r : Row). room_of r.course) rows more);
  owed = omega (arith, are.owed, others.owed, sum_by-append (λ (r : Row). owes r.course) rows more);
  owed_kills = omega (arith, are.owed_kills, others.owed_kills, sum_by-append (λ (r : Row). owes_kill r.course) rows more);
  held = omega (arith, are.held, others.held, sum_by-append (λ (r : Row). r.course.held) rows more);
  reports = omega (arith, are.reports, others.reports, sum_by-append (λ (r : Row). reports_due r.course.phase) rows more);
  count = omega (arith, are.count, others.count, length-append rows more);
  small = all-append (λ r. r.course.held < 2 ^ 32) rows more are.small others.small;
}

-- ---- all jobs go on, each with its course

pub sums-map : (f : Row → Row) → ((row : Row) → (f row).course ≡ row.course) → (rows : List Row) (sums : Sums) → AreSums rows sums → AreSums (map f rows) sums
sums-map f same rows sums are = record {
  promised = are.promised ∙ sym (sum-kept (λ (r : Row). room_of r.course) f (λ row. ap room_of (same row)) rows);
  owed = are.owed ∙ sym (sum-kept (λ (r : Row). owes r.course) f (λ row. ap owes (same row)) rows);
  owed_kills = are.owed_kills ∙ sym (sum-kept (λ (r : Row). owes_kill r.course) f (λ row. ap owes_kill (same row)) rows);
  held = are.held ∙ sym (sum-kept (λ (r : Row). r.course.held) f (λ row. ap (λ (c : Course). c.held) (same row)) rows);
  reports = are.reports ∙ sym (sum-kept (λ (r : Row). reports_due r.course.phase) f (λ row. ap (λ (c : Course). reports_due c.phase) (same row)) rows);
  count = are.count ∙ sym (length-map rows f);
  small = all-map (λ r. r.course.held < 2 ^ 32) f rows (all-implied (λ (r : Row). r.course.held < 2 ^ 32) (λ (r : Row). (f r).course.held < 2 ^ 32) (λ r less. subst (λ (c : Course). c.held < 2 ^ 32) (sym (same r)) less) rows are.small);
}

-- ---- one job goes on

module _ (job : JobId) (course : Course) (rows : List Row) (row : Row) (sums : Sums) (rising : IsRising number_of rows) (found : row_of job rows ≡ Some row) (are : AreSums rows sums) where
  part : (f : Course → ℕ) → f row.course ≤ sum_by (λ (r : Row). f r.course) rows
  part f = sum-found (λ (r : Row). f r.course) job rows row found

  sum-then : (f : Course → ℕ) → sum_by (λ (r : Row). f r.course) (map (with_course job course) rows) + f row.course ≡ sum_by (λ (r : Row). f r.course) rows + f course
  sum-then f = sum_with_course job course (λ (r : Row). f r.course) rows row rising found

  pub sums-parts : AreParts row.course sums
  sums-parts = record {
    promised = omega (arith, part room_of, are.promised);
    owed = omega (arith, part owes, are.owed);
    owed_kills = omega (arith, part owes_kill, are.owed_kills);
    held = omega (arith, part (λ c. c.held), are.held);
    reports = omega (arith, part (λ c. reports_due c.phase), are.reports);
    count = omega (arith, sum-found (λ (r : Row). 1) job rows row found, one-each rows, are.count);
  }

  pub sums-change : course.held < 2 ^ 32 → AreSums (map (with_course job course) rows) (with_job (without_job row.course sums) course)
  sums-change small = record {
    promised = omega (arith, part room_of, sum-then room_of, are.promised);
    owed = omega (arith, part owes, sum-then owes, are.owed);
    owed_kills = omega (arith, part owes_kill, sum-then owes_kill, are.owed_kills);
    held = omega (arith, part (λ c. c.held), sum-then (λ c. c.held), are.held);
    reports = omega (arith, part (λ c. reports_due c.phase), sum-then (λ c. reports_due c.phase), are.reports);
    count = omega (arith, sum-found (λ (r : Row). 1) job rows row found, one-each rows, are.count, length-map rows (with_course job course));
    small = all_with_course job course (λ r. r.course.held < 2 ^ 32) rows row rising found are.small small;
  }

-- ---- one job is forgotten

module _ (rows : List Row) (place : ℕ) (row : Row) (sums : Sums) (within : place < length rows) (is : row ≡ get_or rows place row) (are : AreSums rows sums) where
  sum-without : (f : Course → ℕ) → sum_by (λ (r : Row). f r.course) (remove rows place) + f row.course ≡ sum_by (λ (r : Row). f r.course) rows
  sum-without f = omega (arith, sum_by-remove (λ (r : Row). f r.course) rows place row within, ap (λ (r : Row). f r.course) is)

  pub removed-parts : AreParts row.course sums
  removed-parts = record {
    promised = omega (arith, sum-without room_of, are.promised);
    owed = omega (arith, sum-without owes, are.owed);
    owed_kills = omega (arith, sum-without owes_kill, are.owed_kills);
    held = omega (arith, sum-without (λ c. c.held), are.held);
    reports = omega (arith, sum-without (λ c. reports_due c.phase), are.reports);
    count = omega (arith, length-remove rows place within, are.count);
  }

  without : AreSums (remove rows place) (without_job row.course sums)
  without = record {
    promised = omega (arith, sum-without room_of, are.promised);
    owed = omega (arith, sum-without owes, are.owed);
    owed_kills = omega (arith, sum-without owes_kill, are.owed_kills);
    held = omega (arith, sum-without (λ c. c.held), are.held);
    reports = omega (arith, sum-without (λ c. reports_due c.phase), are.reports);
    count = omega (arith, length-remove rows place within, are.count);
    small = all-removed number_of (λ r. r.course.held < 2 ^ 32) rows place are.small;
  }

  pub sums-removed : (left : List Row) (sums' : Sums) → left ≡ remove rows place → sums' ≡ without_job row.course sums → AreSums left sums'
  sums-removed left sums' gone less = subst (λ (rs : List Row). AreSums rs sums') (sym gone) (subst (λ (s : Sums). AreSums (remove rows place) s) (sym less) without)
