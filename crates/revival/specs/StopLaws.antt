-- The end of one started job more: what it does to rows, and to a world.
use Rattle.std.proofs.Common.{◌≡◌, ◌≢◌, ℕ, ◌+◌, ◌<◌, ◌≤◌, Bool, true, false, cond, eqb, leb, ltb, not, List, [], ◌∷◌, ◌++◌, map, filter, Some, None, refl, sym, ◌∙◌, ap, subst, arith}
use Rattle.std.specs.Prelude.{find}
use Rattle.std.specs.List.{AllByRecursion}
use Rattle.std.proofs.lemmas.Bool.{and_from, and_left, and_right, ltb-true, ltb-false, lt-ltb, le-ltb, le-leb, eq-eqb, ne_eqb}
use Rattle.drmaa_types.specs.States.{is_started, rerun_code}
use Rattle.drmaa_types.specs.declared.identifiers.JobId.{JobId}
use Rattle.drmaa_types.specs.declared.states.Exit.TheVariants.{Code}
use Rattle.drmaa_model.specs.declared.calls.Call.{Call}
use Rattle.drmaa_model.specs.declared.calls.Call.TheVariants as call
use Rattle.drmaa_model.specs.declared.calls.Report.{Report}
use Rattle.drmaa_model.specs.declared.calls.Report.TheVariants as report
use Rattle.drmaa_model.specs.declared.courses.Course.{Course}
use Rattle.drmaa_model.specs.declared.courses.Phase.{Phase}
use Rattle.drmaa_model.specs.declared.courses.Phase.TheVariants.{Idle, Launching, Alive}
use Rattle.drmaa_model.specs.declared.replies.Reply.TheVariants as reply
use Rattle.drmaa_model.specs.declared.rows.Row.{Row}
use Rattle.drmaa_model.specs.AnswerLaws.{served-gives}
use Rattle.drmaa_model.specs.Consistent.{IsConsistent}
use Rattle.drmaa_model.specs.Courses.{exited, lost}
use Rattle.drmaa_model.specs.Effects.{gives}
use Rattle.drmaa_model.specs.Events.{is_started_from, started_from}
use Rattle.drmaa_model.specs.Fit.{IsRising, IsSound, number_of}
use Rattle.drmaa_model.specs.Growth.{is_of_run}
use Rattle.drmaa_model.specs.Moving.{MovesOne, job_of, course_after}
use Rattle.drmaa_model.specs.MoveLaws.{report-moves}
use Rattle.drmaa_model.specs.OperationLaws.{row-sound}
use Rattle.drmaa_model.specs.Plan.{Plan}
use Rattle.drmaa_model.specs.Refusals.{refusal}
use Rattle.drmaa_model.specs.Reporting.{is_idle, may_exit, end_row, lose_row, report_of}
use Rattle.drmaa_model.specs.ReportLaws.{report-free, exited-stops, lost-stops}
use Rattle.drmaa_model.specs.RowLaws.{all-implied, all-map}
use Rattle.drmaa_model.specs.Rows.{row_of, with_course}
use Rattle.drmaa_model.specs.Size.{size}
use Rattle.drmaa_model.specs.Steps.{answer_now}
use Rattle.drmaa_model.specs.WeightLaws.{run-weight}
use Rattle.drmaa_model.specs.World.{World, counted}
use Rattle.revival.specs.Stops.{reruns, stop_call, is_started_row}
use Rattle.revival.specs.Stopping.{course_after_stop, is_over_below, over_below}

-- ---- lists

filter-in : {X : Type 0} (t : X → Bool) (x : X) (xs : List X) → t x ≡ true → filter t (x ∷ xs) ≡ x ∷ filter t xs
filter-in t x xs e = ap (λ b. cond b (x ∷ filter t xs) (filter t xs)) e

filter-out : {X : Type 0} (t : X → Bool) (x : X) (xs : List X) → t x ≡ false → filter t (x ∷ xs) ≡ filter t xs
filter-out t x xs e = ap (λ b. cond b (x ∷ filter t xs) (filter t xs)) e

pub filter-none : {X : Type 0} (t : X → Bool) (xs : List X) → AllByRecursion (λ x. t x ≡ false) xs → filter t xs ≡ []
filter-none t [] all = refl
filter-none t (x ∷ xs) all = filter-out t x xs all.0 ∙ filter-none t xs all.1

find-in : {X : Type 0} (t : X → Bool) (x : X) (xs : List X) → t x ≡ true → find t (x ∷ xs) ≡ Some x
find-in t x xs e = ap (λ b. cond b (Some x) (find t xs)) e

find-out : {X : Type 0} (t : X → Bool) (x : X) (xs : List X) → t x ≡ false → find t (x ∷ xs) ≡ find t xs
find-out t x xs e = ap (λ b. cond b (Some x) (find t xs)) e

pub find-all : {X : Type 0} (P : X → Type 0) (t : X → Bool) (xs : List X) (x : X) → AllByRecursion P xs → find t xs ≡ Some x → P x × (t x ≡ true)
find-all P t [] x all found = absurd (cc)
find-all {X} P t (y ∷ ys) x all found =
    (elim (t y) as (λ b. t y ≡ b → cond b (Some y) (find t ys) ≡ Some x → P x × (t x ≡ true)) [
      | true ↦ λ e same. (let is : y ≡ x = cc in (subst P is all.0, subst (λ (z : X). t z ≡ true) is e))
      | false ↦ λ e same. find-all P t ys x all.1 same
    ]) refl found

pub map-alike : {X Y : Type 0} (f g : X → Y) (xs : List X) → AllByRecursion (λ x. f x ≡ g x) xs → map f xs ≡ map g xs
map-alike f g [] all = refl
map-alike f g (x ∷ xs) all = ap (λ y. y ∷ map f xs) all.0 ∙ ap (λ ys. g x ∷ ys) (map-alike f g xs all.1)

pub map-same : {X : Type 0} (f : X → X) (xs : List X) → AllByRecursion (λ x. f x ≡ x) xs → map f xs ≡ xs
map-same f [] all = refl
map-same f (x ∷ xs) all = ap (λ y. y ∷ map f xs) all.0 ∙ ap (λ ys. x ∷ ys) (map-same f xs all.1)

some-is : (a b : Row) → Some a ≡ Some b → a ≡ b
some-is a b same = cc

-- ---- one row

over-in : (n : ℕ) (r : Row) → is_started_row r ≡ true → r.job.0 < n → is_over_below n r ≡ true
over-in n r started low = and_from (is_started r.course.state) (ltb r.job.0 n) started (lt-ltb r.job.0 n low)

pub over-out : (n : ℕ) (r : Row) → n ≤ r.job.0 → is_over_below n r ≡ false
over-out n r high = and_right (is_started r.course.state) (ltb r.job.0 n) (le-ltb r.job.0 n high)

over-idle : (n : ℕ) (r : Row) → is_started_row r ≡ false → is_over_below n r ≡ false
over-idle n r idle = and_left (is_started r.course.state) (ltb r.job.0 n) idle

goes-over : (n m : ℕ) (r : Row) → is_over_below n r ≡ true → over_below n m r ≡ record r { course = course_after_stop m r }
goes-over n m r is = ap (λ b. cond b (record r { course = course_after_stop m r }) r) is

pub stays : (n m : ℕ) (r : Row) → is_over_below n r ≡ false → over_below n m r ≡ r
stays n m r is = ap (λ b. cond b (record r { course = course_after_stop m r }) r) is

pub over_below-job : (n m : ℕ) (r : Row) → (over_below n m r).job ≡ r.job
over_below-job n m r = elim (is_over_below n r) as (λ b. (cond b (record r { course = course_after_stop m r }) r).job ≡ r.job) [ true ↦ refl | false ↦ refl ]

-- a job whose end was reported is not started
pub stop-ends : (m : ℕ) (r : Row) → is_started (course_after_stop m r).state ≡ false
stop-ends m r =
    elim (reruns r) as (λ b. is_started (cond b (exited m (Code rerun_code) r.wants.rerunnable r.course) (lost m r.wants.rerunnable r.course)).state ≡ false) [
      | true ↦ (exited-stops m (Code rerun_code) r.wants.rerunnable r.course).over.stopped
      | false ↦ (lost-stops m r.wants.rerunnable r.course).over.stopped
    ]

other-course : (job : JobId) (course : Course) (r : Row) → r.job.0 ≢ job.0 → with_course job course r ≡ r
other-course job course r apart = ap (λ b. cond b (record r { course = course }) r) (ne_eqb r.job.0 job.0 apart)

own-course : (job : JobId) (course : Course) (r : Row) → r.job.0 ≡ job.0 → with_course job course r ≡ record r { course = course }
own-course job course r same = ap (λ b. cond b (record r { course = course }) r) (eq-eqb r.job.0 job.0 same)

-- where a job stands when the started ones below a number have ended
data Place (from : ℕ) (r : Row) : Type 0 where
  idle : is_started_row r ≡ false → Place from r
  below : is_started_row r ≡ true → r.job.0 < from → Place from r
  above : is_started_row r ≡ true → from ≤ r.job.0 → Place from r

place : (from : ℕ) (r : Row) → Place from r
place from r =
    (elim (is_started_row r) as (λ b. is_started_row r ≡ b → Place from r) [
      | false ↦ λ e. idle e
      | true ↦ λ e.
          (elim (ltb r.job.0 from) as (λ b. ltb r.job.0 from ≡ b → Place from r) [
            | true ↦ λ lt. below e (ltb-true r.job.0 from lt)
            | false ↦ λ ge. above e (ltb-false r.job.0 from ge)
          ]) refl
    ]) refl

-- one that is not started, or has ended, is passed over
passed-idle : (from m : ℕ) (r : Row) → is_started_row r ≡ false → is_started_from from (over_below from m r) ≡ false
passed-idle from m r e = ap (is_started_from from) (stays from m r (over-idle from r e)) ∙ and_left (is_started r.course.state) (leb from r.job.0) e

passed-below : (from m : ℕ) (r : Row) → is_started_row r ≡ true → r.job.0 < from → is_started_from from (over_below from m r) ≡ false
passed-below from m r e low =
    ap (is_started_from from) (goes-over from m r (over-in from r e low)) ∙ and_left (is_started (course_after_stop m r).state) (leb from r.job.0) (stop-ends m r)

-- one that is started is the first
first-above : (from m : ℕ) (r : Row) → is_started_row r ≡ true → from ≤ r.job.0 → is_started_from from (over_below from m r) ≡ true
first-above from m r e high = ap (is_started_from from) (stays from m r (over-out from r high)) ∙ and_from (is_started r.course.state) (leb from r.job.0) e (le-leb from r.job.0 high)

-- ---- the rows

-- the first started job of a number on ends too
pub record EndsToo (from m : ℕ) (row : Row) (rows : List Row) : Type 0 where
  pub reported : filter (is_over_below (row.job.0 + 1)) rows ≡ filter (is_over_below from) rows ++ row ∷ []
  pub rows_are : map (with_course row.job (course_after_stop m row)) (map (over_below from m) rows) ≡ map (over_below (row.job.0 + 1) m) rows

-- it stands behind a job of a lesser number
behind : (from m n : ℕ) (row : Row) (rows : List Row) → AllByRecursion (λ (s : Row). n < number_of s) rows → started_from from (map (over_below from m) rows) ≡ Some row → n < row.job.0
behind from m n row rows higher found =
    (find-all (λ (s : Row). n < number_of s) (is_started_from from) (map (over_below from m) rows) row
    (all-map (λ (s : Row). n < number_of s) (over_below from m) rows
    (all-implied (λ (s : Row). n < number_of s) (λ (s : Row). n < number_of (over_below from m s)) (λ s h. subst (λ (j : JobId). n < j.0) (sym (over_below-job from m s)) h) rows higher)) found).0

cons-alike : (x y : Row) (xs ys : List Row) → x ≡ y → xs ≡ ys → x ∷ xs ≡ y ∷ ys
cons-alike x y xs ys same rest = cc

pub ends-too : (from m : ℕ) (row : Row) (rows : List Row) → IsRising number_of rows → from ≤ row.job.0 → started_from from (map (over_below from m) rows) ≡ Some row → EndsToo from m row rows
ends-too from m row [] rising low found = absurd (cc)
ends-too from m row (r ∷ rows) rising low found =
    let course = course_after_stop m row in
    let before = map (over_below from m) rows in
    elim (place from r) as (λ q. EndsToo from m row (r ∷ rows)) [
      | idle e ↦
          (let later : started_from from before ≡ Some row = sym (find-out (is_started_from from) (over_below from m r) before (passed-idle from m r e)) ∙ found in
          let rest = ends-too from m row rows rising.1 low later in
          let less = behind from m r.job.0 row rows rising.0 later in
          record {
            reported = filter-out (is_over_below (row.job.0 + 1)) r rows (over-idle (row.job.0 + 1) r e) ∙ rest.reported
                ∙ ap (λ (xs : List Row). xs ++ row ∷ []) (sym (filter-out (is_over_below from) r rows (over-idle from r e)));
            rows_are = cons-alike (with_course row.job course (over_below from m r)) (over_below (row.job.0 + 1) m r) (map (with_course row.job course) before) (map (over_below (row.job.0 + 1) m) rows)
                (ap (with_course row.job course) (stays from m r (over-idle from r e)) ∙ other-course row.job course r (λ same. omega (arith, less, same)) ∙ sym (stays (row.job.0 + 1) m r (over-idle (row.job.0 + 1) r e)))
                rest.rows_are;
          })
      | below e lt ↦
          (let later : started_from from before ≡ Some row = sym (find-out (is_started_from from) (over_below from m r) before (passed-below from m r e lt)) ∙ found in
          let rest = ends-too from m row rows rising.1 low later in
          let more : is_over_below (row.job.0 + 1) r ≡ true = over-in (row.job.0 + 1) r e (omega (arith, lt, low)) in
          record {
            reported = filter-in (is_over_below (row.job.0 + 1)) r rows more ∙ ap (λ (xs : List Row). r ∷ xs) rest.reported
                ∙ ap (λ (xs : List Row). xs ++ row ∷ []) (sym (filter-in (is_over_below from) r rows (over-in from r e lt)));
            rows_are = cons-alike (with_course row.job course (over_below from m r)) (over_below (row.job.0 + 1) m r) (map (with_course row.job course) before) (map (over_below (row.job.0 + 1) m) rows)
                (ap (with_course row.job course) (goes-over from m r (over-in from r e lt)) ∙ other-course row.job course (record r { course = course_after_stop m r }) (λ same. omega (arith, lt, low, same)) ∙ sym (goes-over (row.job.0 + 1) m r more))
                rest.rows_are;
          })
      | above e high ↦
          (let same : over_below from m r ≡ r = stays from m r (over-out from r high) in
          let is : r ≡ row = sym same ∙ some-is (over_below from m r) row (sym (find-in (is_started_from from) (over_below from m r) before (first-above from m r e high)) ∙ found) in
          let number : r.job.0 ≡ row.job.0 = ap (λ (x : Row). x.job.0) is in
          let more : is_over_below (row.job.0 + 1) r ≡ true = over-in (row.job.0 + 1) r e (omega (arith, number)) in
          let none : AllByRecursion (λ (s : Row). is_over_below (row.job.0 + 1) s ≡ false) rows =
          all-implied (λ (s : Row). number_of r < number_of s) (λ (s : Row). is_over_below (row.job.0 + 1) s ≡ false) (λ s h. over-out (row.job.0 + 1) s (omega (arith, h, number))) rows rising.0 in
          let nobody : AllByRecursion (λ (s : Row). is_over_below from s ≡ false) rows =
          all-implied (λ (s : Row). number_of r < number_of s) (λ (s : Row). is_over_below from s ≡ false) (λ s h. over-out from s (omega (arith, h, high))) rows rising.0 in
          let apart : AllByRecursion (λ (s : Row). with_course row.job course s ≡ s) rows =
          all-implied (λ (s : Row). number_of r < number_of s) (λ (s : Row). with_course row.job course s ≡ s) (λ s h. other-course row.job course s (λ one. omega (arith, h, number, one))) rows rising.0 in
          record {
            reported = filter-in (is_over_below (row.job.0 + 1)) r rows more ∙ ap (λ (xs : List Row). r ∷ xs) (filter-none (is_over_below (row.job.0 + 1)) rows none) ∙ ap (λ (x : Row). x ∷ []) is
                ∙ ap (λ (xs : List Row). xs ++ row ∷ []) (sym (filter-out (is_over_below from) r rows (over-out from r high) ∙ filter-none (is_over_below from) rows nobody));
            rows_are = cons-alike (with_course row.job course (over_below from m r)) (over_below (row.job.0 + 1) m r) (map (with_course row.job course) before) (map (over_below (row.job.0 + 1) m) rows)
                (ap (with_course row.job course) same ∙ own-course row.job course r number ∙ ap (λ (x : Row). record r { course = course_after_stop m x }) (sym is) ∙ sym (goes-over (row.job.0 + 1) m r more))
                (ap (map (with_course row.job course)) (map-same (over_below from m) rows (all-implied (λ (s : Row). is_over_below from s ≡ false) (λ (s : Row). over_below from m s ≡ s) (stays from m) rows nobody))
                ∙ map-same (with_course row.job course) rows apart
                ∙ sym (map-same (over_below (row.job.0 + 1) m) rows (all-implied (λ (s : Row). is_over_below (row.job.0 + 1) s ≡ false) (λ (s : Row). over_below (row.job.0 + 1) m s ≡ s) (stays (row.job.0 + 1) m) rows none)));
          })
    ]

-- where none is left, all that were started have ended
pub all-over : (from m : ℕ) (rows : List Row) → started_from from (map (over_below from m) rows) ≡ None → AllByRecursion (λ (r : Row). is_over_below from r ≡ is_started_row r) rows
all-over from m [] none = tt
all-over from m (r ∷ rows) none =
    let before = map (over_below from m) rows in
    elim (place from r) as (λ q. AllByRecursion (λ (s : Row). is_over_below from s ≡ is_started_row s) (r ∷ rows)) [
      | idle e ↦ (over-idle from r e ∙ sym e, all-over from m rows (sym (find-out (is_started_from from) (over_below from m r) before (passed-idle from m r e)) ∙ none))
      | below e lt ↦ (over-in from r e lt ∙ sym e, all-over from m rows (sym (find-out (is_started_from from) (over_below from m r) before (passed-below from m r e lt)) ∙ none))
      | above e high ↦ absurd (no-row (over_below from m r) (sym (find-in (is_started_from from) (over_below from m r) before (first-above from m r e high)) ∙ none))
    ] where
      no-row : (row : Row) → Some row ≡ None → ⊥
      no-row row same = cc

-- ---- one world

-- the end of a started job
pub record Ends (at : ℕ) (v : World) (row : Row) (asked : Call) (course : Course) : Type 0 where
  pub next : World
  pub free : refusal v asked ≡ None
  pub answered : answer_now at v asked ≡ gives reply.Unit next
  pub moves : MovesOne v.plan next.plan row course
  pub sessions : next.sessions ≡ v.sessions
  pub small : size next ≤ size v

ends-by : (at : ℕ) (v : World) (row : Row) (asked : Call) (r : Report) → IsConsistent v → row_of row.job v.plan.rows ≡ Some row → is_of_run r ≡ true → job_of r ≡ row.job
    → refusal v asked ≡ None → (report_of r).refusal v.plan ≡ None → answer_now at v asked ≡ gives reply.Unit (counted (record v { plan = (report_of r).effect (v.entries + 1) v.plan }))
    → Ends at v row asked (course_after v.plan.moment r row)
ends-by at v row asked r ok found run number allowed free answered =
    let moved = report-moves r (v.entries + 1) v.plan ok.fit free in
    let less = run-weight r (v.entries + 1) v.plan run ok.fit free in
    let is : moved.row ≡ row = some-is moved.row row (sym moved.moves.found ∙ ap (λ (j : JobId). row_of j v.plan.rows) (moved.number ∙ number) ∙ found) in
    record {
      next = counted (record v { plan = (report_of r).effect (v.entries + 1) v.plan });
      free = allowed;
      answered = answered;
      moves = subst (λ (x : Row). MovesOne v.plan ((report_of r).effect (v.entries + 1) v.plan) x (course_after v.plan.moment r x)) is moved.moves;
      sessions = refl;
      small = omega (arith, less);
    }

not-idle : (phase : Phase) → phase ≢ Idle → is_idle phase ≡ false
not-idle Idle other = absurd (other refl)
not-idle Launching other = refl
not-idle Alive other = refl

-- the end of a started job may be reported
pub stop-may : (p : Plan) (row : Row) → IsSound row.wants row.course → is_started_row row ≡ true → may_exit row.course.attempt row.course ≡ true
stop-may p row sound started =
    and_from (not (is_idle row.course.phase)) (eqb row.course.attempt row.course.attempt) (ap not (not-idle row.course.phase (sound.started started).0)) (eq-eqb row.course.attempt row.course.attempt refl)

pub stop-world : (at : ℕ) (v : World) (row : Row) → IsConsistent v → row_of row.job v.plan.rows ≡ Some row → is_started_row row ≡ true → Ends at v row (stop_call row) (course_after_stop v.plan.moment row)
stop-world at v row ok found started =
    let may = stop-may v.plan row (row-sound row.job v.plan row ok.fit found) started in
    let attempt = row.course.attempt in
    elim (reruns row) as (λ b. Ends at v row (cond b (call.Exited row.job attempt (Code rerun_code)) (call.ExitUnknown row.job attempt))
    (cond b (exited v.plan.moment (Code rerun_code) row.wants.rerunnable row.course) (lost v.plan.moment row.wants.rerunnable row.course))) [
      | true ↦
          (let free = report-free (λ p. may_exit attempt) row.job (end_row (Code rerun_code)) v.plan row found may in
          ends-by at v row (call.Exited row.job attempt (Code rerun_code)) (report.Exited row.job attempt (Code rerun_code)) ok found refl refl free free (served-gives at v (call.Exited row.job attempt (Code rerun_code)) free))
      | false ↦
          (let free = report-free (λ p. may_exit attempt) row.job lose_row v.plan row found may in
          ends-by at v row (call.ExitUnknown row.job attempt) (report.ExitUnknown row.job attempt) ok found refl refl free free (served-gives at v (call.ExitUnknown row.job attempt) free))
    ]
