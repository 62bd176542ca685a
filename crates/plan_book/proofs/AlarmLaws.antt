-- What keeps a plan quiet.
use Rattle.std.proofs.Common.{◌≡◌, ℕ, Bool, true, false, cond, eqb, not, ◌&&◌, ◌||◌, List, [], ◌∷◌, ◌++◌, map, filter, find, length, ◌<◌, Option, Some, None, refl, ◌∙◌, ap, subst}
use Rattle.std.specs.Prelude.{is_some}
use Rattle.std.specs.List.{AllByRecursion}
use Rattle.std.specs.Option.{option_map_or}
use Rattle.drmaa_types.specs.States.{is_waiting, is_started, after_control}
use Rattle.drmaa_types.specs.declared.identifiers.JobId.{JobId}
use Rattle.drmaa_types.specs.declared.identifiers.ReservationId.{ReservationId}
use Rattle.drmaa_types.specs.declared.moments.End.{End}
use Rattle.drmaa_types.specs.declared.moments.End.TheVariants.{At}
use Rattle.drmaa_types.specs.declared.states.Control.{Control}
use Rattle.drmaa_types.specs.declared.states.Control.TheVariants.{Suspend, Resume, Hold, Release, Terminate}
use Rattle.drmaa_types.specs.declared.states.JobState.{JobState}
use Rattle.drmaa_types.specs.declared.states.Note.{Note}
use Rattle.drmaa_types.specs.declared.states.Note.TheVariants as note
use Rattle.drmaa_model.specs.declared.calls.Target.{Target}
use Rattle.drmaa_model.specs.declared.courses.Course.{Course}
use Rattle.drmaa_model.specs.declared.reservations.Accepted.{Accepted}
use Rattle.drmaa_model.specs.declared.rows.Row.{Row}
use Rattle.drmaa_model.specs.Controlling.{control_step}
use Rattle.drmaa_model.specs.ControlLaws.{control-cases}
use Rattle.drmaa_model.specs.Courses.{failed, called, is_unasked, may_kill, terminated, controlled, lesser_end}
use Rattle.drmaa_model.specs.Effects.{left_by, is_forgotten, forget_home}
use Rattle.drmaa_model.specs.Fit.{IsRising, number_of}
use Rattle.drmaa_model.specs.FitLaws.{all-append, SameKind, same-kind}
use Rattle.drmaa_model.specs.Plan.{Plan}
use Rattle.drmaa_model.specs.RowLaws.{all-implied, all-map, all_with_course, all-filter, row_of-is, row_of-all}
use Rattle.drmaa_model.specs.Rows.{row_of, with_course}
use Rattle.drmaa_model.specs.Time.{is_accepted, is_late, is_over, is_stranded, lapses}
use Rattle.plan_book.specs.declared.alarm_blocks.Alarm.{Alarm}
use Rattle.plan_book.specs.Quiet.{block_of, end_of, IsAlarmed, IsLeftUntil, LastsUntil, IsQuiet}
use Rattle.plan_book.proofs.BlockLaws.{lowered, lowered-alarmed, lowered-here}
use Rattle.plan_book.proofs.QuietLaws.{lasting-first, lasting-second, lasts-until}

-- ---- a job goes on, and others come in

pub alarmed-put : (es : List End) (soon : End) (p : Plan) (job : JobId) (course : Course) (row : Row) → AllByRecursion (IsAlarmed es p.reservations) p.rows → IsRising number_of p.rows → row_of job p.rows ≡ Some row
    → IsLeftUntil soon p.reservations (record row { course = course }) → AllByRecursion (IsAlarmed (lowered es job.0 soon) p.reservations) (map (with_course job course) p.rows)
alarmed-put es soon p job course row all rising found here =
    let is = row_of-is job p.rows row found in
    let own = row_of-all (IsAlarmed es p.reservations) job p.rows row all found in
    let within : block_of job.0 < length es = subst (λ (n : ℕ). block_of n < length es) is own.covered in
    all_with_course job course (IsAlarmed (lowered es job.0 soon) p.reservations) p.rows row rising found
    (all-implied (IsAlarmed es p.reservations) (IsAlarmed (lowered es job.0 soon) p.reservations) (lowered-alarmed es job.0 soon within p.reservations) p.rows all)
    (lowered-here es job.0 soon within p.reservations (record row { course = course }) is here)

-- ---- a reservation comes in

-- what is accepted stays so
accepted-push : (rs : List Accepted) (x : Accepted) (n : ReservationId) → is_accepted rs n ≡ true → is_accepted (rs ++ x ∷ []) n ≡ true
accepted-push [] x n is = absurd (cc)
accepted-push (r ∷ rs) x n is =
    (elim (eqb r.reservation.0 n.0) as (λ b. is_some (cond b (Some r) (find (λ (a : Accepted). eqb a.reservation.0 n.0) rs)) ≡ true → is_some (cond b (Some r) (find (λ (a : Accepted). eqb a.reservation.0 n.0) (rs ++ x ∷ []))) ≡ true) [
      | true ↦ λ e. refl
      | false ↦ λ e. accepted-push rs x n e
    ]) is

not-more : (a b : Bool) → (a ≡ true → b ≡ true) → not b ≡ true → not a ≡ true
not-more true true up h = h
not-more true false up h = absurd (let e = up refl in cc)
not-more false b up h = refl

stranded-push : (rs : List Accepted) (x : Accepted) (r : Row) → is_stranded (rs ++ x ∷ []) r ≡ true → is_stranded rs r ≡ true
stranded-push rs x r is =
    (elim r.wants.reservation as (λ (o : Option ReservationId). option_map_or (λ (n : ReservationId). not (is_accepted (rs ++ x ∷ []) n)) o false ≡ true → option_map_or (λ (n : ReservationId). not (is_accepted rs n)) o false ≡ true) [
      | None ↦ λ e. e
      | Some n ↦ λ e. not-more (is_accepted rs n) (is_accepted (rs ++ x ∷ []) n) (accepted-push rs x n) e
    ]) is

-- s, t: it is stranded; w, l: it waits and is late; a, k, o: it is started, no kill is asked, and it is over
fewer : (w l a k o s t : Bool) → (t ≡ true → s ≡ true) → (not (w && (l || s)) && not (a && (k && (o || s)))) ≡ true → (not (w && (l || t)) && not (a && (k && (o || t)))) ≡ true
fewer w l a k o true true up h = h
fewer w l a k o false false up h = h
fewer w l a k o false true up h = absurd (let e = up refl in cc)
fewer false l false k o true false up h = refl
fewer false l true false o true false up h = refl
fewer false l true true true true false up h = h
fewer false l true true false true false up h = refl
fewer true true a k o true false up h = h
fewer true false a k true true false up h = absurd (cc)
fewer true false a k false true false up h = absurd (cc)

left-reserved : (alarm : End) (rs : List Accepted) (x : Accepted) (r : Row) → IsLeftUntil alarm rs r → IsLeftUntil alarm (rs ++ x ∷ []) r
left-reserved alarm rs x r left = λ m ahead.
    fewer (is_waiting r.course.state) (is_late m r) (is_started r.course.state) (is_unasked r.course.kill) (is_over m r) (is_stranded rs r) (is_stranded (rs ++ x ∷ []) r) (stranded-push rs x r) (left m ahead)

pub alarmed-accepted : (es : List End) (x : Accepted) (rs : List Accepted) (rows : List Row) → AllByRecursion (IsAlarmed es rs) rows → AllByRecursion (IsAlarmed es (rs ++ x ∷ [])) rows
alarmed-accepted es x rs rows all =
    all-implied (IsAlarmed es rs) (IsAlarmed es (rs ++ x ∷ []))
    (λ (r : Row) (is : IsAlarmed es rs r). record { covered = is.covered; left = left-reserved (end_of es r.job.0) rs x r is.left }) rows all

pub lasts-accepted : (alarm : End) (x : Accepted) (rs : List Accepted) → AllByRecursion (LastsUntil alarm) rs → AllByRecursion (LastsUntil (lesser_end alarm (At x.until))) (rs ++ x ∷ [])
lasts-accepted alarm x rs all =
    all-append (LastsUntil (lesser_end alarm (At x.until))) rs (x ∷ []) (lasting-first alarm (At x.until) rs all)
    (lasting-second alarm (At x.until) (x ∷ []) (lasts-until x, tt))

-- ---- jobs that are forgotten

pub quiet-left : (alarm : Alarm) (test : Row → Bool) (p : Plan) → IsQuiet alarm p → IsQuiet alarm (record p { rows = filter test p.rows })
quiet-left alarm test p quiet = record {
  rows = all-filter (IsAlarmed alarm.ends.items p.reservations) test p.rows quiet.rows;
  reservations = quiet.reservations;
  soonest = quiet.soonest;
  few = quiet.few;
}

-- ---- a home that is forgotten

abbrev homeless : ℕ → List Accepted → List Accepted
homeless home rs = map (λ (r : Accepted). record r { home = left_by home r.home }) rs

accepted-left : (home : ℕ) (rs : List Accepted) (n : ReservationId) → is_accepted (homeless home rs) n ≡ is_accepted rs n
accepted-left home [] n = refl
accepted-left home (r ∷ rs) n =
    elim (eqb r.reservation.0 n.0) as (λ b. is_some (cond b (Some (record r { home = left_by home r.home })) (find (λ (a : Accepted). eqb a.reservation.0 n.0) (homeless home rs)))
    ≡ is_some (cond b (Some r) (find (λ (a : Accepted). eqb a.reservation.0 n.0) rs))) [
      | true ↦ refl
      | false ↦ accepted-left home rs n
    ]

stranded-left : (home : ℕ) (rs : List Accepted) (r : Row) → is_stranded (homeless home rs) r ≡ is_stranded rs r
stranded-left home rs r =
    elim r.wants.reservation as (λ (o : Option ReservationId). option_map_or (λ (n : ReservationId). not (is_accepted (homeless home rs) n)) o false ≡ option_map_or (λ (n : ReservationId). not (is_accepted rs n)) o false) [
      | None ↦ refl
      | Some n ↦ ap not (accepted-left home rs n)
    ]

left-homeless : (alarm : End) (home : ℕ) (rs : List Accepted) (r : Row) → IsLeftUntil alarm rs r → IsLeftUntil alarm (homeless home rs) (record r { home = left_by home r.home })
left-homeless alarm home rs r left = λ m ahead.
    ap (λ (s : Bool). not (is_waiting r.course.state && (is_late m r || s)) && not (is_started r.course.state && (is_unasked r.course.kill && (is_over m r || s)))) (stranded-left home rs r) ∙ left m ahead

pub quiet-forgotten : (alarm : Alarm) (home : ℕ) (p : Plan) → IsQuiet alarm p → IsQuiet alarm (forget_home home p)
quiet-forgotten alarm home p quiet =
    let es = alarm.ends.items in
    let rs = homeless home p.reservations in
    let without : Row → Row = λ (r : Row). record r { home = left_by home r.home } in
    record {
      rows = all-map (IsAlarmed es rs) without (filter (λ (r : Row). not (is_forgotten home r)) p.rows)
          (all-implied (IsAlarmed es p.reservations) (λ (r : Row). IsAlarmed es rs (without r))
          (λ (r : Row) (is : IsAlarmed es p.reservations r). record { covered = is.covered; left = left-homeless (end_of es r.job.0) home p.reservations r is.left }) (filter (λ (r : Row). not (is_forgotten home r)) p.rows)
          (all-filter (IsAlarmed es p.reservations) (λ (r : Row). not (is_forgotten home r)) p.rows quiet.rows));
      reservations = all-map (LastsUntil alarm.lasting) (λ (x : Accepted). record x { home = left_by home x.home }) p.reservations quiet.reservations;
      soonest = quiet.soonest;
      few = quiet.few;
    }

-- ---- jobs that a call acts on

kill-asked : (a t o : Bool) → (not a && not (t && o)) ≡ true → (not a && not (t && false)) ≡ true
kill-asked true t o h = h
kill-asked false true o h = refl
kill-asked false false o h = refl

module _ (alarm : End) (rs : List Accepted) (r : Row) (left : IsLeftUntil alarm rs r) where
  left-state : (state : JobState) → SameKind r.course.state state → IsLeftUntil alarm rs (record r { course = record r.course { state = state } })
  left-state state kind = λ m ahead.
      ap (λ (b : Bool). not (b && (is_late m r || is_stranded rs r)) && not (is_started state && (is_unasked r.course.kill && (is_over m r || is_stranded rs r)))) kind.waits
      ∙ ap (λ (b : Bool). not (lapses m rs r) && not (b && (is_unasked r.course.kill && (is_over m r || is_stranded rs r)))) kind.kind ∙ left m ahead

  left-failed : (moment : ℕ) (n : Note) → IsLeftUntil alarm rs (record r { course = failed moment n r.course })
  left-failed moment n = λ m ahead. refl

  left-asked : (n : Note) → IsLeftUntil alarm rs (record r { course = called n r.course })
  left-asked n = λ m ahead. kill-asked (lapses m rs r) (is_started r.course.state) (is_unasked r.course.kill && (is_over m r || is_stranded rs r)) (left m ahead)

  left-terminated : (moment : ℕ) → IsLeftUntil alarm rs (record r { course = terminated moment r.course })
  left-terminated moment =
      elim (is_started r.course.state) as (λ s. IsLeftUntil alarm rs (record r { course = cond s (cond (may_kill r.course.kill) (called note.Terminated r.course) r.course) (failed moment note.Terminated r.course) })) [
        | false ↦ left-failed moment note.Terminated
        | true ↦ elim (may_kill r.course.kill) as (λ k. IsLeftUntil alarm rs (record r { course = cond k (called note.Terminated r.course) r.course })) [
          | true ↦ left-asked note.Terminated
          | false ↦ left
        ]
      ]

  left-acted : (moment : ℕ) (what : Control) (state : JobState) → after_control r.course.state what ≡ Some state → IsLeftUntil alarm rs (record r { course = controlled moment what state r.course })
  left-acted moment Suspend state permits = left-state state (same-kind Suspend r.course.state state (λ e. cc) permits)
  left-acted moment Resume state permits = left-state state (same-kind Resume r.course.state state (λ e. cc) permits)
  left-acted moment Hold state permits = left-state state (same-kind Hold r.course.state state (λ e. cc) permits)
  left-acted moment Release state permits = left-state state (same-kind Release r.course.state state (λ e. cc) permits)
  left-acted moment Terminate state permits = left-terminated moment

alarmed-step : (es : List End) (rs : List Accepted) (moment : ℕ) (t : Target) (what : Control) (r : Row) → IsAlarmed es rs r → IsAlarmed es rs (control_step moment t what r)
alarmed-step es rs moment t what r is = control-cases (λ (p n : Row). IsAlarmed es rs p → IsAlarmed es rs n) moment t what r (λ h. h)
    (λ state e h. record { covered = h.covered; left = left-acted (end_of es r.job.0) rs r h.left moment what state e }) is

pub alarmed-controlled : (es : List End) (rs : List Accepted) (moment : ℕ) (t : Target) (what : Control) (rows : List Row) → AllByRecursion (IsAlarmed es rs) rows → AllByRecursion (IsAlarmed es rs) (map (control_step moment t what) rows)
alarmed-controlled es rs moment t what rows all =
    all-map (IsAlarmed es rs) (control_step moment t what) rows (all-implied (IsAlarmed es rs) (λ (r : Row). IsAlarmed es rs (control_step moment t what r)) (λ r is. alarmed-step es rs moment t what r is) rows all)
