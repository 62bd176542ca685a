-- What jobs that come in, and ended ones that go, do to the sums over rows.
use Rattle.std.proofs.Common.{◌≡◌, ℕ, ◌+◌, Bool, true, false, cond, not, ◌&&◌, List, [], ◌∷◌, ◌++◌, length, map, filter, sum_by, Some, refl, sym, ◌∙◌, ap, arith}
use Rattle.std.specs.List.{AllByRecursion}
use Rattle.std.proofs.lemmas.Bool.{and_parts}
use Rattle.std.proofs.lemmas.List.Sums.{sum_by-cons}
use Rattle.drmaa_types.specs.States.{is_waiting, is_started, has_terminated}
use Rattle.drmaa_types.specs.declared.states.JobState.{JobState}
use Rattle.drmaa_types.specs.declared.states.JobState.TheVariants.{Undetermined, Queued, QueuedHeld, Running, Suspended, Requeued, RequeuedHeld, Done, Failed}
use Rattle.drmaa_model.specs.declared.rows.Row.{Row}
use Rattle.drmaa_model.specs.declared.calls.Target.{Target}
use Rattle.drmaa_model.specs.Controlling.{is_done}
use Rattle.drmaa_model.specs.Courses.{is_unasked}
use Rattle.drmaa_model.specs.declared.reservations.Accepted.{Accepted}
use Rattle.drmaa_model.specs.Effects.{left_by, is_forgotten, forget_home}
use Rattle.drmaa_model.specs.Homes.{is_same_home}
use Rattle.drmaa_model.specs.Fit.{IsSound, IsFit}
use Rattle.drmaa_model.specs.NextLaunch.{held}
use Rattle.drmaa_model.specs.Plan.{Plan}
use Rattle.drmaa_model.specs.FitLaws.{not-using}
use Rattle.drmaa_model.specs.RowLaws.{all-implied}
use Rattle.drmaa_model.specs.Size.{room_of, phase_room, promised, weight}
use Rattle.drmaa_model.specs.SumLaws.{sum-each, sum-filter, sum-map, sum-zero}
use Rattle.drmaa_model.specs.Targets.{is_meant}
use Rattle.drmaa_model.specs.TimeLaws.{waits-not_started}
use Rattle.reservation_calendar.specs.declared.bookings.Booking.{Booking}
use Rattle.reservation_calendar.specs.Schedules.{Schedule}
use Rattle.plan_book.specs.Book.{owes, owes_kill, owed, owed_kills, joined}
use Rattle.plan_book.specs.Owed.{reports_due, reports_to_come}
use Rattle.plan_book.specs.Ties.{counted_of, counted_for, booking_of, IsTied}
use Rattle.plan_book.specs.Waiting.{AreWaiting}

pub sum-append : {X : Type 0} (g : X → ℕ) (xs ys : List X) → sum_by g (xs ++ ys) ≡ sum_by g xs + sum_by g ys
sum-append g [] ys = omega arith
sum-append g (x ∷ xs) ys = omega (arith, sum-append g xs ys, sum_by-cons g x xs, sum_by-cons g x (xs ++ ys))

sum-one : {X : Type 0} (xs : List X) → sum_by (λ (x : X). 1) xs ≡ length xs
sum-one [] = refl
sum-one (x ∷ xs) = omega (arith, sum-one xs, sum_by-cons (λ (y : _). 1) x xs)

module _ (rows : List Row) (wait : AreWaiting rows) where
  each : (g h : Row → ℕ) → ((r : Row) → is_waiting r.course.state ≡ true → g r ≡ h r) → sum_by g rows ≡ sum_by h rows
  each g h same = sum-each g h rows (all-implied (λ (r : Row). is_waiting r.course.state ≡ true) (λ (r : Row). g r ≡ h r) same rows wait)

  pub waiting-promised : promised rows ≡ length rows
  waiting-promised = each (λ r. room_of r.course) (λ r. 1) (λ r waits. ap (λ b. cond {A = ℕ} b 1 (phase_room r.course.phase)) waits) ∙ sum-one rows

  pub waiting-owed : owed rows ≡ length rows
  waiting-owed = each (λ r. owes r.course) (λ r. 1) (λ r waits. ap (λ b. cond {A = ℕ} b 1 (cond (is_started r.course.state) 2 0)) waits) ∙ sum-one rows

  pub waiting-owed_kills : owed_kills rows ≡ 0
  waiting-owed_kills = each (λ r. owes_kill r.course) (λ r. 0) (λ r waits. ap (λ b. cond {A = ℕ} (b && is_unasked r.course.kill) 1 0) (waits-not_started r.course.state waits)) ∙ sum-zero rows

  pub waiting-counted : (f : Booking → ℕ) → sum_by (counted_of f) rows ≡ 0
  waiting-counted f = each (counted_of f) (λ r. 0) (λ r waits. ap (λ b. cond b (f (booking_of r)) 0) (not-using r (waits-not_started r.course.state waits))) ∙ sum-zero rows

-- a job that has ended neither waits nor is started
done-over : (s : JobState) → has_terminated s ≡ true → (is_waiting s ≡ false) × (is_started s ≡ false)
done-over Undetermined h = absurd (cc)
done-over Queued h = absurd (cc)
done-over QueuedHeld h = absurd (cc)
done-over Running h = absurd (cc)
done-over Suspended h = absurd (cc)
done-over Requeued h = absurd (cc)
done-over RequeuedHeld h = absurd (cc)
done-over Done h = (refl, refl)
done-over Failed h = (refl, refl)

module _ (meant : Row → Bool) (rows : List Row) (sound : AllByRecursion (λ (r : Row). IsSound r.wants r.course) rows) where
  left : (g : Row → ℕ) → ((r : Row) → IsSound r.wants r.course → has_terminated r.course.state ≡ true → g r ≡ 0) → sum_by g (filter (λ (r : Row). not (meant r && is_done r)) rows) ≡ sum_by g rows
  left g none =
      sum-filter g (λ (r : Row). not (meant r && is_done r)) rows
      ∙ sum-each (λ r. cond (not (meant r && is_done r)) (g r) 0) g rows (all-implied (λ (r : Row). IsSound r.wants r.course) (λ (r : Row). cond (not (meant r && is_done r)) (g r) 0 ≡ g r)
      (λ r s.
      (elim (meant r && is_done r) as (λ b. (meant r && is_done r) ≡ b → cond (not b) (g r) 0 ≡ g r) [
        | true ↦ λ e. sym (none r s (and_parts (meant r) (is_done r) e).1)
        | false ↦ λ e. refl
      ]) refl) rows sound)

  -- nor does what a job comes to by its slots
  pub left-idle : (g : Row → ℕ) → ((r : Row) → r.course.held ≡ 0 → g r ≡ 0) → sum_by g (filter (λ (r : Row). not (meant r && is_done r)) rows) ≡ sum_by g rows
  left-idle g none = left g (λ r s done. none r (s.idle (done-over r.course.state done).1).1)

  pub left-promised : promised (filter (λ (r : Row). not (meant r && is_done r)) rows) ≡ promised rows
  left-promised = left (λ r. room_of r.course) (λ r s done.
      (let over = done-over r.course.state done in
      ap (λ b. cond {A = ℕ} b 1 (phase_room r.course.phase)) over.0 ∙ ap phase_room (s.idle over.1).0))

  pub left-owed : owed (filter (λ (r : Row). not (meant r && is_done r)) rows) ≡ owed rows
  left-owed = left (λ r. owes r.course) (λ r s done.
      (let over = done-over r.course.state done in
      ap (λ b. cond {A = ℕ} b 1 (cond (is_started r.course.state) 2 0)) over.0 ∙ ap (λ b. cond {A = ℕ} b 2 0) over.1))

  pub left-owed_kills : owed_kills (filter (λ (r : Row). not (meant r && is_done r)) rows) ≡ owed_kills rows
  left-owed_kills = left (λ r. owes_kill r.course) (λ r s done. ap (λ b. cond {A = ℕ} (b && is_unasked r.course.kill) 1 0) (done-over r.course.state done).1)

  pub left-held : held (filter (λ (r : Row). not (meant r && is_done r)) rows) ≡ held rows
  left-held = left (λ r. r.course.held) (λ r s done. (s.idle (done-over r.course.state done).1).1)

  pub left-reports : reports_to_come (filter (λ (r : Row). not (meant r && is_done r)) rows) ≡ reports_to_come rows
  left-reports = left (λ r. reports_due r.course.phase) (λ r s done. ap reports_due (s.idle (done-over r.course.state done).1).0)

  pub left-counted : (f : Booking → ℕ) → sum_by (counted_of f) (filter (λ (r : Row). not (meant r && is_done r)) rows) ≡ sum_by (counted_of f) rows
  left-counted f = left (counted_of f) (λ r s done. ap (λ b. cond b (f (booking_of r)) 0) (not-using r (done-over r.course.state done).1))

-- ---- what that makes of a plan

-- jobs that come in add what is promised to each
pub joined-weight : (rows : List Row) (arrays : ℕ) (p : Plan) → AreWaiting rows → weight (joined rows arrays p) ≡ weight p + length rows
joined-weight rows arrays p wait = omega (arith, sum-append (λ (r : Row). room_of r.course) p.rows rows, waiting-promised rows wait)

pub joined-owed : (old rows : List Row) → AreWaiting rows → owed (old ++ rows) ≡ owed old + length rows
joined-owed old rows wait = omega (arith, sum-append (λ (r : Row). owes r.course) old rows, waiting-owed rows wait)

pub joined-owed_kills : (old rows : List Row) → AreWaiting rows → owed_kills (old ++ rows) ≡ owed_kills old
joined-owed_kills old rows wait = omega (arith, sum-append (λ (r : Row). owes_kill r.course) old rows, waiting-owed_kills rows wait)

pub tied-joined : (s : Schedule) (rows : List Row) (arrays : ℕ) (p : Plan) → AreWaiting rows → IsTied s p → IsTied s (joined rows arrays p)
tied-joined s rows arrays p wait tied = record {
  total = tied.total;
  same = λ f. (let all = tied.same f in let more = sum-append (counted_of f) p.rows rows in let none = waiting-counted rows wait f in omega arith);
}

-- ended jobs take nothing with them
pub reaped-weight : (t : Target) (p : Plan) → IsFit p → weight (record p { rows = filter (λ (r : Row). not (is_meant t r && is_done r)) p.rows }) ≡ weight p
reaped-weight t p fit = omega (arith, left-promised (is_meant t) p.rows fit.sound)

pub tied-reaped : (s : Schedule) (t : Target) (p : Plan) → IsFit p → IsTied s p → IsTied s (record p { rows = filter (λ (r : Row). not (is_meant t r && is_done r)) p.rows })
tied-reaped s t p fit tied = record {
  total = tied.total;
  same = λ f. (let all = tied.same f in let same = left-counted (is_meant t) p.rows fit.sound f in omega arith);
}

-- ---- a home that is forgotten

abbrev left_row : ℕ → Row → Row
left_row home row = record row { home = left_by home row.home }

abbrev of_home : ℕ → Row → Bool
of_home home row = is_same_home (Some home) row.home

pub forgot-owed : (home : ℕ) (rows : List Row) → AllByRecursion (λ (r : Row). IsSound r.wants r.course) rows
    → owed (map (λ (row : Row). record row { home = left_by home row.home }) (filter (λ (row : Row). not (is_forgotten home row)) rows)) ≡ owed rows
forgot-owed home rows sound = sum-map (λ (r : Row). owes r.course) (left_row home) (filter (λ (row : Row). not (is_forgotten home row)) rows) ∙ left-owed (of_home home) rows sound

pub forgot-owed_kills : (home : ℕ) (rows : List Row) → AllByRecursion (λ (r : Row). IsSound r.wants r.course) rows
    → owed_kills (map (λ (row : Row). record row { home = left_by home row.home }) (filter (λ (row : Row). not (is_forgotten home row)) rows)) ≡ owed_kills rows
forgot-owed_kills home rows sound = sum-map (λ (r : Row). owes_kill r.course) (left_row home) (filter (λ (row : Row). not (is_forgotten home row)) rows) ∙ left-owed_kills (of_home home) rows sound

pub tied-forgot : (s : Schedule) (home : ℕ) (p : Plan) → IsFit p → IsTied s p → IsTied s (forget_home home p)
tied-forgot s home p fit tied = record {
  total = tied.total;
  same = λ f.
      (let all = tied.same f in
      let rows = sum-map (counted_of f) (left_row home) (filter (λ (row : Row). not (is_forgotten home row)) p.rows) in
      let stay = left-counted (of_home home) p.rows fit.sound f in
      let rs = sum-map (counted_for f) (λ (a : Accepted). record a { home = left_by home a.home }) p.reservations in
      omega arith);
}
