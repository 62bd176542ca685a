-- What keeps the calendar and the plan agreed, and what the calendar then says of the plan.
use Rattle.drmaa_types.specs.declared.identifiers.ArrayId.{ArrayId}
use Rattle.plan_book.specs.declared.moves.Booked.TheVariants.{Same, Books, Cancels}
use Rattle.plan_book.specs.declared.moves.Booked.{Booked}
use Rattle.std.proofs.Common.{◌≡◌, ℕ, ◌+◌, ◌<◌, ◌≤◌, Bool, true, false, cond, eqb, leb, ltb, not, ◌&&◌, ◌||◌, max, List, [], ◌∷◌, ◌++◌, map, filter, sum_by, Option, Some, None, refl, sym, ◌∙◌, ap, subst, arith}
use Rattle.std.specs.Prelude.{IsSome, is_some}
use Rattle.std.specs.List.{AllByRecursion, list_any}
use Rattle.std.specs.Option.{option_map_or}
use Rattle.std.proofs.lemmas.Bool.{and_parts, false≢true, eqb-true, eq-eqb, ne_eqb, le-leb, ltb-true}
use Rattle.std.proofs.lemmas.List.Sums.{sum_by-cons, sum_by_push}
use Rattle.drmaa_types.specs.States.{is_started}
use Rattle.drmaa_types.specs.declared.identifiers.JobId.{JobId}
use Rattle.drmaa_types.specs.declared.identifiers.ReservationId.{ReservationId}
use Rattle.drmaa_types.specs.declared.moments.End.{End}
use Rattle.drmaa_types.specs.declared.moments.End.TheVariants.{At, Never}
use Rattle.drmaa_model.specs.declared.courses.Course.{Course}
use Rattle.drmaa_model.specs.declared.reservations.Accepted.{Accepted}
use Rattle.drmaa_model.specs.declared.rows.Row.{Row}
use Rattle.drmaa_model.specs.Fit.{IsRising, reservation_number, IsSound, IsFit, launched_at}
use Rattle.drmaa_model.specs.FitLaws.{Eases, kept-advance, expire-fit, eases-lapsed, eases-called}
use Rattle.drmaa_model.specs.Load.{ends_after, is_using, uses_at, booked, used, load, fits, in_array, in_reservation, holds_in, held_inside, is_member, names, in_queue, held_in_queue, is_in_queue}
use Rattle.drmaa_model.specs.MomentLaws.{fits-at, fits-from, ends-before, before-ends, before-greatest}
use Rattle.drmaa_model.specs.Plan.{Plan}
use Rattle.drmaa_model.specs.Requests.{with_reservation, without_reservation, is_other}
use Rattle.drmaa_model.specs.RowLaws.{all-both, all-implied, sum_with_course, rising-found}
use Rattle.drmaa_model.specs.Rows.{is_of, row_of, with_course}
use Rattle.drmaa_model.specs.SumLaws.{sum-each, sum-same, sum-map, sum-filter, sum-zero, sum-le}
use Rattle.drmaa_model.specs.Time.{lasts, advance_plan, expire, call_in, lapsed, called_in}
use Rattle.reservation_calendar.specs.declared.bookings.Key.{Key}
use Rattle.reservation_calendar.specs.declared.bookings.Key.TheVariants.{Job, Reservation}
use Rattle.reservation_calendar.specs.declared.bookings.Booking.{Booking}
use Rattle.reservation_calendar.specs.Loads.{is_before}
use Rattle.reservation_calendar.specs.Loads as calendar
use Rattle.reservation_calendar.specs.Schedules.{Schedule, same_key, is_booked, without}
use Rattle.reservation_calendar.specs.Fitting.{Fits}
use Rattle.plan_book.specs.Ties.{booking_of, booked_for, counted_of, counted_for, IsTied, is_gone, let_go_of, IsBeside, KeepsTie, booked_first, cancelled_last}

pub filter-same : {X : Type 0} (f g : X → Bool) → ((x : X) → f x ≡ g x) → (xs : List X) → filter f xs ≡ filter g xs
filter-same f g same [] = refl
filter-same f g same (x ∷ xs) = ap (λ b. cond b (x ∷ filter f xs) (filter f xs)) (same x) ∙ ap (λ ys. cond (g x) (x ∷ ys) ys) (filter-same f g same xs)

filter-all : {X : Type 0} (f : X → Bool) → ((x : X) → f x ≡ true) → (xs : List X) → filter f xs ≡ xs
filter-all f all [] = refl
filter-all f all (x ∷ xs) = ap (λ b. cond b (x ∷ filter f xs) (filter f xs)) (all x) ∙ ap (λ ys. x ∷ ys) (filter-all f all xs)

filter-both : {X : Type 0} (f g : X → Bool) (xs : List X) → filter f (filter g xs) ≡ filter (λ x. g x && f x) xs
filter-both f g [] = refl
filter-both f g (x ∷ xs) =
    elim (g x) as (λ b. filter f (cond b (x ∷ filter g xs) (filter g xs)) ≡ cond (b && f x) (x ∷ filter (λ y. g y && f y) xs) (filter (λ y. g y && f y) xs)) [
      | true ↦ ap (λ ys. cond (f x) (x ∷ ys) ys) (filter-both f g xs)
      | false ↦ filter-both f g xs
    ]

-- ---- the load

pub same-end : (x : ℕ) (e : End) → is_before x e ≡ ends_after x e
same-end x (At m) = refl
same-end x Never = refl

-- a started ordinary job's booking takes from now on what the job takes
row-slots : (m x : ℕ) (row : Row) → m ≤ x → launched_at row.course ≤ m → IsSound row.wants row.course → counted_of (calendar.slots_at x) row ≡ uses_at x row
row-slots m x row later launched sound =
    (elim (is_using row) as (λ b. is_using row ≡ b → cond b (calendar.slots_at x (booking_of row)) 0 ≡ cond (b && option_map_or (ends_after x) row.course.planned false) row.course.held 0) [
      | false ↦ λ e. refl
      | true ↦ λ e.
          (let since : leb (launched_at row.course) x ≡ true = le-leb (launched_at row.course) x (omega arith) in
          let started = (and_parts (not (is_some row.wants.reservation)) (is_started row.course.state) e).1 in
          ap (λ b. cond (b && is_before x (booking_of row).until) row.course.held 0) since
          ∙ (elim row.course.planned as (λ (o : Option End). IsSome o → cond (is_before x (option_map_or (λ (end : End). end) o Never)) row.course.held 0 ≡ cond (option_map_or (ends_after x) o false) row.course.held 0) [
            | None ↦ λ h. absurd (cc)
            | Some end ↦ λ h. ap (λ b. cond b row.course.held 0) (same-end x end)
          ]) (sound.planned started))
    ]) refl

-- From the moment on the load of the calendar is the load of the plan.
pub tied-load : (s : Schedule) (p : Plan) → IsFit p → IsTied s p → (x : ℕ) → p.moment ≤ x → calendar.load s.bookings x ≡ load p x
tied-load s p fit tied x later =
    let rows : sum_by (counted_of (calendar.slots_at x)) p.rows ≡ used p.rows x = sum-each (counted_of (calendar.slots_at x)) (uses_at x) p.rows
    (all-implied (λ (r : Row). IsSound r.wants r.course × (launched_at r.course ≤ p.moment)) (λ (r : Row). counted_of (calendar.slots_at x) r ≡ uses_at x r) (λ r both. row-slots p.moment x r later both.1 both.0) p.rows
    (all-both (λ (r : Row). IsSound r.wants r.course) (λ (r : Row). launched_at r.course ≤ p.moment) p.rows fit.sound fit.dispatched)) in
    let all = tied.same (calendar.slots_at x) in
    omega arith

-- What fits the calendar from a moment on fits the plan, and the other way round.
module _ (s : Schedule) (p : Plan) (slots from : ℕ) (until : End) (total : s.total ≡ p.total) (loads : (x : ℕ) → from ≤ x → calendar.load s.bookings x ≡ load p x) where
  pub fits-plan : Fits s slots from until → fits p slots from until ≡ true
  fits-plan all = fits-from p slots from until (λ x low high.
      (let here = all x (record { since = low; before = same-end x until ∙ before-ends until x high; moment = before-greatest until x high }) in
      let same = loads x low in omega arith))

  pub fits-calendar : fits p slots from until ≡ true → Fits s slots from until
  fits-calendar fit = λ x inside.
      (let here = fits-at p slots from until fit x inside.since (ends-before until x inside.moment (sym (same-end x until) ∙ inside.before)) in
      let same = loads x inside.since in omega arith)

-- ---- whether a key is booked

one-of : Key → Booking → ℕ
one-of key b = cond (same_key b.key key) 1 0

none-counted : (key : Key) (bs : List Booking) → sum_by (one-of key) bs ≡ 0 → is_booked bs key ≡ false
unfolding one-of
none-counted key [] none = refl
none-counted key (b ∷ bs) none =
    let cons = sum_by-cons (one-of key) b bs in
    (elim (same_key b.key key) as (λ t. same_key b.key key ≡ t → (t || is_booked bs key) ≡ false) [
      | true ↦ λ e. (let one : one-of key b ≡ 1 = ap (λ t. cond {A = ℕ} t 1 0) e in absurd (omega arith))
      | false ↦ λ e. none-counted key bs (omega arith)
    ]) refl

-- a job that does not use the calendar is not booked
pub tied-fresh : (s : Schedule) (p : Plan) (job : JobId) (row : Row) → IsFit p → IsTied s p → row_of job p.rows ≡ Some row → is_using row ≡ false → is_booked s.bookings (Job job) ≡ false
unfolding one-of
tied-fresh s p job row fit tied kept idle =
    let key : Key = Job job in
    let reservations : sum_by (counted_for (one-of key)) p.reservations ≡ 0 = sum-same (counted_for (one-of key)) (λ a. 0) (λ a. refl) p.reservations ∙ sum-zero p.reservations in
    let rows : sum_by (counted_of (one-of key)) p.rows ≡ 0 = sum-each (counted_of (one-of key)) (λ r. 0) p.rows
    (all-implied (λ (r : Row). row_of r.job p.rows ≡ Some r) (λ (r : Row). counted_of (one-of key) r ≡ 0)
    (λ r found.
    (elim (eqb r.job.0 job.0) as (λ t. eqb r.job.0 job.0 ≡ t → cond (is_using r) (cond {A = ℕ} t 1 0) 0 ≡ 0) [
      | true ↦ λ e.
          (let own : r.job ≡ job = ap (λ (n : ℕ). let j : JobId = record { 0 = n } in j) (eqb-true r.job.0 job.0 e) in
          let there : row_of job p.rows ≡ Some r = subst (λ (j : JobId). row_of j p.rows ≡ Some r) own found in
          let same : row ≡ r = cc in
          let none : is_using r ≡ false = subst (λ (q : Row). is_using q ≡ false) same idle in
          ap (λ t. cond {A = ℕ} t 1 0) none)
      | false ↦ λ e. (elim (is_using r) as (λ t. cond {A = ℕ} t 0 0 ≡ 0) [ true ↦ refl | false ↦ refl ])
    ]) refl) p.rows (rising-found p.rows fit.jobs.rising)) ∙ sum-zero p.rows in
    none-counted key s.bookings (let all = tied.same (one-of key) in omega arith)

-- a reservation that is yet to come is not booked
pub tied-next : (s : Schedule) (p : Plan) → IsFit p → IsTied s p → is_booked s.bookings (Reservation (record { 0 = p.next_reservation })) ≡ false
unfolding one-of
tied-next s p fit tied =
    let key : Key = Reservation (record { 0 = p.next_reservation }) in
    let reservations : sum_by (counted_for (one-of key)) p.reservations ≡ 0 = sum-each (counted_for (one-of key)) (λ a. 0) p.reservations
    (all-implied (λ (a : Accepted). reservation_number a < p.next_reservation) (λ (a : Accepted). counted_for (one-of key) a ≡ 0)
    (λ a below. ap (λ t. cond {A = ℕ} t 1 0) (ne_eqb a.reservation.0 p.next_reservation (λ e. omega (arith, below)))) p.reservations fit.accepted.below) ∙ sum-zero p.reservations in
    let rows : sum_by (counted_of (one-of key)) p.rows ≡ 0 = sum-same (counted_of (one-of key)) (λ r. 0) (λ r. (elim (is_using r) as (λ t. cond {A = ℕ} t 0 0 ≡ 0) [ true ↦ refl | false ↦ refl ])) p.rows ∙ sum-zero p.rows in
    none-counted key s.bookings (let all = tied.same (one-of key) in omega arith)

-- ---- time

-- what is counted of bookings that stay
abbrev pub staying : (Booking → ℕ) → (Booking → Bool) → Booking → ℕ
staying f stays b = cond (stays b) (f b) 0

-- the bookings that stay are those of what stays
pub tied-staying : (s : Schedule) (p q : Plan) (stays : Booking → Bool) → IsTied s p → q.total ≡ p.total
    → ((f : Booking → ℕ) → sum_by (counted_for (staying f stays)) p.reservations ≡ sum_by (counted_for f) q.reservations)
    → ((f : Booking → ℕ) → sum_by (counted_of (staying f stays)) p.rows ≡ sum_by (counted_of f) q.rows)
    → IsTied (record s { bookings = filter stays s.bookings }) q
tied-staying s p q stays tied total reservations rows = record {
  total = tied.total ∙ sym total;
  same = λ f. (let all = tied.same (staying f stays) in let rs = reservations f in let jobs = rows f in let kept = sum-filter f stays s.bookings in omega arith);
}

-- the bookings of ended reservations, one reservation after the other
gone-lasting : (m : ℕ) (a : Accepted) (rest : List Accepted) (key : Key) → lasts m a ≡ true → is_gone m rest key ≡ is_gone m (a ∷ rest) key
gone-lasting m a rest (Job j) is = refl
gone-lasting m a rest (Reservation n) is = sym (ap (λ b. (not b && eqb a.reservation.0 n.0) || is_gone m rest (Reservation n)) is)

not-or : (a b : Bool) → (not a && not b) ≡ not (a || b)
not-or true b = refl
not-or false b = refl

eqb-sym : (a b : ℕ) → eqb a b ≡ eqb b a
eqb-sym a b =
    (elim (eqb a b) as (λ t. eqb a b ≡ t → t ≡ eqb b a) [
      | true ↦ λ e. sym (eq-eqb b a (sym (eqb-true a b e)))
      | false ↦ λ e. sym (ne_eqb b a (λ same. false≢true (sym e ∙ eq-eqb a b (sym same))))
    ]) refl

gone-ended : (m : ℕ) (a : Accepted) (rest : List Accepted) (key : Key) → lasts m a ≡ false → (not (same_key key (Reservation a.reservation)) && not (is_gone m rest key)) ≡ not (is_gone m (a ∷ rest) key)
gone-ended m a rest (Job j) is = refl
gone-ended m a rest (Reservation n) is =
    not-or (eqb n.0 a.reservation.0) (is_gone m rest (Reservation n))
    ∙ ap (λ b. not (b || is_gone m rest (Reservation n))) (eqb-sym n.0 a.reservation.0)
    ∙ sym (ap (λ b. not ((not b && eqb a.reservation.0 n.0) || is_gone m rest (Reservation n))) is)

pub go-step : (m : ℕ) (a : Accepted) (rest : List Accepted) (s : Schedule) → let_go_of m rest (cond (lasts m a) s (record s { bookings = without (Reservation a.reservation) s.bookings })) ≡ let_go_of m (a ∷ rest) s
go-step m a rest s =
    (elim (lasts m a) as (λ t. lasts m a ≡ t → let_go_of m rest (cond t s (record s { bookings = without (Reservation a.reservation) s.bookings })) ≡ let_go_of m (a ∷ rest) s) [
      | true ↦ λ e. ap (λ (bs : List Booking). let t : Schedule = record s { bookings = bs } in t)
          (filter-same (λ (b : Booking). not (is_gone m rest b.key)) (λ (b : Booking). not (is_gone m (a ∷ rest) b.key)) (λ b. ap not (gone-lasting m a rest b.key e)) s.bookings)
      | false ↦ λ e. ap (λ (bs : List Booking). let t : Schedule = record s { bookings = bs } in t)
          (filter-both (λ (b : Booking). not (is_gone m rest b.key)) (λ (b : Booking). not (same_key b.key (Reservation a.reservation))) s.bookings
          ∙ filter-same (λ (b : Booking). not (same_key b.key (Reservation a.reservation)) && not (is_gone m rest b.key)) (λ (b : Booking). not (is_gone m (a ∷ rest) b.key)) (λ b. gone-ended m a rest b.key e) s.bookings)
    ]) refl

none-gone : (m : ℕ) (key : Key) → not (is_gone m [] key) ≡ true
none-gone m (Job j) = refl
none-gone m (Reservation n) = refl

pub go-none : (m : ℕ) (s : Schedule) → let_go_of m [] s ≡ s
go-none m s = ap (λ (bs : List Booking). let t : Schedule = record s { bookings = bs } in t) (filter-all (λ (b : Booking). not (is_gone m [] b.key)) (λ b. none-gone m b.key) s.bookings)

-- a reservation that lasts has a number of its own
gone-above : (m n : ℕ) (rs : List Accepted) → AllByRecursion (λ (a : Accepted). n < reservation_number a) rs → list_any (λ (a : Accepted). not (lasts m a) && eqb a.reservation.0 n) rs ≡ false
gone-above m n [] all = refl
gone-above m n (a ∷ rs) all =
    ap (λ b. (not (lasts m a) && b) || list_any (λ (c : Accepted). not (lasts m c) && eqb c.reservation.0 n) rs) (ne_eqb a.reservation.0 n (λ e. (let above = all.0 in omega arith)))
    ∙ (elim (not (lasts m a)) as (λ b. ((b && false) || list_any (λ (c : Accepted). not (lasts m c) && eqb c.reservation.0 n) rs) ≡ false) [ true ↦ gone-above m n rs all.1 | false ↦ gone-above m n rs all.1 ])

-- a reservation is gone exactly where it has ended
gone-is : (m : ℕ) (rs : List Accepted) → IsRising reservation_number rs → AllByRecursion (λ (a : Accepted). is_gone m rs (Reservation a.reservation) ≡ not (lasts m a)) rs
gone-is m [] rising = tt
gone-is m (a ∷ rs) rising = (
  ap (λ b. (not (lasts m a) && b) || list_any (λ (c : Accepted). not (lasts m c) && eqb c.reservation.0 a.reservation.0) rs) (eq-eqb a.reservation.0 a.reservation.0 refl)
      ∙ ap (λ b. (not (lasts m a) && true) || b) (gone-above m a.reservation.0 rs rising.0)
      ∙ (elim (lasts m a) as (λ b. ((not b && true) || false) ≡ not b) [ true ↦ refl | false ↦ refl ]),
  all-implied (λ (c : Accepted). (reservation_number a < reservation_number c) × (is_gone m rs (Reservation c.reservation) ≡ not (lasts m c))) (λ (c : Accepted). is_gone m (a ∷ rs) (Reservation c.reservation) ≡ not (lasts m c))
      (λ c both. ap (λ b. (not (lasts m a) && b) || is_gone m rs (Reservation c.reservation)) (ne_eqb a.reservation.0 c.reservation.0 (λ e. omega (arith, both.0)))
      ∙ (elim (not (lasts m a)) as (λ b. ((b && false) || is_gone m rs (Reservation c.reservation)) ≡ is_gone m rs (Reservation c.reservation)) [ true ↦ refl | false ↦ refl ]) ∙ both.1) rs
      (all-both (λ (c : Accepted). reservation_number a < reservation_number c) (λ (c : Accepted). is_gone m rs (Reservation c.reservation) ≡ not (lasts m c)) rs rising.0 (gone-is m rs rising.1)),
)

-- what is counted of a job's booking is left by time
counted-eases : (f : Booking → ℕ) (r q : Row) → Eases r q → counted_of f q ≡ counted_of f r
counted-eases f r q e =
    ap (λ b. cond b (f (booking_of q)) 0) e.using
    ∙ (elim (is_using r) as (λ b. is_using r ≡ b → cond b (f (booking_of q)) 0 ≡ cond b (f (booking_of r)) 0) [
      | false ↦ λ h. refl
      | true ↦ λ h.
          (let job = e.job in let held = e.held in let launched = e.dispatched in let planned = e.planned h in
          let same : booking_of q ≡ booking_of r = cc in ap f same)
    ]) refl

-- Time leaves the calendar agreed with the plan, once the bookings of the reservations that have ended are gone.
pub tied-advance : (s : Schedule) (entry at : ℕ) (p : Plan) → IsFit p → IsTied s p → IsTied (let_go_of (max p.moment at) p.reservations s) (advance_plan entry at p)
tied-advance s entry at p fit tied =
    let m = max p.moment at in
    let stays : Booking → Bool = λ b. not (is_gone m p.reservations b.key) in
    tied-staying s p (advance_plan entry at p) stays tied refl
    (λ f. sum-each (counted_for (staying f stays)) (λ (a : Accepted). cond (lasts m a) (counted_for f a) 0) p.reservations
    (all-implied (λ (a : Accepted). is_gone m p.reservations (Reservation a.reservation) ≡ not (lasts m a)) (λ (a : Accepted). counted_for (staying f stays) a ≡ cond (lasts m a) (counted_for f a) 0)
    (λ a is. ap (λ b. cond (not b) (counted_for f a) 0) is ∙ (elim (lasts m a) as (λ b. cond (not (not b)) (counted_for f a) 0 ≡ cond b (counted_for f a) 0) [ true ↦ refl | false ↦ refl ]))
    p.reservations (gone-is m p.reservations fit.accepted.rising))
    ∙ sym (sum-filter (counted_for f) (lasts m) p.reservations))
    (λ f. sym (kept-advance (counted_of f) (counted-eases f) entry at p fit))

-- in the terms of a call that lets time go on
pub tied-then : (s t : Schedule) (entry at : ℕ) (p q : Plan) → IsFit p → IsTied s p → t ≡ let_go_of (max p.moment at) p.reservations s → q ≡ advance_plan entry at p → IsTied t q
tied-then s t entry at p q fit tied calendar plan =
    subst (λ (x : Schedule). IsTied x q) (sym calendar) (subst (IsTied (let_go_of (max p.moment at) p.reservations s)) (sym plan) (tied-advance s entry at p fit tied))

-- ---- a move

pub filter-push : {X : Type 0} (test : X → Bool) (xs : List X) (x : X) → test x ≡ true → filter test (xs ++ x ∷ []) ≡ filter test xs ++ x ∷ []
filter-push test [] x is = ap (λ b. cond b (x ∷ []) []) is
filter-push test (y ∷ ys) x is =
    elim (test y) as (λ b. cond b (y ∷ filter test (ys ++ x ∷ [])) (filter test (ys ++ x ∷ [])) ≡ cond b (y ∷ filter test ys) (filter test ys) ++ x ∷ []) [
      | true ↦ ap (λ zs. y ∷ zs) (filter-push test ys x is)
      | false ↦ filter-push test ys x is
    ]

-- a booking that is made before time comes to the moment is there then
books-first : (m : ℕ) (rs : List Accepted) (s : Schedule) (booked : Booked) → IsBeside rs booked → let_go_of m rs (booked_first booked s) ≡ booked_first booked (let_go_of m rs s)
books-first m rs s Same may = refl
books-first m rs s (Books b) may =
    ap (λ (bs : List Booking). let t : Schedule = record s { bookings = bs } in t) (filter-push (λ (c : Booking). not (is_gone m rs c.key)) s.bookings b (ap not (may m)))
books-first m rs s Cancels may = refl

pub tied-made : (booked : Booked) (job : JobId) (s : Schedule) (entry at : ℕ) (p after : Plan) → IsBeside p.reservations booked → IsFit p → IsTied s p → KeepsTie booked job (advance_plan entry at p) after
    → IsTied (cancelled_last booked job (let_go_of (max p.moment at) p.reservations (booked_first booked s))) after
tied-made booked job s entry at p after may fit tied keeps =
    subst (λ (t : Schedule). IsTied (cancelled_last booked job t) after) (sym (books-first (max p.moment at) p.reservations s booked may))
    (keeps.keeps (let_go_of (max p.moment at) p.reservations s) (tied-advance s entry at p fit tied))

-- ---- one job goes on

module _ (job : JobId) (next : Course) (p : Plan) (row : Row) (fit : IsFit p) (found : row_of job p.rows ≡ Some row) where
  counted-moved : (f : Booking → ℕ) → sum_by (counted_of f) (map (with_course job next) p.rows) + counted_of f row ≡ sum_by (counted_of f) p.rows + counted_of f (record row { course = next })
  counted-moved f = sum_with_course job next (counted_of f) p.rows row fit.jobs.rising found

  -- a job whose booking stays
  pub tied-same : (q : Plan) → q.total ≡ p.total → q.reservations ≡ p.reservations → q.rows ≡ map (with_course job next) p.rows
      → ((f : Booking → ℕ) → counted_of f (record row { course = next }) ≡ counted_of f row) → (s : Schedule) → IsTied s p → IsTied s q
  tied-same q total reservations rows same s tied = record {
    total = tied.total ∙ sym total;
    same = λ f. (let all = tied.same f in let moved = counted-moved f in let here = same f in let rs = ap (sum_by (counted_for f)) reservations in let jobs = ap (sum_by (counted_of f)) rows in omega arith);
  }

  -- a job that is booked
  pub tied-booked : (q : Plan) → q.total ≡ p.total → q.reservations ≡ p.reservations → q.rows ≡ map (with_course job next) p.rows
      → (b : Booking) → is_using row ≡ false → is_using (record row { course = next }) ≡ true → booking_of (record row { course = next }) ≡ b
      → (s : Schedule) → IsTied s p → IsTied (record s { bookings = s.bookings ++ b ∷ [] }) q
  tied-booked q total reservations rows b idle uses is s tied = record {
    total = tied.total ∙ sym total;
    same = λ f.
        (let all = tied.same f in let moved = counted-moved f in let rs = ap (sum_by (counted_for f)) reservations in let jobs = ap (sum_by (counted_of f)) rows in
        let push = sum_by_push f s.bookings b in
        let before : counted_of f row ≡ 0 = ap (λ t. cond t (f (booking_of row)) 0) idle in
        let after : counted_of f (record row { course = next }) ≡ f b = ap (λ t. cond t (f (booking_of (record row { course = next }))) 0) uses ∙ ap f is in
        omega arith);
  }

  -- a job whose booking is cancelled
  pub tied-cancelled : (q : Plan) → q.total ≡ p.total → q.reservations ≡ p.reservations → q.rows ≡ map (with_course job next) p.rows
      → is_using (record row { course = next }) ≡ false → (s : Schedule) → IsTied s p → IsTied (record s { bookings = without (Job job) s.bookings }) q
  tied-cancelled q total reservations rows idle s tied =
      let stays : Booking → Bool = λ b. not (same_key b.key (Job job)) in
      tied-staying s p q stays tied total
      (λ f. ap (sum_by (counted_for f)) (sym reservations))
      (λ f. sum-each (counted_of (staying f stays)) (λ (r : Row). counted_of f (with_course job next r)) p.rows
      (all-implied (λ (r : Row). row_of r.job p.rows ≡ Some r) (λ (r : Row). counted_of (staying f stays) r ≡ counted_of f (with_course job next r))
      (λ r kept.
      (elim (is_of job r) as (λ t. is_of job r ≡ t → cond (is_using r) (cond (not t) (f (booking_of r)) 0) 0 ≡ counted_of f (cond t (record r { course = next }) r)) [
        | false ↦ λ e. refl
        | true ↦ λ e.
            (let own : r.job ≡ job = ap (λ (n : ℕ). let j : JobId = record { 0 = n } in j) (eqb-true r.job.0 job.0 e) in
            let there : row_of job p.rows ≡ Some r = subst (λ (j : JobId). row_of j p.rows ≡ Some r) own kept in
            let first = found in
            let same : row ≡ r = cc in
            let none : is_using (record r { course = next }) ≡ false = subst (λ (x : Row). is_using (record x { course = next }) ≡ false) same idle in
            (elim (is_using r) as (λ t. cond {A = ℕ} t 0 0 ≡ 0) [ true ↦ refl | false ↦ refl ]) ∙ sym (ap (λ t. cond {A = ℕ} t (f (booking_of (record r { course = next }))) 0) none))
      ]) refl) p.rows (rising-found p.rows fit.jobs.rising))
      ∙ sym (sum-map (counted_of f) (with_course job next) p.rows) ∙ ap (sum_by (counted_of f)) (sym rows))

-- ---- sums are within the slots

member-holds : (m : Bool) (h : ℕ) → cond {A = ℕ} (m && ltb 0 h) 1 0 ≤ h
member-holds false h = omega arith
member-holds true h =
    (elim (ltb 0 h) as (λ t. ltb 0 h ≡ t → cond {A = ℕ} t 1 0 ≤ h) [
      | true ↦ λ e. (let pos = ltb-true 0 h e in omega arith)
      | false ↦ λ e. omega arith
    ]) refl

inside-holds : (m : Bool) (h : ℕ) → cond {A = ℕ} m h 0 ≤ h
inside-holds true h = omega arith
inside-holds false h = omega arith

pub members-few : (array : ArrayId) (p : Plan) → IsFit p → in_array array p.rows ≤ p.total
members-few array p fit =
    let under = sum-le (holds_in array) (λ (r : Row). r.course.held) p.rows
    (all-implied (λ (r : Row). IsSound r.wants r.course) (λ (r : Row). holds_in array r ≤ r.course.held) (λ r s. member-holds (is_member array r) r.course.held) p.rows fit.sound) in
    let within = fit.within in omega arith

pub inside-few : (number : ReservationId) (p : Plan) → IsFit p → in_reservation number p.rows ≤ p.total
inside-few number p fit =
    let under = sum-le (held_inside number) (λ (r : Row). r.course.held) p.rows
    (all-implied (λ (r : Row). IsSound r.wants r.course) (λ (r : Row). held_inside number r ≤ r.course.held) (λ r s. inside-holds (names number r) r.course.held) p.rows fit.sound) in
    let within = fit.within in omega arith

pub queue-few : (place : ℕ) (p : Plan) → IsFit p → in_queue place p.rows ≤ p.total
queue-few place p fit =
    let under = sum-le (held_in_queue place) (λ (r : Row). r.course.held) p.rows
    (all-implied (λ (r : Row). IsSound r.wants r.course) (λ (r : Row). held_in_queue place r ≤ r.course.held) (λ r s. inside-holds (is_in_queue place r) r.course.held) p.rows fit.sound) in
    let within = fit.within in omega arith

-- rows that ease leave the calendar agreed
pub tied-eased : (s : Schedule) (p q : Plan) (f : Row → Row) → q.total ≡ p.total → q.reservations ≡ p.reservations → q.rows ≡ map f p.rows → AllByRecursion (λ r. Eases r (f r)) p.rows → IsTied s p → IsTied s q
tied-eased s p q f total reservations rows eases tied = record {
  total = tied.total ∙ sym total;
  same = λ g.
      (let all = tied.same g in
      let jobs : sum_by (counted_of g) q.rows ≡ sum_by (counted_of g) p.rows = ap (sum_by (counted_of g)) rows ∙ sum-map (counted_of g) f p.rows
      ∙ sum-each (λ (r : Row). counted_of g (f r)) (counted_of g) p.rows (all-implied (λ (r : Row). Eases r (f r)) (λ (r : Row). counted_of g (f r) ≡ counted_of g r) (λ r e. counted-eases g r (f r) e) p.rows eases) in
      let rs = ap (sum_by (counted_for g)) reservations in omega arith);
}

-- ---- reservations

-- an accepted reservation goes with its booking
pub tied-accepted : (s : Schedule) (p : Plan) (a : Accepted) → IsTied s p → IsTied (record s { bookings = s.bookings ++ booked_for a ∷ [] }) (with_reservation a p)
tied-accepted s p a tied = record {
  total = tied.total;
  same = λ f. (let all = tied.same f in let push = sum_by_push f s.bookings (booked_for a) in let more = sum_by_push (counted_for f) p.reservations a in omega arith);
}

-- a reservation that is ended goes with its booking
pub tied-ended : (s : Schedule) (p : Plan) (number : ReservationId) → IsTied s p → IsTied (record s { bookings = without (Reservation number) s.bookings }) (without_reservation number p)
tied-ended s p number tied =
    let stays : Booking → Bool = λ b. not (same_key b.key (Reservation number)) in
    tied-staying s p (without_reservation number p) stays tied refl
    (λ f. sym (sum-filter (counted_for f) (is_other number) p.reservations))
    (λ f. refl)

-- rules 3 and 4 of time leave the calendar agreed
pub tied-passed : (s : Schedule) (entry : ℕ) (p : Plan) → IsFit p → IsTied s p → IsTied s (call_in (expire entry p))
tied-passed s entry p fit tied =
    let e = expire entry p in
    let fit_e : IsFit e = expire-fit entry p fit in
    let f = lapsed p.moment p.reservations in
    let g = called_in p.moment p.reservations in
    let first = tied-eased s p e f refl refl refl (all-implied (λ (r : Row). IsSound r.wants r.course) (λ (r : Row). Eases r (f r)) (eases-lapsed p.moment p.reservations) p.rows fit.sound) tied in
    tied-eased s e (call_in e) g refl refl refl (all-implied (λ (r : Row). IsSound r.wants r.course) (λ (r : Row). Eases r (g r)) (eases-called p.moment p.reservations) e.rows fit_e.sound) first

-- a number that is yet to come is not that of a reservation that has ended
next-stays : (m n : ℕ) (rs : List Accepted) → AllByRecursion (λ (a : Accepted). reservation_number a < n) rs → is_gone m rs (Reservation (record { 0 = n })) ≡ false
next-stays m n [] all = refl
next-stays m n (a ∷ rs) all =
    ap (λ b. (not (lasts m a) && b) || is_gone m rs (Reservation (record { 0 = n }))) (ne_eqb a.reservation.0 n (λ e. (let below = all.0 in omega arith)))
    ∙ (elim (not (lasts m a)) as (λ b. ((b && false) || is_gone m rs (Reservation (record { 0 = n }))) ≡ false) [ true ↦ next-stays m n rs all.1 | false ↦ next-stays m n rs all.1 ])

-- booked before time comes to its moment, it goes with the plan that then has it
pub tied-reserved : (s : Schedule) (entry at : ℕ) (p : Plan) (a : Accepted) → IsFit p → IsTied s p → a.reservation.0 ≡ p.next_reservation
    → IsTied (let_go_of (max p.moment at) p.reservations (record s { bookings = s.bookings ++ booked_for a ∷ [] })) (with_reservation a (advance_plan entry at p))
tied-reserved s entry at p a fit tied number =
    let m = max p.moment at in
    let stays : Booking → Bool = λ b. not (is_gone m p.reservations b.key) in
    let here : stays (booked_for a) ≡ true = ap (λ (n : ℕ). not (is_gone m p.reservations (Reservation (record { 0 = n })))) number ∙ ap not (next-stays m p.next_reservation p.reservations fit.accepted.below) in
    subst (λ (bs : List Booking). IsTied (record s { bookings = bs }) (with_reservation a (advance_plan entry at p))) (sym (filter-push stays s.bookings (booked_for a) here))
    (tied-accepted (let_go_of m p.reservations s) (advance_plan entry at p) a (tied-advance s entry at p fit tied))
