-- What a calendar keeps when a booking is added, and when those of a key are removed.
use Rattle.std.proofs.Common.{◌≡◌, ℕ, zero, suc, Contains, get_or, ◌+◌, ◌<◌, ◌≤◌, Bool, true, false, not, ltb, nat_lt, List, [], ◌∷◌, ◌++◌, length, filter, sum_by, inl, inr, refl, sym, ap, ◌∙◌, arith}
use Rattle.std.specs.List.{list_any, list_all}
use Rattle.std.proofs.lemmas.Bool.{or_parts, or_from, and_parts, and_from, not-true, not_from_false, not_from_true, cond_both, cond-true, cond-false, cases_Bool, lt-ltb, eq-eqb, or_left, or_right}
use Rattle.std.proofs.lemmas.Bool.Decides.{nat_tests}
use Rattle.std.proofs.lemmas.List.Sums.{sum_by-cons, sum_by_push}
use Rattle.reservation_calendar.specs.declared.bookings.Key.{Key}
use Rattle.reservation_calendar.specs.declared.bookings.Key.TheVariants.{Job, Reservation}
use Rattle.reservation_calendar.specs.declared.bookings.Booking.{Booking}
use Rattle.reservation_calendar.specs.Loads.{is_before, covers, slots_at, load}
use Rattle.reservation_calendar.specs.Schedules.{Schedule, schedule, same_key, is_booked, without, booked_once, IsSound}
use Rattle.reservation_calendar.specs.Fitting.{Fits}
use Rattle.reservation_calendar.proofs.LoadLaws.{covers-from, covers-until}
use Rattle.reservation_calendar.proofs.Edges.{all_fail}

-- a filter of a list, under a test of some or of all elements and under a sum
filter-any : {X : Type 0} (p q : X → Bool) (xs : List X) → list_any q xs ≡ false → list_any q (filter p xs) ≡ false
filter-any p q [] h = refl
filter-any p q (x ∷ xs) h =
    let parts = or_parts (q x) (list_any q xs) h in
    cond_both (p x) (x ∷ filter p xs) (filter p xs) (λ ys. list_any q ys ≡ false)
    (λ _. or_from (q x) (list_any q (filter p xs)) parts.0 (filter-any p q xs parts.1)) (λ _. filter-any p q xs parts.1)

filter-all : {X : Type 0} (p q : X → Bool) (xs : List X) → list_all q xs ≡ true → list_all q (filter p xs) ≡ true
filter-all p q [] h = refl
filter-all p q (x ∷ xs) h =
    let parts = and_parts (q x) (list_all q xs) h in
    cond_both (p x) (x ∷ filter p xs) (filter p xs) (λ ys. list_all q ys ≡ true)
    (λ _. and_from (q x) (list_all q (filter p xs)) parts.0 (filter-all p q xs parts.1)) (λ _. filter-all p q xs parts.1)

filter-sum : {X : Type 0} (p : X → Bool) (f : X → ℕ) (xs : List X) → sum_by f (filter p xs) ≤ sum_by f xs
filter-sum p f [] = omega arith
filter-sum p f (x ∷ xs) =
    let rest = filter-sum p f xs in
    let whole = sum_by-cons f x xs in
    cond_both (p x) (x ∷ filter p xs) (filter p xs) (λ ys. sum_by f ys ≤ sum_by f (x ∷ xs))
    (λ _. omega (arith, sum_by-cons f x (filter p xs))) (λ _. omega arith)

filter-length : {X : Type 0} (p : X → Bool) (xs : List X) → length (filter p xs) ≤ length xs
filter-length p [] = omega arith
filter-length p (x ∷ xs) =
    let rest = filter-length p xs in
    cond_both (p x) (x ∷ filter p xs) (filter p xs) (λ ys. length ys ≤ length (x ∷ xs)) (λ _. omega arith) (λ _. omega arith)

ltb-suc : (m n : ℕ) → ltb (suc m) (suc n) ≡ ltb m n
ltb-suc m n = grind (arith, nat_tests)

-- a list is shorter without the elements of a test exactly where it has one
pub shorter_without : {X : Type 0} (p : X → Bool) (xs : List X) → nat_lt (length (filter (λ x. not (p x)) xs)) (length xs) ≡ list_any p xs
shorter_without p [] = refl
shorter_without {X} p (x ∷ xs) =
    let rest = shorter_without p xs in
    let kept = filter (λ (y : X). not (p y)) xs in
    elim (cases_Bool (p x)) [
      | inl found ↦ rw (cond-false (not (p x)) (x ∷ kept) kept (not_from_true (p x) found), found) (lt-ltb _ _ (omega (arith, filter-length (λ (y : X). not (p y)) xs)))
      | inr other ↦ rw (cond-true (not (p x)) (x ∷ kept) kept (not_from_false (p x) other), other) (ltb-suc (length kept) (length xs) ∙ rest)
    ]

-- keys
pub same_key-comm : (a b : Key) → same_key a b ≡ same_key b a
same_key-comm (Job a) (Job b) = grind (arith, nat_tests)
same_key-comm (Job a) (Reservation b) = refl
same_key-comm (Reservation a) (Job b) = refl
same_key-comm (Reservation a) (Reservation b) = grind (arith, nat_tests)

pub once-filter : (p : Booking → Bool) (bs : List Booking) → booked_once bs ≡ true → booked_once (filter p bs) ≡ true
once-filter p [] h = refl
once-filter p (b ∷ bs) h =
    let parts = and_parts (not (is_booked bs b.key)) (booked_once bs) h in
    let fresh = not-true (is_booked bs b.key) parts.0 in
    cond_both (p b) (b ∷ filter p bs) (filter p bs) (λ ys. booked_once ys ≡ true)
    (λ _. and_from (not (is_booked (filter p bs) b.key)) (booked_once (filter p bs))
    (not_from_false _ (filter-any p (λ (a : Booking). same_key a.key b.key) bs fresh)) (once-filter p bs parts.1))
    (λ _. once-filter p bs parts.1)

is_booked-push : (bs : List Booking) (b : Booking) (key : Key) → is_booked bs key ≡ false → same_key b.key key ≡ false → is_booked (bs ++ b ∷ []) key ≡ false
is_booked-push [] b key absent other = or_from (same_key b.key key) false other refl
is_booked-push (a ∷ bs) b key absent other =
    let parts = or_parts (same_key a.key key) (is_booked bs key) absent in
    or_from (same_key a.key key) (is_booked (bs ++ b ∷ []) key) parts.0 (is_booked-push bs b key parts.1 other)

pub once-push : (bs : List Booking) (b : Booking) → booked_once bs ≡ true → is_booked bs b.key ≡ false → booked_once (bs ++ b ∷ []) ≡ true
once-push [] b once absent = refl
once-push (a ∷ bs) b once absent =
    let parts = and_parts (not (is_booked bs a.key)) (booked_once bs) once in
    let apart = or_parts (same_key a.key b.key) (is_booked bs b.key) absent in
    and_from (not (is_booked (bs ++ b ∷ []) a.key)) (booked_once (bs ++ b ∷ []))
    (not_from_false _ (is_booked-push bs b a.key (not-true (is_booked bs a.key) parts.0) (same_key-comm b.key a.key ∙ apart.0)))
    (once-push bs b parts.1 apart.1)

all-push : {X : Type 0} (q : X → Bool) (xs : List X) (y : X) → list_all q xs ≡ true → q y ≡ true → list_all q (xs ++ y ∷ []) ≡ true
all-push q [] y h here = and_from (q y) true here refl
all-push q (x ∷ xs) y h here =
    let parts = and_parts (q x) (list_all q xs) h in
    and_from (q x) (list_all q (xs ++ y ∷ [])) parts.0 (all-push q xs y parts.1 here)

-- a calendar stays sound where a booking is added that fits
pub IsSound-push : (bs : List Booking) (total : ℕ) (b : Booking) → IsSound (schedule bs total) → is_before b.from b.until ≡ true → Fits (schedule bs total) b.slots b.from b.until → is_booked bs b.key ≡ false → IsSound (schedule (bs ++ b ∷ []) total)
IsSound-push bs total b sound lasting fits fresh = record {
  within = λ x moment. rw (sum_by_push (slots_at x) bs b)
      (cond_both (covers x b) b.slots 0 (λ n. load bs x + n ≤ total)
      (λ covered. fits x (record { since = covers-from x b covered; before = covers-until x b covered; moment = moment }))
      (λ _. let within = sound.within x moment in omega arith));
  lasting = all-push (λ (a : Booking). is_before a.from a.until) bs b sound.lasting lasting;
  once = once-push bs b sound.once fresh;
}

-- and where the bookings of a key are removed
pub IsSound-without : (bs : List Booking) (total : ℕ) (key : Key) → IsSound (schedule bs total) → IsSound (schedule (without key bs) total)
IsSound-without bs total key sound =
    let other = λ (b : Booking). not (same_key b.key key) in
    record {
      within = λ x moment. (let within = sound.within x moment in omega (arith, filter-sum other (slots_at x) bs));
      lasting = filter-all other (λ (a : Booking). is_before a.from a.until) bs sound.lasting;
      once = once-filter other bs sound.once;
    }

-- without a key that is not booked the bookings stay
pub without_absent : (bs : List Booking) (key : Key) → is_booked bs key ≡ false → without key bs ≡ bs
without_absent [] key absent = refl
without_absent (b ∷ bs) key absent =
    let parts = or_parts (same_key b.key key) (is_booked bs key) absent in
    cond-true (not (same_key b.key key)) (b ∷ without key bs) (without key bs) (not_from_false _ parts.0) ∙ ap (λ ys. b ∷ ys) (without_absent bs key parts.1)

pub same_key-refl : (a : Key) → same_key a a ≡ true
same_key-refl (Job a) = eq-eqb a.0 a.0 refl
same_key-refl (Reservation a) = eq-eqb a.0 a.0 refl

booked_at : (bs : List Booking) (b : Booking) (k : ℕ) → k < length bs → get_or bs k b ≡ b → is_booked bs b.key ≡ true
booked_at [] b k inside at = absurd (omega arith)
booked_at (a ∷ bs) b zero inside at = or_left (same_key a.key b.key) (is_booked bs b.key) (rw at (same_key-refl b.key))
booked_at (a ∷ bs) b (suc k) inside at = or_right (same_key a.key b.key) (is_booked bs b.key) (booked_at bs b k (omega arith) at)

-- a sum over bookings is less without one by what is summed for it
sum_without_at : (f : Booking → ℕ) (bs : List Booking) (b : Booking) (k : ℕ) → booked_once bs ≡ true → k < length bs → get_or bs k b ≡ b → sum_by f (without b.key bs) + f b ≡ sum_by f bs
sum_without_at f [] b k once inside at = absurd (omega arith)
sum_without_at f (a ∷ bs) b zero once inside at =
    let parts = and_parts (not (is_booked bs a.key)) (booked_once bs) once in
    let absent : is_booked bs b.key ≡ false = rw (← at) (not-true (is_booked bs a.key) parts.0) in
    let gone : not (same_key a.key b.key) ≡ false = not_from_true (same_key a.key b.key) (rw at (same_key-refl b.key)) in
    let rest : without b.key (a ∷ bs) ≡ bs = cond-false (not (same_key a.key b.key)) (a ∷ without b.key bs) (without b.key bs) gone ∙ without_absent bs b.key absent in
    let takes : f a ≡ f b = ap f at in
    rw rest (omega (arith, sum_by-cons f a bs))
sum_without_at f (a ∷ bs) b (suc k) once inside at =
    let parts = and_parts (not (is_booked bs a.key)) (booked_once bs) once in
    let fresh = all_fail (λ (o : Booking). same_key o.key a.key) bs (not-true (is_booked bs a.key) parts.0) k b (omega arith) in
    let apart : same_key a.key b.key ≡ false = same_key-comm a.key b.key ∙ (sym (ap (λ (o : Booking). same_key o.key a.key) at) ∙ fresh) in
    let rest : without b.key (a ∷ bs) ≡ a ∷ without b.key bs = cond-true (not (same_key a.key b.key)) (a ∷ without b.key bs) (without b.key bs) (not_from_false _ apart) in
    let tail = sum_without_at f bs b k parts.1 (omega arith) at in
    rw rest (omega (arith, sum_by-cons f a bs, sum_by-cons f a (without b.key bs)))

pub sum-without : (f : Booking → ℕ) (bs : List Booking) (b : Booking) → booked_once bs ≡ true → Contains bs b → sum_by f (without b.key bs) + f b ≡ sum_by f bs
sum-without f bs b once there = sum_without_at f bs b there.0 once there.1 there.2

-- and so is the load
pub load-cancelled : (s : Schedule) (b : Booking) (x : ℕ) → IsSound s → Contains s.bookings b → load (without b.key s.bookings) x + slots_at x b ≡ load s.bookings x
load-cancelled s b x sound booked = sum-without (slots_at x) s.bookings b sound.once booked
