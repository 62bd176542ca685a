-- Bookings and their numbers: what a key finds, and what an edit does to it.
use Rattle.std.proofs.Common.{◌≡◌, ℕ, zero, suc, ◌+◌, ◌<◌, ◌≤◌, true, false, not, ltb, List, [], ◌∷◌, ◌++◌, length, get_or, Option, Some, None, is_some, cond, if◌then◌else◌, inl, inr, refl, sym, ap, ◌∙◌, arith}
use Rattle.std.specs.List.{remove, AllPairs}
use Rattle.std.specs.List.Sorted.{IsPartitionedBy}
use Rattle.std.specs.Ordering.{is_eq}
use Rattle.std.proofs.lemmas.Bool.{cases_lt, cases_Bool, or_parts, and_parts, not-true, not_from_false, not_from_true, cond-true, cond-false, eqb-true}
use Rattle.std.proofs.lemmas.Bool.Decides.{nat_tests}
use Rattle.std.proofs.lemmas.List.{length-append}
use Rattle.std.proofs.lemmas.List.Edits.{length-remove}
use Rattle.std.proofs.lemmas.List.Elements.{All-nil, All-cons, All-append, All-weaker, All-take, All-drop}
use Rattle.std.proofs.lemmas.List.Quantifiers.{all_pairs_push, all_pairs_remove}
use Rattle.reservation_calendar.specs.declared.bookings.Key.{Key}
use Rattle.reservation_calendar.specs.declared.bookings.Key.TheVariants.{Job, Reservation}
use Rattle.reservation_calendar.specs.declared.bookings.Booking.{Booking}
use Rattle.reservation_calendar.specs.Schedules.{same_key, is_booked, without, booked_once}
use Rattle.reservation_calendar.specs.Keys.{key_order, number_of, most_numbers, IsKeyed}
use Rattle.reservation_calendar.proofs.Edges.{all_fail}
use Rattle.reservation_calendar.proofs.Keeping.{same_key-comm, same_key-refl, without_absent, once-filter, once-push}

-- two keys are one where their order says so
pub order_same : (a b : Key) → is_eq (key_order a b) ≡ same_key a b
order_same (Job a) (Job b) = grind (arith, nat_tests)
order_same (Job a) (Reservation b) = refl
order_same (Reservation a) (Job b) = refl
order_same (Reservation a) (Reservation b) = grind (arith, nat_tests)

pub same_key-true : (a b : Key) → same_key a b ≡ true → a ≡ b
same_key-true (Job a) (Job b) h = ap (λ (n : ℕ). Job (record { 0 = n })) (eqb-true a.0 b.0 h)
same_key-true (Job a) (Reservation b) h = cc
same_key-true (Reservation a) (Job b) h = cc
same_key-true (Reservation a) (Reservation b) h = ap (λ (n : ℕ). Reservation (record { 0 = n })) (eqb-true a.0 b.0 h)

-- a key finds a number exactly where it is booked
pub number_some : (bs : List Booking) (ns : List ℕ) (key : Key) → length ns ≡ length bs → is_some (number_of bs ns key) ≡ is_booked bs key
number_some [] ns key count = refl
number_some (b ∷ bs) [] key count = absurd (omega arith)
number_some (b ∷ bs) (n ∷ ns) key count =
    elim (cases_Bool (same_key b.key key)) [
      | inl here ↦ rw here refl
      | inr other ↦ rw other (number_some bs ns key (omega arith))
    ]

pub number_none : (bs : List Booking) (ns : List ℕ) (key : Key) → is_booked bs key ≡ false → number_of bs ns key ≡ None
number_none [] ns key absent = refl
number_none (b ∷ bs) [] key absent = refl
number_none (b ∷ bs) (n ∷ ns) key absent =
    let parts = or_parts (same_key b.key key) (is_booked bs key) absent in
    rw parts.0 (number_none bs ns key parts.1)

-- where a booking of the key stands
pub record StandsAt (bs : List Booking) (ns : List ℕ) (key : Key) (n p : ℕ) : Type 0 where
  pub inside : p < length bs
  pub its_key : (d : Booking) → (get_or bs p d).key ≡ key
  pub its_number : (d : ℕ) → get_or ns p d ≡ n

pub number_place : (bs : List Booking) (ns : List ℕ) (key : Key) (n : ℕ) → number_of bs ns key ≡ Some n → (p : ℕ) × StandsAt bs ns key n p
number_place [] ns key n found = cc
number_place (b ∷ bs) [] key n found = cc
number_place (b ∷ bs) (m ∷ ns) key n found =
    elim (cases_Bool (same_key b.key key)) [
      | inl here ↦
          let same : Some m ≡ Some n = sym (cond-true (same_key b.key key) (Some m) (number_of bs ns key) here) ∙ found in
          (0, record { inside = omega arith; its_key = λ d. same_key-true b.key key here; its_number = λ d. (cc) })
      | inr other ↦
          let rest = number_place bs ns key n (sym (cond-false (same_key b.key key) (Some m) (number_of bs ns key) other) ∙ found) in
          (suc rest.0, record { inside = (let h = rest.1.inside in omega arith); its_key = rest.1.its_key; its_number = rest.1.its_number })
    ]

-- one more booking, of a new key
pub number_push : (bs : List Booking) (ns : List ℕ) (b : Booking) (n : ℕ) (key : Key) → length ns ≡ length bs → is_booked bs b.key ≡ false → number_of (bs ++ b ∷ []) (ns ++ n ∷ []) key ≡ (if same_key b.key key then Some n else number_of bs ns key)
number_push [] [] b n key count fresh = refl
number_push [] (m ∷ ns) b n key count fresh = absurd (omega arith)
number_push (a ∷ bs) [] b n key count fresh = absurd (omega arith)
number_push (a ∷ bs) (m ∷ ns) b n key count fresh =
    let parts = or_parts (same_key a.key b.key) (is_booked bs b.key) fresh in
    let rest = number_push bs ns b n key (omega arith) parts.1 in
    elim (cases_Bool (same_key a.key key)) [
      | inl here ↦
          let apart : same_key b.key key ≡ false = rw (← same_key-true a.key key here) (same_key-comm b.key a.key ∙ parts.0) in
          rw (here, apart) refl
      | inr other ↦ rw other rest
    ]

-- the key of a later booking is another
apart_at : (a : Booking) (bs : List Booking) (key : Key) (p : ℕ) → not (is_booked bs a.key) ≡ true → p < length bs → ((d : Booking) → (get_or bs p d).key ≡ key) → same_key a.key key ≡ false
apart_at a bs key p once inside at =
    let fresh = all_fail (λ (o : Booking). same_key o.key a.key) bs (not-true (is_booked bs a.key) once) p a inside in
    same_key-comm a.key key ∙ (sym (ap (λ (k : Key). same_key k a.key) (at a)) ∙ fresh)

-- without the booking of a key
pub removed_is_without : (bs : List Booking) (key : Key) (p : ℕ) → booked_once bs ≡ true → p < length bs → ((d : Booking) → (get_or bs p d).key ≡ key) → remove bs p ≡ without key bs
removed_is_without [] key p once inside at = absurd (omega arith)
removed_is_without (a ∷ bs) key zero once inside at =
    let parts = and_parts (not (is_booked bs a.key)) (booked_once bs) once in
    let absent : is_booked bs key ≡ false = rw (← at a) (not-true (is_booked bs a.key) parts.0) in
    let gone : not (same_key a.key key) ≡ false = not_from_true (same_key a.key key) (rw (at a) (same_key-refl key)) in
    sym (cond-false (not (same_key a.key key)) (a ∷ without key bs) (without key bs) gone ∙ without_absent bs key absent)
removed_is_without (a ∷ bs) key (suc p) once inside at =
    let parts = and_parts (not (is_booked bs a.key)) (booked_once bs) once in
    let apart = apart_at a bs key p parts.0 (omega arith) at in
    let rest = removed_is_without bs key p parts.1 (omega arith) at in
    sym (cond-true (not (same_key a.key key)) (a ∷ without key bs) (without key bs) (not_from_false _ apart) ∙ ap (λ (ys : List Booking). a ∷ ys) (sym rest))

pub number_removed : (bs : List Booking) (ns : List ℕ) (key : Key) (p : ℕ) (other : Key) → length ns ≡ length bs → booked_once bs ≡ true → p < length bs → ((d : Booking) → (get_or bs p d).key ≡ key) → number_of (remove bs p) (remove ns p) other ≡ (if same_key key other then None else number_of bs ns other)
number_removed [] ns key p other count once inside at = absurd (omega arith)
number_removed (a ∷ bs) [] key p other count once inside at = absurd (omega arith)
number_removed (a ∷ bs) (m ∷ ns) key zero other count once inside at =
    let parts = and_parts (not (is_booked bs a.key)) (booked_once bs) once in
    let absent : is_booked bs key ≡ false = rw (← at a) (not-true (is_booked bs a.key) parts.0) in
    elim (cases_Bool (same_key key other)) [
      | inl same ↦ rw (same, ← same_key-true key other same) (number_none bs ns key absent)
      | inr apart ↦
          let gone : same_key a.key other ≡ false = rw (at a) apart in
          rw (apart, gone) refl
    ]
number_removed (a ∷ bs) (m ∷ ns) key (suc p) other count once inside at =
    let parts = and_parts (not (is_booked bs a.key)) (booked_once bs) once in
    let apart = apart_at a bs key p parts.0 (omega arith) at in
    let rest = number_removed bs ns key p other (omega arith) parts.1 (omega arith) at in
    elim (cases_Bool (same_key a.key other)) [
      | inl here ↦
          let gone : same_key key other ≡ false = rw (← same_key-true a.key other here) (same_key-comm key a.key ∙ apart) in
          rw (here, gone) refl
      | inr away ↦ rw away rest
    ]

pub parted_below : (ns : List ℕ) (t : ℕ) → AllPairs (λ (a b : ℕ). a < b) ns → IsPartitionedBy (λ (n : ℕ). ltb n t) ns
parted_below ns t rising i j d le inside passes =
    elim (cases_lt i j) [
      | inl before ↦ (let h = rising i j d before inside in grind (arith, nat_tests))
      | inr not_before ↦ (let same : i ≡ j = omega arith in rw same passes)
    ]

-- the place of a key's number is the place of its booking
pub place_is : (bs : List Booking) (ns : List ℕ) (key : Key) (n place : ℕ) → Some n ≡ number_of bs ns key → ((p : ℕ) → p < length ns → get_or ns p 0 ≡ n → place ≡ p) → length ns ≡ length bs → StandsAt bs ns key n place
place_is bs ns key n place found only count =
    let stand = number_place bs ns key n (sym found) in
    let same : place ≡ stand.0 = only stand.0 (let h = stand.1.inside in omega arith) (stand.1.its_number 0) in
    rw same stand.1

pub removed_keyed : (bs : List Booking) (ns : List ℕ) (next : ℕ) (f g : Key → Option ℕ) (key : Key) (n p : ℕ) → IsKeyed bs ns next f → StandsAt bs ns key n p → ((q : Key) → g q ≡ cond (is_eq (key_order key q)) None (f q)) → IsKeyed (remove bs p) (remove ns p) next g
removed_keyed bs ns next f g key n p keyed at after =
    let inside = at.inside in
    let count = keyed.count in
    let within : p < length ns = omega arith in
    let below = λ (n : ℕ). n < next in
    record {
      once = rw (removed_is_without bs key p keyed.once inside at.its_key) (once-filter (λ (b : Booking). not (same_key b.key key)) bs keyed.once);
      count = omega (arith, length-remove bs p inside, length-remove ns p within);
      rising = all_pairs_remove (λ (a b : ℕ). a < b) ns p within keyed.rising;
      few = (let h = keyed.few in omega (arith, length-remove bs p inside));
      within = keyed.within;
      below = All-append below _ _ (All-take below p ns keyed.below) (All-drop below (suc p) ns keyed.below);
      keys = λ q. rw (after q, order_same key q, keyed.keys q, number_removed bs ns key p q count keyed.once inside at.its_key) refl;
    }

pub pushed_keyed : (bs : List Booking) (ns : List ℕ) (next : ℕ) (f g : Key → Option ℕ) (b : Booking) → IsKeyed bs ns next f → next + 1 ≤ most_numbers → is_booked bs b.key ≡ false → ((q : Key) → g q ≡ cond (is_eq (key_order b.key q)) (Some next) (f q)) → IsKeyed (bs ++ b ∷ []) (ns ++ next ∷ []) (next + 1) g
pushed_keyed bs ns next f g b keyed within fresh after =
    let count = keyed.count in
    let below = λ (n : ℕ). n < next in
    let more = λ (n : ℕ). n < next + 1 in
    record {
      once = once-push bs b keyed.once fresh;
      count = omega (arith, length-append bs (b ∷ []), length-append ns (next ∷ []));
      rising = all_pairs_push (λ (a b : ℕ). a < b) ns next keyed.rising (λ k d inside. keyed.below k d inside);
      few = (let h = keyed.few in omega (arith, length-append bs (b ∷ [])));
      within = within;
      below = All-append more ns (next ∷ []) (All-weaker below more (λ n lt. omega arith) ns keyed.below) (All-cons more next [] (omega arith) (All-nil more));
      keys = λ q. rw (after q, order_same b.key q, keyed.keys q, number_push bs ns b next q count fresh) refl;
    }
