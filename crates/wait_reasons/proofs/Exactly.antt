-- A reason stands exactly where what it says is so.
use Rattle.std.proofs.Common.{◌≡◌, ℕ, ◌+◌, ◌-◌, ◌<◌, ◌≤◌, Bool, true, false, nat_lt, nat_le, ◌&&◌, List, [], ◌∷◌, ◌++◌, Option, Some, None, refl, sym, ap, subst, arith, inl, inr}
use Rattle.std.specs.Prelude.{◌⊎◌, ◌↔◌}
use Rattle.std.specs.List.{Contains}
use Rattle.std.specs.Option.{option_map, option_map_or}
use Rattle.std.proofs.lemmas.Bool.{leb-false, ltb-false, lt-leb, le-ltb, and_cases, and_left, and_right}
use Rattle.std.proofs.lemmas.List.Elements.{Contains-append_left, Contains-append_right, Contains-append_cases, Contains-push, Contains-push_cases}
use Rattle.drmaa_types.specs.Queues.{queue_at}
use Rattle.drmaa_types.specs.declared.identifiers.ArrayId.{ArrayId}
use Rattle.drmaa_types.specs.declared.identifiers.ReservationId.{ReservationId}
use Rattle.drmaa_types.specs.declared.queues.QueueSpec.{QueueSpec}
use Rattle.drmaa_types.specs.declared.states.JobState.{JobState}
use Rattle.drmaa_model.specs.declared.reservations.Accepted.{Accepted}
use Rattle.drmaa_model.specs.declared.rows.Row.{Row}
use Rattle.drmaa_model.specs.Courses.{planned_end}
use Rattle.drmaa_model.specs.Load.{covers, in_reservation, in_queue, in_array, reservation_of, first_overfull}
use Rattle.drmaa_model.specs.NextLaunch.{held, is_queued}
use Rattle.drmaa_model.specs.Plan.{Plan}
use Rattle.wait_reasons.specs.declared.reasons.Reason.{Reason}
use Rattle.wait_reasons.specs.declared.reasons.Reason.TheVariants.{NotQueued, StartsAt, ArrayFull, FewFree, Overfull, QueueFull, ReservationGone, ReservationOutside, ReservationFull}
use Rattle.wait_reasons.specs.Meanings.{IsSo}
use Rattle.wait_reasons.specs.Reasons.{unless, state_reason, start_reason, array_reason, free_reason, covering, calendar_reason, queue_reason, ordinary_reasons, inside_reasons, reservation_reasons, coming_reasons, place_reasons, reasons}

-- ---- no other reason stands

abbrev Only : (Reason → Type 0) → List Reason → Type 0
Only P rs = (r : Reason) → Contains rs r → P r

nothing : (P : Reason → Type 0) → Only P []
nothing P r c = absurd (let less = c.1 in omega arith)

one : (P : Reason → Type 0) (x : Reason) → P x → Only P (x ∷ [])
one P x so r c = elim (Contains-push_cases [] x r c) as (λ _. P r) [ inl none ↦ nothing P r none | inr same ↦ subst P same so ]

failing : (P : Reason → Type 0) (holds : Bool) (x : Reason) → (holds ≡ false → P x) → Only P (unless holds x)
failing P true x so = nothing P
failing P false x so = one P x (so refl)

both : (P : Reason → Type 0) (xs ys : List Reason) → Only P xs → Only P ys → Only P (xs ++ ys)
both P xs ys f g r c = elim (Contains-append_cases xs ys r c) as (λ _. P r) [ inl a ↦ f r a | inr b ↦ g r b ]

start_only : (p : Plan) (slots : ℕ) (row : Row) (start : Option ℕ) → row.wants.start ≡ start → Only (IsSo p slots row) (start_reason p.moment start)
start_only p slots row None is = nothing (IsSo p slots row)
start_only p slots row (Some start) is = failing (IsSo p slots row) (nat_le start p.moment) (StartsAt start) (λ e. (is, leb-false start p.moment e))

array_only : (p : Plan) (slots : ℕ) (row : Row) (bound : Option ℕ) (array : Option ArrayId) → row.wants.bound ≡ bound → row.wants.array ≡ array
    → Only (IsSo p slots row) (option_map_or (λ (b : ℕ). option_map_or (λ (a : ArrayId). unless (nat_lt (in_array a p.rows) b) (ArrayFull (in_array a p.rows) b)) array []) bound [])
array_only p slots row None array is of = nothing (IsSo p slots row)
array_only p slots row (Some bound) None is of = nothing (IsSo p slots row)
array_only p slots row (Some bound) (Some array) is of =
    failing (IsSo p slots row) (nat_lt (in_array array p.rows) bound) (ArrayFull (in_array array p.rows) bound)
    (λ e. (is, ap (λ (o : Option ArrayId). option_map (λ (a : ArrayId). in_array a p.rows) o) of, ltb-false (in_array array p.rows) bound e))

calendar_only : (p : Plan) (slots : ℕ) (row : Row) → row.wants.reservation ≡ None → (found : Option ℕ) → first_overfull p slots p.moment (planned_end row.wants p.moment) ≡ found
    → Only (IsSo p slots row) (calendar_reason p.reservations slots found)
calendar_only p slots row ordinary None is = nothing (IsSo p slots row)
calendar_only p slots row ordinary (Some moment) is = one (IsSo p slots row) (Overfull slots moment (covering moment p.reservations)) (ordinary, refl, is, refl)

queue_only : (p : Plan) (slots : ℕ) (row : Row) (place : ℕ) → row.wants.reservation ≡ None → row.wants.queue ≡ Some place → (queue : Option QueueSpec) → queue_at place p.queues ≡ queue
    → Only (IsSo p slots row) (option_map_or (λ (q : QueueSpec). unless (nat_le (in_queue place p.rows + slots) q.limit) (QueueFull place (in_queue place p.rows) q.limit)) queue [])
queue_only p slots row place ordinary of None is = nothing (IsSo p slots row)
queue_only p slots row place ordinary of (Some queue) is =
    failing (IsSo p slots row) (nat_le (in_queue place p.rows + slots) queue.limit) (QueueFull place (in_queue place p.rows) queue.limit)
    (λ e. (ordinary, of, ap (λ (o : Option QueueSpec). option_map (λ (q : QueueSpec). q.limit) o) is, refl, leb-false (in_queue place p.rows + slots) queue.limit e))

of_queue_only : (p : Plan) (slots : ℕ) (row : Row) → row.wants.reservation ≡ None → (queue : Option ℕ) → row.wants.queue ≡ queue → Only (IsSo p slots row) (option_map_or (queue_reason p slots) queue [])
of_queue_only p slots row ordinary None of = nothing (IsSo p slots row)
of_queue_only p slots row ordinary (Some place) of = queue_only p slots row place ordinary of (queue_at place p.queues) refl

outside : (x from until : ℕ) → (nat_le from x && nat_lt x until) ≡ false → (x < from) ⊎ (until ≤ x)
outside x from until e = elim (and_cases (nat_le from x) (nat_lt x until) e) as (λ _. (x < from) ⊎ (until ≤ x)) [ inl a ↦ inl (leb-false from x a) | inr b ↦ inr (ltb-false x until b) ]

inside_only : (p : Plan) (slots : ℕ) (row : Row) (number : ReservationId) → row.wants.reservation ≡ Some number → (found : Option Accepted) → reservation_of number p.reservations ≡ found
    → Only (IsSo p slots row) (option_map_or (inside_reasons p slots number) found (ReservationGone number ∷ []))
inside_only p slots row number named None is = one (IsSo p slots row) (ReservationGone number) (named, is)
inside_only p slots row number named (Some a) is =
    both (IsSo p slots row) (unless (covers p.moment a) (ReservationOutside number a.from a.until))
    (unless (nat_le (in_reservation number p.rows + slots) a.slots) (ReservationFull number (in_reservation number p.rows) a.slots))
    (failing (IsSo p slots row) (covers p.moment a) (ReservationOutside number a.from a.until)
    (λ e. (named, ap (λ (o : Option Accepted). option_map (λ (b : Accepted). b.from) o) is, ap (λ (o : Option Accepted). option_map (λ (b : Accepted). b.until) o) is, outside p.moment a.from a.until e)))
    (failing (IsSo p slots row) (nat_le (in_reservation number p.rows + slots) a.slots) (ReservationFull number (in_reservation number p.rows) a.slots)
    (λ e. (named, ap (λ (o : Option Accepted). option_map (λ (b : Accepted). b.slots) o) is, refl, leb-false (in_reservation number p.rows + slots) a.slots e)))

place_only : (p : Plan) (slots : ℕ) (row : Row) (reservation : Option ReservationId) → row.wants.reservation ≡ reservation
    → Only (IsSo p slots row) (option_map_or (reservation_reasons p slots) reservation (ordinary_reasons p slots row.wants))
place_only p slots row None of =
    both (IsSo p slots row) (calendar_reason p.reservations slots (first_overfull p slots p.moment (planned_end row.wants p.moment))) (option_map_or (queue_reason p slots) row.wants.queue [])
    (calendar_only p slots row of (first_overfull p slots p.moment (planned_end row.wants p.moment)) refl) (of_queue_only p slots row of row.wants.queue refl)
place_only p slots row (Some number) of = inside_only p slots row number of (reservation_of number p.reservations) refl

only : (p : Plan) (slots : ℕ) (row : Row) → Only (IsSo p slots row) (reasons p slots row)
only p slots row =
    both (IsSo p slots row) (coming_reasons p row) (free_reason p slots ++ place_reasons p slots row.wants)
    (both (IsSo p slots row) (state_reason row.course.state ++ start_reason p.moment row.wants.start) (array_reason p.rows row.wants)
    (both (IsSo p slots row) (state_reason row.course.state) (start_reason p.moment row.wants.start)
    (failing (IsSo p slots row) (is_queued row.course.state) (NotQueued row.course.state) (λ e. (refl, e))) (start_only p slots row row.wants.start refl))
    (array_only p slots row row.wants.bound row.wants.array refl refl))
    (both (IsSo p slots row) (free_reason p slots) (place_reasons p slots row.wants)
    (failing (IsSo p slots row) (nat_le (held p.rows + slots) p.total) (FewFree slots (p.total - held p.rows)) (λ e. (refl, refl, leb-false (held p.rows + slots) p.total e)))
    (place_only p slots row row.wants.reservation refl))

-- ---- each reason that is so stands

fails : (holds : Bool) (x : Reason) → holds ≡ false → Contains (unless holds x) x
fails true x e = absurd (cc)
fails false x e = Contains-push [] x

array_has : (p : Plan) (holding bound : ℕ) (array : Option ArrayId) → option_map (λ (a : ArrayId). in_array a p.rows) array ≡ Some holding → bound ≤ holding
    → Contains (option_map_or (λ (a : ArrayId). unless (nat_lt (in_array a p.rows) bound) (ArrayFull (in_array a p.rows) bound)) array []) (ArrayFull holding bound)
array_has p holding bound None is full = absurd (cc)
array_has p holding bound (Some a) is full =
    let same : in_array a p.rows ≡ holding = cc in
    subst (λ (n : ℕ). Contains (unless (nat_lt (in_array a p.rows) bound) (ArrayFull (in_array a p.rows) bound)) (ArrayFull n bound)) same
    (fails (nat_lt (in_array a p.rows) bound) (ArrayFull (in_array a p.rows) bound) (le-ltb (in_array a p.rows) bound (omega (arith, same, full))))

queue_has : (p : Plan) (slots place limit : ℕ) (queue : Option QueueSpec) → option_map (λ (q : QueueSpec). q.limit) queue ≡ Some limit → limit < in_queue place p.rows + slots
    → Contains (option_map_or (λ (q : QueueSpec). unless (nat_le (in_queue place p.rows + slots) q.limit) (QueueFull place (in_queue place p.rows) q.limit)) queue []) (QueueFull place (in_queue place p.rows) limit)
queue_has p slots place limit None is full = absurd (cc)
queue_has p slots place limit (Some q) is full =
    let same : q.limit ≡ limit = cc in
    subst (λ (n : ℕ). Contains (unless (nat_le (in_queue place p.rows + slots) q.limit) (QueueFull place (in_queue place p.rows) q.limit)) (QueueFull place (in_queue place p.rows) n)) same
    (fails (nat_le (in_queue place p.rows + slots) q.limit) (QueueFull place (in_queue place p.rows) q.limit) (lt-leb (in_queue place p.rows + slots) q.limit (omega (arith, same, full))))

uncovered : (x from until : ℕ) → (x < from) ⊎ (until ≤ x) → (nat_le from x && nat_lt x until) ≡ false
uncovered x from until (inl before) = and_left (nat_le from x) (nat_lt x until) (lt-leb from x before)
uncovered x from until (inr behind) = and_right (nat_le from x) (nat_lt x until) (le-ltb x until behind)

outside_has : (p : Plan) (slots : ℕ) (number : ReservationId) (from until : ℕ) (found : Option Accepted) → option_map (λ (a : Accepted). a.from) found ≡ Some from → option_map (λ (a : Accepted). a.until) found ≡ Some until
    → (p.moment < from) ⊎ (until ≤ p.moment) → Contains (option_map_or (inside_reasons p slots number) found (ReservationGone number ∷ [])) (ReservationOutside number from until)
outside_has p slots number from until None begins ends so = absurd (cc)
outside_has p slots number from until (Some a) begins ends so =
    let first : a.from ≡ from = cc in
    let last : a.until ≡ until = cc in
    let late : covers p.moment a ≡ false = subst (λ (n : ℕ). (nat_le n p.moment && nat_lt p.moment a.until) ≡ false) (sym first)
    (subst (λ (n : ℕ). (nat_le from p.moment && nat_lt p.moment n) ≡ false) (sym last) (uncovered p.moment from until so)) in
    subst (λ (n : ℕ). Contains (inside_reasons p slots number a) (ReservationOutside number n until)) first
    (subst (λ (n : ℕ). Contains (inside_reasons p slots number a) (ReservationOutside number a.from n)) last
    (Contains-append_left (unless (covers p.moment a) (ReservationOutside number a.from a.until))
    (unless (nat_le (in_reservation number p.rows + slots) a.slots) (ReservationFull number (in_reservation number p.rows) a.slots)) (ReservationOutside number a.from a.until)
    (fails (covers p.moment a) (ReservationOutside number a.from a.until) late)))

full_has : (p : Plan) (slots : ℕ) (number : ReservationId) (size : ℕ) (found : Option Accepted) → option_map (λ (a : Accepted). a.slots) found ≡ Some size → size < in_reservation number p.rows + slots
    → Contains (option_map_or (inside_reasons p slots number) found (ReservationGone number ∷ [])) (ReservationFull number (in_reservation number p.rows) size)
full_has p slots number size None is full = absurd (cc)
full_has p slots number size (Some a) is full =
    let same : a.slots ≡ size = cc in
    subst (λ (n : ℕ). Contains (inside_reasons p slots number a) (ReservationFull number (in_reservation number p.rows) n)) same
    (Contains-append_right (unless (covers p.moment a) (ReservationOutside number a.from a.until))
    (unless (nat_le (in_reservation number p.rows + slots) a.slots) (ReservationFull number (in_reservation number p.rows) a.slots)) (ReservationFull number (in_reservation number p.rows) a.slots)
    (fails (nat_le (in_reservation number p.rows + slots) a.slots) (ReservationFull number (in_reservation number p.rows) a.slots)
    (lt-leb (in_reservation number p.rows + slots) a.slots (omega (arith, same, full)))))

front : (p : Plan) (slots : ℕ) (row : Row) (r : Reason) → Contains (coming_reasons p row) r → Contains (reasons p slots row) r
front p slots row r c = Contains-append_left (coming_reasons p row) (free_reason p slots ++ place_reasons p slots row.wants) r c

middle : (p : Plan) (slots : ℕ) (row : Row) (r : Reason) → Contains (free_reason p slots) r → Contains (reasons p slots row) r
middle p slots row r c =
    Contains-append_right (coming_reasons p row) (free_reason p slots ++ place_reasons p slots row.wants) r (Contains-append_left (free_reason p slots) (place_reasons p slots row.wants) r c)

back : (p : Plan) (slots : ℕ) (row : Row) (r : Reason) → Contains (place_reasons p slots row.wants) r → Contains (reasons p slots row) r
back p slots row r c =
    Contains-append_right (coming_reasons p row) (free_reason p slots ++ place_reasons p slots row.wants) r (Contains-append_right (free_reason p slots) (place_reasons p slots row.wants) r c)

-- of an ordinary job, and of a job of a reservation
ordinarily : (p : Plan) (slots : ℕ) (row : Row) (r : Reason) → row.wants.reservation ≡ None → Contains (ordinary_reasons p slots row.wants) r → Contains (reasons p slots row) r
ordinarily p slots row r of c =
    back p slots row r (subst (λ (o : Option ReservationId). Contains (option_map_or (reservation_reasons p slots) o (ordinary_reasons p slots row.wants)) r) (sym of) c)

reservedly : (p : Plan) (slots : ℕ) (row : Row) (number : ReservationId) (r : Reason) → row.wants.reservation ≡ Some number → Contains (reservation_reasons p slots number) r → Contains (reasons p slots row) r
reservedly p slots row number r of c =
    back p slots row r (subst (λ (o : Option ReservationId). Contains (option_map_or (reservation_reasons p slots) o (ordinary_reasons p slots row.wants)) r) (sym of) c)

all : (p : Plan) (slots : ℕ) (row : Row) (r : Reason) → IsSo p slots row r → Contains (reasons p slots row) r
all p slots row (NotQueued state) so =
    let states = state_reason row.course.state in
    let starts = start_reason p.moment row.wants.start in
    front p slots row (NotQueued state) (Contains-append_left (states ++ starts) (array_reason p.rows row.wants) (NotQueued state)
    (Contains-append_left states starts (NotQueued state)
    (subst (λ (s : JobState). Contains (state_reason row.course.state) (NotQueued s)) (sym so.0) (fails (is_queued row.course.state) (NotQueued row.course.state) so.1))))
all p slots row (StartsAt start) so =
    let states = state_reason row.course.state in
    let starts = start_reason p.moment row.wants.start in
    front p slots row (StartsAt start) (Contains-append_left (states ++ starts) (array_reason p.rows row.wants) (StartsAt start)
    (Contains-append_right states starts (StartsAt start)
    (subst (λ (o : Option ℕ). Contains (start_reason p.moment o) (StartsAt start)) (sym so.0) (fails (nat_le start p.moment) (StartsAt start) (lt-leb start p.moment so.1)))))
all p slots row (ArrayFull holding bound) so =
    front p slots row (ArrayFull holding bound) (Contains-append_right (state_reason row.course.state ++ start_reason p.moment row.wants.start) (array_reason p.rows row.wants) (ArrayFull holding bound)
    (subst (λ (o : Option ℕ). Contains (option_map_or (λ (b : ℕ). option_map_or (λ (a : ArrayId). unless (nat_lt (in_array a p.rows) b) (ArrayFull (in_array a p.rows) b)) row.wants.array []) o []) (ArrayFull holding bound))
    (sym so.0) (array_has p holding bound row.wants.array so.1 so.2)))
all p slots row (FewFree wants free) so =
    middle p slots row (FewFree wants free) (subst (λ (n : ℕ). Contains (free_reason p slots) (FewFree n free)) (sym so.0)
    (subst (λ (n : ℕ). Contains (free_reason p slots) (FewFree slots n)) (sym so.1)
    (fails (nat_le (held p.rows + slots) p.total) (FewFree slots (p.total - held p.rows)) (lt-leb (held p.rows + slots) p.total so.2))))
all p slots row (Overfull wants moment number) so =
    let found = first_overfull p slots p.moment (planned_end row.wants p.moment) in
    ordinarily p slots row (Overfull wants moment number) so.0 (Contains-append_left (calendar_reason p.reservations slots found) (option_map_or (queue_reason p slots) row.wants.queue []) (Overfull wants moment number)
    (subst (λ (o : Option ℕ). Contains (calendar_reason p.reservations slots o) (Overfull wants moment number)) (sym so.2)
    (subst (λ (n : ℕ). Contains (calendar_reason p.reservations slots (Some moment)) (Overfull n moment number)) (sym so.1)
    (subst (λ (o : Option ReservationId). Contains (calendar_reason p.reservations slots (Some moment)) (Overfull slots moment o)) (sym so.3)
    (Contains-push [] (Overfull slots moment (covering moment p.reservations)))))))
all p slots row (QueueFull place used limit) so =
    let found = first_overfull p slots p.moment (planned_end row.wants p.moment) in
    ordinarily p slots row (QueueFull place used limit) so.0 (Contains-append_right (calendar_reason p.reservations slots found) (option_map_or (queue_reason p slots) row.wants.queue []) (QueueFull place used limit)
    (subst (λ (o : Option ℕ). Contains (option_map_or (queue_reason p slots) o []) (QueueFull place used limit)) (sym so.1)
    (subst (λ (n : ℕ). Contains (queue_reason p slots place) (QueueFull place n limit)) (sym so.3)
    (queue_has p slots place limit (queue_at place p.queues) so.2 (subst (λ (n : ℕ). limit < n + slots) so.3 so.4)))))
all p slots row (ReservationGone number) so =
    reservedly p slots row number (ReservationGone number) so.0
    (subst (λ (o : Option Accepted). Contains (option_map_or (inside_reasons p slots number) o (ReservationGone number ∷ [])) (ReservationGone number)) (sym so.1) (Contains-push [] (ReservationGone number)))
all p slots row (ReservationOutside number from until) so =
    reservedly p slots row number (ReservationOutside number from until) so.0 (outside_has p slots number from until (reservation_of number p.reservations) so.1 so.2 so.3)
all p slots row (ReservationFull number used size) so =
    reservedly p slots row number (ReservationFull number used size) so.0
    (subst (λ (n : ℕ). Contains (reservation_reasons p slots number) (ReservationFull number n size)) (sym so.2)
    (full_has p slots number size (reservation_of number p.reservations) so.1 (subst (λ (n : ℕ). size < n + slots) so.2 so.3)))

pub exactly : (p : Plan) (slots : ℕ) (row : Row) (r : Reason) → Contains (reasons p slots row) r ↔ IsSo p slots row r
exactly p slots row r = (only p slots row r, all p slots row r)
