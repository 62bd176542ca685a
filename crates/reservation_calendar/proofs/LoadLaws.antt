-- Where a load may rise and fall.
use Rattle.std.proofs.Common.{◌≡◌, ℕ, ◌≤◌, true, leb, List, [], ◌∷◌, All, inl, inr, arith}
use Rattle.std.proofs.lemmas.Bool.{leb-true, le-leb, and_parts, and_from, cases_Bool, cond-true, cond-false}
use Rattle.std.proofs.lemmas.List.Sums.{sum_by-cons}
use Rattle.std.proofs.lemmas.List.Elements.{All-head, All-tail}
use Rattle.reservation_calendar.specs.declared.bookings.Booking.{Booking}
use Rattle.reservation_calendar.specs.Loads.{is_before, covers, slots_at, load}

-- what a booking covers, in parts
pub covers-from : (x : ℕ) (b : Booking) → covers x b ≡ true → b.from ≤ x
covers-from x b h = leb-true b.from x (and_parts (leb b.from x) (is_before x b.until) h).0

pub covers-until : (x : ℕ) (b : Booking) → covers x b ≡ true → is_before x b.until ≡ true
covers-until x b h = (and_parts (leb b.from x) (is_before x b.until) h).1

pub covers-by : (x : ℕ) (b : Booking) → b.from ≤ x → is_before x b.until ≡ true → covers x b ≡ true
covers-by x b since before = and_from (leb b.from x) (is_before x b.until) (le-leb b.from x since) before

-- a booking takes no more at x than at y, if it covers y where it covers x
pub slots_at-le : (b : Booking) (x y : ℕ) → (covers x b ≡ true → covers y b ≡ true) → slots_at x b ≤ slots_at y b
slots_at-le b x y h =
    elim (cases_Bool (covers x b)) [
      | inl covered ↦ rw (cond-true (covers x b) b.slots 0 covered, cond-true (covers y b) b.slots 0 (h covered)) (omega arith)
      | inr free ↦ rw (cond-false (covers x b) b.slots 0 free) (omega arith)
    ]

pub load-le : (bs : List Booking) (x y : ℕ) → All (λ b. covers x b ≡ true → covers y b ≡ true) bs → load bs x ≤ load bs y
load-le [] x y h = omega arith
load-le (b ∷ bs) x y h =
    let P = λ (b' : Booking). covers x b' ≡ true → covers y b' ≡ true in
    rw (sum_by-cons (slots_at x) b bs, sum_by-cons (slots_at y) b bs)
    (omega (arith, slots_at-le b x y (All-head P b bs h), load-le bs x y (All-tail P b bs h)))
