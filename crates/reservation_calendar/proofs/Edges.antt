-- From one moment to the next: where loads rise and fall, and so where a least moment may lie.
use Rattle.std.proofs.Common.{◌≡◌, ℕ, zero, suc, ◌+◌, ◌<◌, ◌≤◌, ◌⊎◌, Bool, true, false, eqb, List, [], ◌∷◌, All, inl, inr, refl, arith}
use Rattle.std.specs.List.{list_any}
use Rattle.std.proofs.lemmas.Bool.{cases_lt, eqb-false, ltb-true, lt-ltb, or_parts, true_from_ne_false}
use Rattle.std.proofs.lemmas.List.Elements.{All-nil, All-cons, All-weaker}
use Rattle.drmaa_types.specs.Moments.{greatest}
use Rattle.drmaa_types.specs.declared.moments.End.{End}
use Rattle.drmaa_types.specs.declared.moments.End.TheVariants.{At, Never}
use Rattle.reservation_calendar.specs.declared.bookings.Booking.{Booking}
use Rattle.reservation_calendar.specs.Loads.{is_before, covers, load, is_end, starts_at, ends_at}
use Rattle.reservation_calendar.specs.Schedules.{Schedule}
use Rattle.reservation_calendar.specs.Fitting.{IsOverfull, IsFittingStart}
use Rattle.reservation_calendar.proofs.Ends.{is_before-le}
use Rattle.reservation_calendar.proofs.LoadLaws.{covers-from, covers-until, covers-by, load-le}

-- where some element passes is false, each fails
pub all_fail : {X : Type 0} (p : X → Bool) (xs : List X) → list_any p xs ≡ false → All (λ x. p x ≡ false) xs
all_fail {X} p [] h = All-nil (λ (x : X). p x ≡ false)
all_fail {X} p (x ∷ xs) h =
    let parts = or_parts (p x) (list_any p xs) h in
    All-cons (λ (y : X). p y ≡ false) x xs parts.0 (all_fail p xs parts.1)

covers-previous : (x y : ℕ) (b : Booking) → y ≡ x + 1 → eqb b.from y ≡ false → covers y b ≡ true → covers x b ≡ true
covers-previous x y b next apart h =
    let since = covers-from y b h in
    let other = eqb-false b.from y apart in
    covers-by x b (omega arith) (is_before-le x y b.until (omega arith) (covers-until y b h))

pub load_rises : (bs : List Booking) (x y : ℕ) → y ≡ x + 1 → starts_at bs y ≡ false → load bs y ≤ load bs x
load_rises bs x y next none =
    load-le bs y x (All-weaker (λ b. eqb b.from y ≡ false) (λ b. covers y b ≡ true → covers x b ≡ true) (λ b apart h. covers-previous x y b next apart h) bs
    (all_fail (λ (b : Booking). eqb b.from y) bs none))

lasts_one_more : (x y : ℕ) (until : End) → y ≡ x + 1 → is_end y until ≡ false → is_before x until ≡ true → is_before y until ≡ true
lasts_one_more x y (At m) next apart h =
    let other = eqb-false m y apart in
    let before = ltb-true x m h in
    lt-ltb y m (omega arith)
lasts_one_more x y Never next apart h = refl

pub load_falls : (bs : List Booking) (x y : ℕ) → y ≡ x + 1 → ends_at bs y ≡ false → load bs x ≤ load bs y
load_falls bs x y next none =
    load-le bs x y (All-weaker (λ b. is_end y b.until ≡ false) (λ b. covers x b ≡ true → covers y b ≡ true)
    (λ b apart h. (let since = covers-from x b h in covers-by y b (omega arith) (lasts_one_more x y b.until next apart (covers-until x b h)))) bs
    (all_fail (λ (b : Booking). is_end y b.until) bs none))

-- where no booking starts at x, the moment before it is overfull too
pub overfull_before : (s : Schedule) (slots from : ℕ) (until : End) (x y : ℕ) → x ≡ y + 1 → from ≤ y → starts_at s.bookings x ≡ false → IsOverfull s slots from until x → IsOverfull s slots from until y
overfull_before s slots from until x y next since none over =
    let inside = over.inside in
    let moment = inside.moment in
    let above = over.above in
    record {
      inside = record { since = since; before = is_before-le y x until (omega arith) inside.before; moment = omega arith };
      above = omega (arith, load_rises s.bookings y x next none);
    }

-- where no booking ends at x, the moment before it is a fitting start too
pub fitting_before : (s : Schedule) (slots from until span x y : ℕ) → x ≡ y + 1 → from ≤ y → 0 < span → until ≤ greatest → ends_at s.bookings x ≡ false → IsFittingStart s slots from until span x → IsFittingStart s slots from until span y
fitting_before s slots from until span x y next since some frame none fitting =
    let ends = fitting.inside in
    record {
      since = since;
      inside = omega arith;
      fits = λ z inside.
          (let soon = ltb-true z (y + span) inside.before in
          let after = inside.since in
          elim (cases_lt z x) [
            | inl sooner ↦
                let here = fitting.fits x (record { since = omega arith; before = lt-ltb x (x + span) (omega arith); moment = omega arith }) in
                let same : z ≡ y = omega arith in
                rw same (omega (arith, load_falls s.bookings y x next none))
            | inr later ↦ fitting.fits z (record { since = later; before = lt-ltb z (x + span) (omega arith); moment = inside.moment })
          ]);
    }

-- a moment from `from` on is it, or has one before it that is not before `from`
first_or_later : (from x : ℕ) → from ≤ x → (x ≡ from) ⊎ ((y : ℕ) × (x ≡ y + 1) × (from ≤ y))
first_or_later from zero h = inl (omega arith)
first_or_later from (suc y) h =
    elim (cases_lt y from) [
      | inl first ↦ inl (omega arith)
      | inr later ↦ inr (y, omega arith, later)
    ]

pub least_overfull : (s : Schedule) (slots from : ℕ) (until : End) (x : ℕ) → IsOverfull s slots from until x → ((y : ℕ) → IsOverfull s slots from until y → x ≤ y) → (x ≡ from) ⊎ (starts_at s.bookings x ≡ true)
least_overfull s slots from until x over least =
    elim (first_or_later from x over.inside.since) [
      | inl first ↦ inl first
      | inr previous ↦ inr (true_from_ne_false (starts_at s.bookings x) (λ none.
          let y = previous.0 in
          let next = previous.1 in
          let before = least y (overfull_before s slots from until x y next previous.2 none over) in
          omega arith))
    ]

pub least_fitting : (s : Schedule) (slots from until span x : ℕ) → 0 < span → until ≤ greatest → IsFittingStart s slots from until span x → ((y : ℕ) → IsFittingStart s slots from until span y → x ≤ y) → (x ≡ from) ⊎ (ends_at s.bookings x ≡ true)
least_fitting s slots from until span x some frame fitting least =
    elim (first_or_later from x fitting.since) [
      | inl first ↦ inl first
      | inr previous ↦ inr (true_from_ne_false (ends_at s.bookings x) (λ none.
          let y = previous.0 in
          let next = previous.1 in
          let before = least y (fitting_before s slots from until span x y next previous.2 some frame none fitting) in
          omega arith))
    ]
