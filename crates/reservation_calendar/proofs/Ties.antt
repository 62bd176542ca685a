-- A timeline that agrees with bookings: what one says of the other.
use Rattle.std.proofs.Common.{◌≡◌, ℕ, ◌+◌, ◌-◌, ◌*◌, ◌≤◌, true, false, eqb, List, [], ◌∷◌, ◌++◌, length, get_or, Contains, if◌then◌else◌, inl, inr, refl, sym, ap, ◌∙◌, subst, arith}
use Rattle.std.specs.List.{list_all}
use Rattle.std.proofs.lemmas.Bool.{cases_Bool, cond_both, cond-true, cond-false, eq-eqb, or_from}
use Rattle.std.proofs.lemmas.List.Sums.{sum_by-cons, sum_by_push, sum_by-le, AllPass-from_list_all}
use Rattle.drmaa_types.specs.declared.moments.End.{End}
use Rattle.drmaa_types.specs.declared.moments.End.TheVariants.{At}
use Rattle.reservation_calendar.specs.declared.bookings.Booking.{Booking}
use Rattle.reservation_calendar.specs.declared.boundaries.Boundary.{Boundary}
use Rattle.reservation_calendar.specs.Loads.{is_before, covers, load, slots_at, is_end, starts_at, ends_at}
use Rattle.reservation_calendar.specs.Schedules.{schedule, without, IsSound}
use Rattle.reservation_calendar.specs.Fitting.{IsIn, IsOverfull, Fits, IsFittingStart}
use Rattle.reservation_calendar.specs.Timelines.{load_at, edges_at, edges_of, edges, IsLevel}
use Rattle.reservation_calendar.specs.Heights.{IsLow, IsAbove, IsLowStart}
use Rattle.reservation_calendar.specs.Calendars.{IsCalendar}
use Rattle.reservation_calendar.proofs.LoadLaws.{covers-from}
use Rattle.reservation_calendar.proofs.Edges.{load_rises, load_falls}
use Rattle.reservation_calendar.proofs.Keeping.{sum-without}

module _ (bs : List Booking) (steps : List Boundary) (total : ℕ) (kept : IsCalendar bs steps total) (slots most : ℕ) (room : total ≡ most + slots) where
  pub above_overfull : (from : ℕ) (until : End) (x : ℕ) → IsAbove steps most from until x → IsOverfull (schedule bs total) slots from until x
  above_overfull from until x a = record { inside = a.inside; above = (let h = a.above in omega (arith, kept.loads x)) }

  pub overfull_above : (from : ℕ) (until : End) (x : ℕ) → IsOverfull (schedule bs total) slots from until x → IsAbove steps most from until x
  overfull_above from until x o = record { inside = o.inside; above = (let h = o.above in omega (arith, kept.loads x)) }

  pub low_fits : (from : ℕ) (until : End) → IsLow steps most from until → Fits (schedule bs total) slots from until
  low_fits from until low x inside = omega (arith, low x inside, kept.loads x)

  pub fits_low : (from : ℕ) (until : End) → Fits (schedule bs total) slots from until → IsLow steps most from until
  fits_low from until fits x inside = omega (arith, fits x inside, kept.loads x)

  pub low_start_fits : (from until span x : ℕ) → IsLowStart steps most from until span x → IsFittingStart (schedule bs total) slots from until span x
  low_start_fits from until span x s = record { since = s.since; inside = s.inside; fits = low_fits x (At (x + span)) s.low }

  pub fitting_low_start : (from until span x : ℕ) → IsFittingStart (schedule bs total) slots from until span x → IsLowStart steps most from until span x
  fitting_low_start from until span x s = record { since = s.since; inside = s.inside; low = fits_low x (At (x + span)) s.fits }

-- the load is never above the total, and so the greatest load leaves room for each number that fits
pub low_total : (bs : List Booking) (steps : List Boundary) (total from : ℕ) (until : End) → IsCalendar bs steps total → IsLow steps total from until
low_total bs steps total from until kept x inside = (let within = kept.sound.within x inside.moment in omega (arith, kept.loads x))

pub room_most : (bs : List Booking) (steps : List Boundary) (total from : ℕ) (until : End) (g m : ℕ) → IsCalendar bs steps total → IsIn from until from → ((most : ℕ) → IsLow steps most from until → g ≤ most) → Fits (schedule bs total) m from until → m + g ≤ total
room_most bs steps total from until g m kept start least fits =
    let here = fits from start in
    let most = least (total - m) (λ x inside. omega (arith, fits x inside, kept.loads x)) in
    omega arith

-- a booking starts once, and ends at most once
edges_of-le : (x : ℕ) (b : Booking) → edges_of x b ≤ 2
edges_of-le x b =
    cond_both (eqb b.from x) 1 0 (λ n. n + (if is_end x b.until then 1 else 0) ≤ 2)
    (λ _. cond_both (is_end x b.until) 1 0 (λ n. 1 + n ≤ 2) (λ _. omega arith) (λ _. omega arith))
    (λ _. cond_both (is_end x b.until) 1 0 (λ n. 0 + n ≤ 2) (λ _. omega arith) (λ _. omega arith))

pub edges-le : (bs : List Booking) (x : ℕ) → edges bs x ≤ length bs * 2
edges-le bs x = sum_by-le (edges_of x) 2 bs (λ k d inside. edges_of-le x (get_or bs k d))

-- one more booking
pub kept_push : (bs : List Booking) (low high : List Boundary) (total : ℕ) (b : Booking) → IsCalendar bs low total → IsSound (schedule (bs ++ b ∷ []) total) → ((x : ℕ) → load_at high x ≡ load_at low x + slots_at x b) → ((x : ℕ) → edges_at high x ≡ edges_at low x + edges_of x b) → IsCalendar (bs ++ b ∷ []) high total
kept_push bs low high total b kept sound loads counts = record {
  sound = sound;
  small = kept.small;
  loads = λ x. omega (arith, loads x, kept.loads x, sum_by_push (slots_at x) bs b);
  edges = λ x. omega (arith, counts x, kept.edges x, sum_by_push (edges_of x) bs b);
}

-- and one fewer
pub kept_without : (bs : List Booking) (high low : List Boundary) (total : ℕ) (b : Booking) → IsCalendar bs high total → Contains bs b → IsSound (schedule (without b.key bs) total) → ((x : ℕ) → load_at low x + slots_at x b ≡ load_at high x) → ((x : ℕ) → edges_at low x + edges_of x b ≡ edges_at high x) → IsCalendar (without b.key bs) low total
kept_without bs high low total b kept there sound loads counts = record {
  sound = sound;
  small = kept.small;
  loads = λ x. omega (arith, loads x, kept.loads x, sum-without (slots_at x) bs b kept.sound.once there);
  edges = λ x. omega (arith, counts x, kept.edges x, sum-without (edges_of x) bs b kept.sound.once there);
}

-- where no booking starts or ends, the load does not change
no_start : (bs : List Booking) (x : ℕ) → edges bs x ≡ 0 → starts_at bs x ≡ false
no_start [] x none = refl
no_start (b ∷ bs) x none =
    let sum = sum_by-cons (edges_of x) b bs in
    elim (cases_Bool (eqb b.from x)) [
      | inl here ↦ absurd (omega (arith, cond-true {A = ℕ} (eqb b.from x) 1 0 here))
      | inr other ↦ or_from (eqb b.from x) (starts_at bs x) other (no_start bs x (omega arith))
    ]

no_end : (bs : List Booking) (x : ℕ) → edges bs x ≡ 0 → ends_at bs x ≡ false
no_end [] x none = refl
no_end (b ∷ bs) x none =
    let sum = sum_by-cons (edges_of x) b bs in
    elim (cases_Bool (is_end x b.until)) [
      | inl here ↦ absurd (omega (arith, cond-true {A = ℕ} (is_end x b.until) 1 0 here))
      | inr other ↦ or_from (is_end x b.until) (ends_at bs x) other (no_end bs x (omega arith))
    ]

starts_later : (bs : List Booking) → edges bs 0 ≡ 0 → load bs 0 ≡ 0
starts_later [] none = refl
starts_later (b ∷ bs) none =
    let sum = sum_by-cons (edges_of 0) b bs in
    let loads = sum_by-cons (slots_at 0) b bs in
    let rest = starts_later bs (omega arith) in
    elim (cases_Bool (covers 0 b)) [
      | inl covered ↦
          let from = covers-from 0 b covered in
          let here : eqb b.from 0 ≡ true = eq-eqb b.from 0 (omega arith) in
          absurd (omega (arith, cond-true {A = ℕ} (eqb b.from 0) 1 0 here))
      | inr free ↦ omega (arith, cond-false (covers 0 b) b.slots 0 free)
    ]

pub level_rest : (bs : List Booking) (x : ℕ) → edges bs x ≡ 0 → IsLevel (load bs) x
level_rest bs x none = record {
  first = λ zero. starts_later bs (subst (λ (y : ℕ). edges bs y ≡ 0) zero none);
  later = λ y next.
      (let up = load_rises bs y x (sym next) (no_start bs x none) in
      let down = load_falls bs y x (sym next) (no_end bs x none) in
      omega arith);
}

-- what taking a booking off asks of the timeline
module _ (bs : List Booking) (steps : List Boundary) (total : ℕ) (kept : IsCalendar bs steps total) (b : Booking) (there : Contains bs b) where
  rest_loads : (x : ℕ) → load (without b.key bs) x + slots_at x b ≡ load bs x
  rest_loads x = sum-without (slots_at x) bs b kept.sound.once there

  rest_edges : (x : ℕ) → edges (without b.key bs) x + edges_of x b ≡ edges bs x
  rest_edges x = sum-without (edges_of x) bs b kept.sound.once there

  pub off_loads : (x : ℕ) → slots_at x b ≤ load_at steps x
  off_loads x = omega (arith, rest_loads x, kept.loads x)

  pub off_edges : (x : ℕ) → edges_of x b ≤ edges_at steps x
  off_edges x = omega (arith, rest_edges x, kept.edges x)

  pub off_level : (x : ℕ) → edges_at steps x ≤ edges_of x b → IsLevel (λ y. load_at steps y - slots_at y b) x
  off_level x only =
      let level = level_rest (without b.key bs) x (omega (arith, rest_edges x, kept.edges x)) in
      let same : (y : ℕ) → load_at steps y - slots_at y b ≡ load (without b.key bs) y = λ y. omega (arith, rest_loads y, kept.loads y) in
      record {
        first = λ zero. same 0 ∙ level.first zero;
        later = λ y next. same y ∙ (level.later y next ∙ sym (same x));
      }

  pub off_lasting : is_before b.from b.until ≡ true
  off_lasting = all_there bs kept.sound.lasting there
    where
      all_there : (xs : List Booking) → list_all (λ (a : Booking). is_before a.from a.until) xs ≡ true → Contains xs b → is_before b.from b.until ≡ true
      all_there xs all at = ap (λ (a : Booking). is_before a.from a.until) (sym at.2) ∙ AllPass-from_list_all (λ (a : Booking). is_before a.from a.until) xs all at.0 b at.1
