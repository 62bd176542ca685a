-- A walk over the boundaries of an interval: what is known of the moments that it has passed.
use Rattle.std.proofs.Common.{◌≡◌, ℕ, ◌+◌, ◌<◌, ◌≤◌, true, leb, List, length, get_or, inl, inr, sym, ap, subst, arith}
use Rattle.std.proofs.lemmas.Bool.{cases_lt, both_ways, leb-true}
use Rattle.std.proofs.lemmas.Bool.Decides.{nat_tests}
use Rattle.std.proofs.lemmas.List.{get_or_default}
use Rattle.drmaa_types.specs.Moments.{greatest}
use Rattle.drmaa_types.specs.declared.moments.End.{End}
use Rattle.reservation_calendar.specs.declared.boundaries.Boundary.{Boundary}
use Rattle.reservation_calendar.specs.Loads.{is_before}
use Rattle.reservation_calendar.specs.Fitting.{IsIn}
use Rattle.reservation_calendar.specs.Timelines.{IsTimeline, IsPlace, load_at, load_before, load_of, moment_of, nowhere}
use Rattle.reservation_calendar.specs.Heights.{IsLow, IsAbove}
use Rattle.reservation_calendar.proofs.Ends.{is_before-le}
use Rattle.reservation_calendar.proofs.Places.{ordered, load_there, load_piece}

-- a moment comes before the boundary at place k, if there is one
abbrev pub IsPassed : List Boundary → ℕ → ℕ → Type 0
IsPassed steps k y = k < length steps → y < moment_of steps k

-- the load is low from `from` until the boundary at place k
abbrev pub LowUntil : List Boundary → ℕ → ℕ → ℕ → Type 0
LowUntil steps most from k = (y : ℕ) → from ≤ y → IsPassed steps k y → load_at steps y ≤ most

-- from a moment until the next boundary the load is the one that is left there
pub first_piece : (steps : List Boundary) (from first y : ℕ) → IsTimeline steps → IsPlace (λ m. leb m from) steps first → from ≤ y → IsPassed steps first y → load_before steps first ≡ load_at steps y
first_piece steps from first y sound at since passed =
    load_there steps y first (record {
      within = at.within;
      before = λ k lt. (let h = at.before k lt in grind (arith, nat_tests));
      after = λ k le lt. (let h = ordered steps sound.rising first k nowhere le lt in let p = passed (omega arith) in grind (arith, nat_tests));
    })

pub low_first : (steps : List Boundary) (most from first : ℕ) → IsTimeline steps → IsPlace (λ m. leb m from) steps first → load_before steps first ≤ most → LowUntil steps most from first
low_first steps most from first sound at low y since passed = (let h = first_piece steps from first y sound at since passed in omega arith)

pub low_more : (steps : List Boundary) (most from k : ℕ) → IsTimeline steps → k < length steps → LowUntil steps most from k → load_of steps k ≤ most → LowUntil steps most from (k + 1)
low_more steps most from k sound inside low here y since passed =
    elim (cases_lt y (moment_of steps k)) [
      | inl before ↦ low y since (λ _. before)
      | inr from_on ↦ (let h = load_piece steps y k sound.rising inside from_on (λ more. subst (λ n. y < moment_of steps n) {x = k + 1} (omega arith) (passed (omega arith))) in omega arith)
    ]

-- a moment of the interval is passed where the last boundary before its end is
pub all_passed : (steps : List Boundary) (until : End) (last y : ℕ) → IsPlace (λ m. is_before m until) steps last → is_before y until ≡ true → IsPassed steps last y
all_passed steps until last y end before inside =
    elim (cases_lt y (moment_of steps last)) [
      | inl sooner ↦ sooner
      | inr later ↦ absurd (both_ways _ (end.after last (omega arith) inside) (is_before-le (moment_of steps last) y until later before))
    ]

pub low_all : (steps : List Boundary) (most from last : ℕ) (until : End) → IsPlace (λ m. is_before m until) steps last → LowUntil steps most from last → IsLow steps most from until
low_all steps most from last until end low y inside = low y inside.since (all_passed steps until last y end inside.before)

-- the places of a start and of an end after it
pub in_order : (steps : List Boundary) (from first last : ℕ) (until : End) → is_before from until ≡ true → IsPlace (λ m. leb m from) steps first → IsPlace (λ m. is_before m until) steps last → first ≤ last
in_order steps from first last until lasting start end =
    elim (cases_lt last first) [
      | inl less ↦
          let inside = start.within in
          let early : moment_of steps last ≤ from = leb-true _ _ (start.before last less) in
          absurd (both_ways _ (end.after last (omega arith) (omega arith)) (is_before-le (moment_of steps last) from until early lasting))
      | inr at_least ↦ at_least
    ]

pub step_inside : (steps : List Boundary) (from first last k : ℕ) (until : End) → IsTimeline steps → IsPlace (λ m. leb m from) steps first → IsPlace (λ m. is_before m until) steps last → first ≤ k → k < last → IsIn from until (moment_of steps k)
step_inside steps from first last k until sound start end since before =
    let inside = end.within in
    let after = start.after k since (omega arith) in
    record {
      since = grind (arith, nat_tests);
      before = end.before k before;
      moment = sound.moments k nowhere (omega arith);
    }

-- what is read at a place
pub read_load : (steps : List Boundary) (k : ℕ) (d : Boundary) → k < length steps → (get_or steps k d).load ≡ load_of steps k
read_load steps k d inside = ap (λ (b : Boundary). b.load) (get_or_default steps k d nowhere inside)

pub read_moment : (steps : List Boundary) (k : ℕ) (d : Boundary) → k < length steps → (get_or steps k d).moment ≡ moment_of steps k
read_moment steps k d inside = ap (λ (b : Boundary). b.moment) (get_or_default steps k d nowhere inside)

-- an interval has its start, if that is before its end
pub start_inside : (from : ℕ) (until : End) → is_before from until ≡ true → from ≤ greatest → IsIn from until from
start_inside from until lasting moment = record { since = omega arith; before = lasting; moment = moment }

-- at its start the load is the one that is left there
pub load_first : (steps : List Boundary) (from first : ℕ) → IsPlace (λ m. leb m from) steps first → load_at steps from ≡ load_before steps first
load_first steps from first at = sym (load_there steps from first at)

-- no moment that was passed is above
pub above_later : (steps : List Boundary) (most from k y : ℕ) (until : End) → k < length steps → LowUntil steps most from k → IsAbove steps most from until y → moment_of steps k ≤ y
above_later steps most from k y until inside low above =
    elim (cases_lt y (moment_of steps k)) [
      | inl passed ↦ absurd (let h = low y above.inside.since (λ _. passed) in let a = above.above in omega arith)
      | inr later ↦ later
    ]

-- the greatest load that was passed, and the next one
pub low_raise : (steps : List Boundary) (most more from k : ℕ) → most ≤ more → LowUntil steps most from k → LowUntil steps more from k
low_raise steps most more from k le low y since passed = (let h = low y since passed in omega arith)
