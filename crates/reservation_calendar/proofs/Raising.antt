-- What a rise of loads between two places does to the load at each moment.
use Rattle.std.proofs.Common.{◌≡◌, ℕ, zero, suc, ◌+◌, ◌<◌, ◌≤◌, Bool, true, false, leb, ltb, eqb, List, [], ◌∷◌, length, get_or, sum_by, if◌then◌else◌, inl, inr, refl, sym, arith}
use Rattle.std.proofs.lemmas.Bool.{cases_lt, cases_Bool, both_ways, lt-ltb, ltb-true, eqb-true, cond-true, cond-false}
use Rattle.std.proofs.lemmas.Bool.Decides.{nat_tests}
use Rattle.std.proofs.lemmas.List.{get_or_default}
use Rattle.std.proofs.lemmas.List.Sums.{sum_by-cons}
use Rattle.drmaa_types.specs.declared.moments.End.{End}
use Rattle.drmaa_types.specs.declared.moments.End.TheVariants.{At, Never}
use Rattle.reservation_calendar.specs.declared.bookings.Booking.{Booking}
use Rattle.reservation_calendar.specs.declared.boundaries.Boundary.{Boundary}
use Rattle.reservation_calendar.specs.Loads.{is_before, covers, slots_at}
use Rattle.reservation_calendar.specs.Fitting.{IsIn}
use Rattle.reservation_calendar.specs.Timelines.{IsTimeline, IsRising, IsPlace, IsRaised, IsBounded, IsAt, load_at, load_of, moment_of, edges_at, nowhere}
use Rattle.reservation_calendar.proofs.Places.{ordered, place_at, load_zero, load_found, load_piece}
use Rattle.reservation_calendar.proofs.Ends.{is_before-le}
use Rattle.reservation_calendar.proofs.LoadLaws.{covers-by}

-- where a boundary is counted at a moment, one stands there
pub boundary_at : (steps : List Boundary) (x : ℕ) → 0 < edges_at steps x → (k : ℕ) × IsAt steps x k
boundary_at [] x some = absurd (omega arith)
boundary_at (b ∷ steps) x some =
    elim (cases_Bool (eqb b.moment x)) [
      | inl here ↦ (0, record { inside = omega arith; here = eqb-true b.moment x here })
      | inr other ↦
          let f = λ (step : Boundary). if eqb step.moment x then step.edges else 0 in
          let rest = boundary_at steps x (omega (arith, sum_by-cons f b steps, cond-false (eqb b.moment x) b.edges 0 other)) in
          (suc rest.0, record { inside = (let h = rest.1.inside in omega arith); here = rest.1.here })
    ]

-- a boundary that stands at a moment parts the places as the moment parts the moments
edge_place : (steps : List Boundary) (from x p q k : ℕ) → IsRising steps → IsPlace (λ m. ltb m from) steps p → IsPlace (λ m. leb m x) steps (suc q) → IsAt steps from k → leb p q ≡ leb from x
edge_place steps from x p q k rising low at edge =
    let inside = at.within in
    elim (cases_lt q p) [
      | inl below ↦
          let lower : moment_of steps q < from = ltb-true (moment_of steps q) from (low.before q below) in
          let here = edge.here in
          let later : x < from = elim (cases_lt q k) [
            | inl past ↦ (let h = at.after k past edge.inside in grind (arith, nat_tests))
            | inr within ↦ absurd (let h = ordered steps rising k q nowhere within (omega arith) in omega arith)
          ] in
          grind (arith, nat_tests)
      | inr above ↦
          let since = low.after q above (omega arith) in
          let until = at.before q (omega arith) in
          grind (arith, nat_tests)
    ]

end_place : (steps : List Boundary) (until : End) (x p q : ℕ) → IsRising steps → IsPlace (λ m. is_before m until) steps p → IsPlace (λ m. leb m x) steps (suc q) → IsBounded steps until → ltb q p ≡ is_before x until
end_place steps (At u) x p q rising low at edge =
    (let there = boundary_at steps u edge in
    let h = edge_place steps u x p q there.0 rising low at there.1 in
    grind (arith, nat_tests))
end_place steps Never x p q rising low at edge =
    (let inside = at.within in
    elim (cases_lt q p) [
      | inl below ↦ lt-ltb q p below
      | inr above ↦ absurd (both_ways true (low.after q above (omega arith)) refl)
    ])

-- the places of an interval's start and end are in order, and between them stand moments of the interval
pub places_in_order : (steps : List Boundary) (from first last : ℕ) (until : End) → is_before from until ≡ true → IsPlace (λ m. ltb m from) steps first → IsPlace (λ m. is_before m until) steps last → first ≤ last
places_in_order steps from first last until lasting start end =
    elim (cases_lt last first) [
      | inl less ↦
          let inside = start.within in
          let early : moment_of steps last < from = ltb-true _ _ (start.before last less) in
          absurd (both_ways _ (end.after last (omega arith) (omega arith)) (is_before-le (moment_of steps last) from until (omega arith) lasting))
      | inr at_least ↦ at_least
    ]

pub load_here : (steps : List Boundary) (k : ℕ) → IsRising steps → k < length steps → load_at steps (moment_of steps k) ≡ load_of steps k
load_here steps k rising inside =
    load_piece steps (moment_of steps k) k rising inside (omega arith) (λ more. rising k (suc k) nowhere (omega arith) more)

pub between_places : (steps : List Boundary) (from first last k : ℕ) (until : End) → IsTimeline steps → IsPlace (λ m. ltb m from) steps first → IsPlace (λ m. is_before m until) steps last → first ≤ k → k < last → IsIn from until (moment_of steps k)
between_places steps from first last k until sound start end since before =
    let inside = end.within in
    let not_before = start.after k since (omega arith) in
    record {
      since = grind (arith, nat_tests);
      before = end.before k before;
      moment = sound.moments k nowhere (omega arith);
    }

pub slots_between : (steps : List Boundary) (b : Booking) (first last k : ℕ) → IsTimeline steps → IsPlace (λ m. ltb m b.from) steps first → IsPlace (λ m. is_before m b.until) steps last → first ≤ k → k < last → slots_at (moment_of steps k) b ≡ b.slots
slots_between steps b first last k sound start end since before =
    let inside = between_places steps b.from first last k b.until sound start end since before in
    let here : covers (moment_of steps k) b ≡ true = covers-by (moment_of steps k) b inside.since inside.before in
    cond-true (covers (moment_of steps k) b) b.slots 0 here

-- the same places in both lists
place_high : (low high : List Boundary) (first last slots : ℕ) (passes : ℕ → Bool) (p : ℕ) → IsRaised low high first last slots → IsPlace passes low p → IsPlace passes high p
place_high low high first last slots passes p r at =
    let count = r.count in
    let within = at.within in
    record {
      within = omega arith;
      before = λ k lt. rw (r.moments k) (at.before k lt);
      after = λ k le lt. rw (r.moments k) (at.after k le (omega arith));
    }

pub raised_loads : (low high : List Boundary) (b : Booking) (first last x : ℕ) → IsRising low → IsRaised low high first last b.slots → IsPlace (λ m. ltb m b.from) low first → IsPlace (λ m. is_before m b.until) low last → 0 < edges_at low b.from → IsBounded low b.until → load_at high x ≡ load_at low x + slots_at x b
raised_loads low high b first last x rising r start end from until =
    let p = place_at low x rising in
    let edge = boundary_at low b.from from in
    at_place p.0 p.1 edge
  where
    at_place : (p : ℕ) → IsPlace (λ m. leb m x) low p → (k : ℕ) × IsAt low b.from k → load_at high x ≡ load_at low x + slots_at x b
    at_place zero at edge =
        let above = at.after edge.0 (omega arith) edge.1.inside in
        let here = edge.1.here in
        let outside : leb b.from x ≡ false = grind (arith, nat_tests) in
        rw (load_zero 0 low x at, load_zero 0 high x (place_high low high first last b.slots (λ m. leb m x) 0 r at), outside) refl
    at_place (suc q) at edge =
        rw (
          load_found 0 low x q at,
          load_found 0 high x q (place_high low high first last b.slots (λ m. leb m x) (suc q) r at),
          ← edge_place low b.from x first q edge.0 rising start at edge.1,
          ← end_place low b.until x last q rising end at until,
        ) (r.loads q)

-- sums over lists that agree at each place
same_sums : (f : Boundary → ℕ) (xs ys : List Boundary) → length ys ≡ length xs → ((k : ℕ) → f (get_or ys k nowhere) ≡ f (get_or xs k nowhere)) → sum_by f ys ≡ sum_by f xs
same_sums f [] [] count same = refl
same_sums f [] (y ∷ ys) count same = absurd (omega arith)
same_sums f (x ∷ xs) [] count same = absurd (omega arith)
same_sums f (x ∷ xs) (y ∷ ys) count same =
    omega (arith, sum_by-cons f x xs, sum_by-cons f y ys, same 0, same_sums f xs ys (omega arith) (λ k. same (suc k)))

pub raised_edges : (low high : List Boundary) (first last slots x : ℕ) → IsRaised low high first last slots → edges_at high x ≡ edges_at low x
raised_edges low high first last slots x r =
    same_sums (λ (step : Boundary). if eqb step.moment x then step.edges else 0) low high r.count (λ k. rw (r.moments k, r.edges k) refl)

pub raised_sound : (low high : List Boundary) (first last slots : ℕ) → IsRaised low high first last slots → IsTimeline low → IsTimeline high
raised_sound low high first last slots r sound =
    let count = r.count in
    record {
      rising = λ i j d before inside.
          (let h = sound.rising i j nowhere before (omega arith) in
          rw (get_or_default high i d nowhere (omega arith), get_or_default high j d nowhere inside) (rw (r.moments i, r.moments j) h));
      moments = λ k d inside. rw (get_or_default high k d nowhere inside) (rw (r.moments k) (sound.moments k nowhere (omega arith)));
      used = λ k d inside. rw (get_or_default high k d nowhere inside) (rw (r.edges k) (sound.used k nowhere (omega arith)));
    }

-- the other way: what is true of the higher list is true of the lower one
pub lowered_sound : (low high : List Boundary) (first last slots : ℕ) → IsRaised low high first last slots → IsTimeline high → IsTimeline low
lowered_sound low high first last slots r sound =
    let count = r.count in
    record {
      rising = λ i j d before inside.
          (let h = sound.rising i j nowhere before (omega arith) in
          rw (get_or_default low i d nowhere (omega arith), get_or_default low j d nowhere inside) (rw (← r.moments i, ← r.moments j) h));
      moments = λ k d inside. rw (get_or_default low k d nowhere inside) (rw (← r.moments k) (sound.moments k nowhere (omega arith)));
      used = λ k d inside. rw (get_or_default low k d nowhere inside) (rw (← r.edges k) (sound.used k nowhere (omega arith)));
    }

place_low : (low high : List Boundary) (first last slots : ℕ) (passes : ℕ → Bool) (p : ℕ) → IsRaised low high first last slots → IsPlace passes high p → IsPlace passes low p
place_low low high first last slots passes p r at =
    let count = r.count in
    let within = at.within in
    record {
      within = omega arith;
      before = λ k lt. rw (← r.moments k) (at.before k lt);
      after = λ k le lt. rw (← r.moments k) (at.after k le (omega arith));
    }

bounded_low : (low high : List Boundary) (first last slots : ℕ) (until : End) → IsRaised low high first last slots → IsBounded high until → IsBounded low until
bounded_low low high first last slots (At u) r edge = rw (← raised_edges low high first last slots u r) edge
bounded_low low high first last slots Never r edge = tt

pub lowered_loads : (low high : List Boundary) (b : Booking) (first last x : ℕ) → IsTimeline high → IsRaised low high first last b.slots → IsPlace (λ m. ltb m b.from) high first → IsPlace (λ m. is_before m b.until) high last → 0 < edges_at high b.from → IsBounded high b.until → load_at low x + slots_at x b ≡ load_at high x
lowered_loads low high b first last x sound r start end from until =
    sym (raised_loads low high b first last x (lowered_sound low high first last b.slots r sound).rising r
    (place_low low high first last b.slots (λ m. ltb m b.from) first r start) (place_low low high first last b.slots (λ m. is_before m b.until) last r end)
    (rw (← raised_edges low high first last b.slots b.from r) from) (bounded_low low high first last b.slots b.until r until))
