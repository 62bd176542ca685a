-- A boundary that is put among others, counted once more or less, or taken out.
use Rattle.std.proofs.Common.{◌≡◌, ℕ, zero, suc, ◌-◌, ◌<◌, ◌≤◌, ◌≢◌, true, false, leb, eqb, List, [], ◌∷◌, length, get_or, set, if◌then◌else◌, inl, inr, refl, sym, ap, ◌∙◌, arith}
use Rattle.std.specs.List.{insert, remove, All, AllPairs}
use Rattle.std.proofs.lemmas.Bool.{cases_lt, cases_Bool, le-leb, eq-eqb, cond-true, cond-false}
use Rattle.std.proofs.lemmas.Bool.Decides.{nat_tests}
use Rattle.std.proofs.lemmas.List.{get_or_default}
use Rattle.std.proofs.lemmas.List.Sums.{sum_by-cons}
use Rattle.std.proofs.lemmas.List.Elements.{All-cons, All-take, All-drop, All-append}
use Rattle.std.proofs.lemmas.List.Kept.{AllPairs-cons}
use Rattle.drmaa_types.specs.Moments.{greatest}
use Rattle.reservation_calendar.specs.declared.boundaries.Boundary.{Boundary}
use Rattle.reservation_calendar.specs.Timelines.{IsTimeline, IsRising, IsPlace, IsAt, IsGapFor, IsLevel, load_after, load_at, load_of, moment_of, edges_at, nowhere}
use Rattle.reservation_calendar.proofs.Places.{ordered, load_zero, load_piece}
use Rattle.reservation_calendar.proofs.Raising.{load_here}

-- how often a boundary is counted at a moment
abbrev pub counted : ℕ → Boundary → ℕ
counted x step = if eqb step.moment x then step.edges else 0

-- a gap is a place
pub gap_place : (steps : List Boundary) (x p : ℕ) → IsGapFor steps x p → IsPlace (λ m. leb m x) steps p
gap_place steps x p gap = record {
  within = gap.within;
  before = λ k lt. le-leb _ _ (let h = gap.lesser k lt in omega arith);
  after = λ k le lt. (let h = gap.greater k le lt in grind (arith, nat_tests));
}

gap_tail : (b : Boundary) (steps : List Boundary) (x p : ℕ) → IsGapFor (b ∷ steps) x (suc p) → IsGapFor steps x p
gap_tail b steps x p gap = record {
  within = (let h = gap.within in omega arith);
  lesser = λ k lt. gap.lesser (suc k) (omega arith);
  greater = λ k le lt. gap.greater (suc k) (omega arith) (omega arith);
}

-- a boundary with the load that is there anyway changes no load
pub inserted_loads : (earlier : ℕ) (steps : List Boundary) (x p : ℕ) (step : Boundary) (y : ℕ) → step.moment ≡ x → IsGapFor steps x p → step.load ≡ load_after earlier steps x → load_after earlier (insert steps p step) y ≡ load_after earlier steps y
inserted_loads earlier steps x zero step y at gap same =
    let before : load_after earlier steps x ≡ earlier = load_zero earlier steps x (gap_place steps x 0 gap) in
    elim (cases_Bool (leb step.moment y)) [
      | inl since ↦ rw (since, same, before) refl
      | inr early ↦ rw early (sym (load_zero earlier steps y (record {
        within = omega arith;
        before = λ k lt. absurd (omega arith);
        after = λ k le lt. (let h = gap.greater k le lt in grind (arith, nat_tests));
      })))
    ]
inserted_loads earlier [] x (suc p) step y at gap same = (let h = gap.within in absurd (omega arith))
inserted_loads earlier (b ∷ steps) x (suc p) step y at gap same =
    let early = gap.lesser 0 (omega arith) in
    let here : leb b.moment x ≡ true = le-leb _ _ (omega arith) in
    let carried : step.load ≡ load_after b.load steps x = same ∙ cond-true (leb b.moment x) (load_after b.load steps x) earlier here in
    elim (cases_Bool (leb b.moment y)) [
      | inl since ↦ rw since (inserted_loads b.load steps x p step y at (gap_tail b steps x p gap) carried)
      | inr before ↦ rw before refl
    ]

-- one more booking at a boundary that stands changes no load
pub set_loads : (earlier : ℕ) (steps : List Boundary) (k : ℕ) (step : Boundary) (y : ℕ) → step.moment ≡ moment_of steps k → step.load ≡ load_of steps k → load_after earlier (set steps k step) y ≡ load_after earlier steps y
set_loads earlier [] k step y at same = refl
set_loads earlier (b ∷ steps) zero step y at same = rw (at, same) refl
set_loads earlier (b ∷ steps) (suc k) step y at same =
    elim (cases_Bool (leb b.moment y)) [
      | inl since ↦ rw since (set_loads b.load steps k step y at same)
      | inr before ↦ rw before refl
    ]

-- a boundary at which the load does not change may go
pub removed_loads : (earlier : ℕ) (steps : List Boundary) (k : ℕ) (y : ℕ) → IsRising steps → k < length steps → (k ≡ 0 → load_of steps k ≡ earlier) → ((n : ℕ) → suc n ≡ k → load_of steps k ≡ load_of steps n) → load_after earlier (remove steps k) y ≡ load_after earlier steps y
removed_loads earlier [] k y rising inside first later = absurd (omega arith)
removed_loads earlier (b ∷ steps) zero y rising inside first later =
    let same : b.load ≡ earlier = first refl in
    elim (cases_Bool (leb b.moment y)) [
      | inl since ↦ rw (since, same) refl
      | inr before ↦ rw before (load_zero earlier steps y (record {
        within = omega arith;
        before = λ k lt. absurd (omega arith);
        after = λ k le lt. (let h = rising 0 (suc k) nowhere (omega arith) (omega arith) in grind (arith, nat_tests));
      }))
    ]
removed_loads earlier (b ∷ steps) (suc k) y rising inside first later =
    let tail : IsRising steps = λ i j d before within. rising (suc i) (suc j) d (omega arith) (omega arith) in
    elim (cases_Bool (leb b.moment y)) [
      | inl since ↦ rw since (removed_loads b.load steps k y tail (omega arith) (λ none. later 0 (omega arith)) (λ n next. later (suc n) (omega arith)))
      | inr before ↦ rw before refl
    ]

-- a moment at which no boundary stands counts none
pub no_edges : (steps : List Boundary) (x : ℕ) → ((k : ℕ) → k < length steps → moment_of steps k ≢ x) → edges_at steps x ≡ 0
no_edges [] x none = refl
no_edges (b ∷ steps) x none =
    let other : eqb b.moment x ≡ false = (let h = none 0 (omega arith) in grind (arith, nat_tests)) in
    omega (arith, sum_by-cons (counted x) b steps, cond-false (eqb b.moment x) b.edges 0 other, no_edges steps x (λ k inside. none (suc k) (omega arith)))

pub gap_edges : (steps : List Boundary) (x p : ℕ) → IsGapFor steps x p → edges_at steps x ≡ 0
gap_edges steps x p gap = no_edges steps x (λ k inside same. elim (cases_lt k p) [
  | inl below ↦ (let h = gap.lesser k below in omega arith)
  | inr above ↦ (let h = gap.greater k above inside in omega arith)
])

-- the bookings of a moment are counted at its boundary alone
pub edges_found : (steps : List Boundary) (x k : ℕ) → IsRising steps → IsAt steps x k → edges_at steps x ≡ (get_or steps k nowhere).edges
edges_found [] x k rising at = (let h = at.inside in absurd (omega arith))
edges_found (b ∷ steps) x zero rising at =
    let here : eqb b.moment x ≡ true = eq-eqb _ _ at.here in
    let rest = no_edges steps x (λ k inside same. (let h = rising 0 (suc k) nowhere (omega arith) (omega arith) in let e = at.here in omega arith)) in
    omega (arith, sum_by-cons (counted x) b steps, cond-true (eqb b.moment x) b.edges 0 here)
edges_found (b ∷ steps) x (suc k) rising at =
    let inside = at.inside in
    let e = at.here in
    let less = rising 0 (suc k) nowhere (omega arith) (omega arith) in
    let other : eqb b.moment x ≡ false = grind (arith, nat_tests) in
    let rest = edges_found steps x k (λ i j d before within. rising (suc i) (suc j) d (omega arith) (omega arith)) (record { inside = omega arith; here = at.here }) in
    omega (arith, sum_by-cons (counted x) b steps, cond-false (eqb b.moment x) b.edges 0 other)

-- the load at a boundary at which it does not change is the one before it
pub record IsIdle (steps : List Boundary) (k : ℕ) : Type 0 where
  pub first : k ≡ 0 → load_of steps k ≡ 0
  pub later : (n : ℕ) → suc n ≡ k → load_of steps k ≡ load_of steps n

pub level_place : (steps : List Boundary) (x k : ℕ) → IsRising steps → IsAt steps x k → IsLevel (load_at steps) x → IsIdle steps k
level_place steps x k rising at level =
    elim (cases_lt 0 x) [
      | inl some ↦
          let same : load_at steps (x - 1) ≡ load_at steps x = level.later (x - 1) (omega arith) in
          record {
            first = λ none. sym here ∙ (sym same ∙ load_zero 0 steps (x - 1) (record {
              within = omega arith;
              before = λ n lt. absurd (omega arith);
              after = λ n le lt. (let h = ordered steps rising k n nowhere (omega arith) lt in grind (arith, nat_tests));
            }));
            later = λ n next.
                (let h = rising n k nowhere (omega arith) inside in
                let e : moment_of steps (suc n) ≡ x = ap (moment_of steps) next ∙ at.here in
                sym here ∙ (sym same ∙ load_piece steps (x - 1) n rising (omega arith) (omega arith) (λ more. omega arith)));
          }
      | inr none ↦ record {
        first = λ first. sym here ∙ (let e : x ≡ 0 = omega arith in ap (load_at steps) e ∙ level.first e);
        later = λ n next. absurd (let h = rising n k nowhere (omega arith) inside in omega arith);
      }
    ]
  where
    inside : k < length steps
    inside = at.inside

    there : moment_of steps k ≡ x
    there = at.here

    here : load_at steps x ≡ load_of steps k
    here = ap (load_at steps) (sym there) ∙ load_here steps k rising inside

pub shut_loads : (steps : List Boundary) (x k y : ℕ) → IsRising steps → IsAt steps x k → IsLevel (load_at steps) x → load_at (remove steps k) y ≡ load_at steps y
shut_loads steps x k y rising at level =
    let idle = level_place steps x k rising at level in
    removed_loads 0 steps k y rising at.inside idle.first idle.later

-- an element between those that stand so to it and those to which it stands so
inserted_pairs : {X : Type 0} (R : X → X → Type 0) (xs : List X) (y : X) (at : ℕ) → at ≤ length xs → AllPairs R xs → ((k : ℕ) (d : X) → k < at → R (get_or xs k d) y) → ((k : ℕ) (d : X) → at ≤ k → k < length xs → R y (get_or xs k d)) → AllPairs R (insert xs at y)
inserted_pairs R xs y zero le pairs before after = AllPairs-cons R y xs (λ k d inside. after k d (omega arith) inside) pairs
inserted_pairs R [] y (suc at) le pairs before after = absurd (omega arith)
inserted_pairs R (x ∷ xs) y (suc at) le pairs before after =
    let others : All (R x) xs = λ k d inside. pairs 0 (suc k) d (omega arith) (omega arith) in
    AllPairs-cons R x (insert xs at y)
    (All-append (R x) _ _ (All-take (R x) at xs others) (All-cons (R x) y _ (before 0 y (omega arith)) (All-drop (R x) at xs others)))
    (inserted_pairs R xs y at (omega arith) (λ i j d lt inside. pairs (suc i) (suc j) d (omega arith) (omega arith)) (λ k d below. before (suc k) d (omega arith)) (λ k d from inside. after (suc k) d (omega arith) (omega arith)))

inserted_all : {X : Type 0} (P : X → Type 0) (xs : List X) (y : X) (at : ℕ) → All P xs → P y → All P (insert xs at y)
inserted_all P xs y at all one = All-append P _ _ (All-take P at xs all) (All-cons P y _ one (All-drop P at xs all))

pub opened_sound : (steps : List Boundary) (x p : ℕ) (step : Boundary) → step.moment ≡ x → x ≤ greatest → 0 < step.edges → IsGapFor steps x p → IsTimeline steps → IsTimeline (insert steps p step)
opened_sound steps x p step at moment some gap sound =
    let within = gap.within in
    record {
      rising = inserted_pairs (λ (a b : Boundary). a.moment < b.moment) steps step p gap.within sound.rising
          (λ k d below. rw (get_or_default steps k d nowhere (omega arith)) (let h = gap.lesser k below in omega arith))
          (λ k d from inside. rw (get_or_default steps k d nowhere inside) (let h = gap.greater k from inside in omega arith));
      moments = inserted_all (λ (b : Boundary). b.moment ≤ greatest) steps step p sound.moments (omega arith);
      used = inserted_all (λ (b : Boundary). 0 < b.edges) steps step p sound.used some;
    }
