-- Places among boundaries: what a search finds, and the load that is read there.
use Rattle.std.proofs.Common.{◌≡◌, ℕ, zero, suc, ◌<◌, ◌≤◌, Bool, true, false, leb, List, [], ◌∷◌, length, inl, inr, refl, sym, ◌∙◌, arith}
use Rattle.std.specs.List.Sorted.{IsNonDecreasingBy, IsPartitionedBy}
use Rattle.std.proofs.lemmas.Bool.{cases_lt, le-leb, cond-true, cond-false}
use Rattle.std.proofs.lemmas.Bool.Decides.{nat_tests}
use Rattle.std.proofs.lemmas.List.Sorted.{IsPartitionedBy-leb, IsPartitionedBy-ltb}
use Rattle.drmaa_types.specs.declared.moments.End.{End}
use Rattle.drmaa_types.specs.declared.moments.End.TheVariants.{At, Never}
use Rattle.reservation_calendar.specs.declared.boundaries.Boundary.{Boundary}
use Rattle.reservation_calendar.specs.Loads.{is_before}
use Rattle.reservation_calendar.specs.Timelines.{IsRising, IsPlace, load_after, load_at, load_before, load_of, moment_of, nowhere}

pub ordered : (steps : List Boundary) → IsRising steps → IsNonDecreasingBy (λ (b : Boundary). b.moment) steps
ordered steps rising i j d le inside =
    elim (cases_lt i j) [
      | inl before ↦ (let h = rising i j d before inside in omega arith)
      | inr not_before ↦ (let same : i ≡ j = omega arith in rw same (omega arith))
    ]

pub parted_until : (steps : List Boundary) (x : ℕ) → IsRising steps → IsPartitionedBy (λ (b : Boundary). leb b.moment x) steps
parted_until steps x rising = IsPartitionedBy-leb (λ (b : Boundary). b.moment) steps x (ordered steps rising)

pub parted_before : (steps : List Boundary) (until : End) → IsRising steps → IsPartitionedBy (λ (b : Boundary). is_before b.moment until) steps
parted_before steps (At end) rising = IsPartitionedBy-ltb (λ (b : Boundary). b.moment) steps end (ordered steps rising)
parted_before steps Never rising = λ i j d le inside h. refl

-- a place in a list is one lower in its tail
place_tail : (passes : ℕ → Bool) (b : Boundary) (steps : List Boundary) (p : ℕ) → IsPlace passes (b ∷ steps) (suc p) → IsPlace passes steps p
place_tail passes b steps p at = record {
  within = (let h = at.within in omega arith);
  before = λ k lt. at.before (suc k) (omega arith);
  after = λ k le lt. at.after (suc k) (omega arith) (omega arith);
}

-- the load at a moment is the one that the boundaries up to its place leave
pub load_zero : (earlier : ℕ) (steps : List Boundary) (x : ℕ) → IsPlace (λ m. leb m x) steps 0 → load_after earlier steps x ≡ earlier
load_zero earlier [] x at = refl
load_zero earlier (b ∷ steps) x at = cond-false (leb b.moment x) (load_after b.load steps x) earlier (at.after 0 (omega arith) (omega arith))

pub load_found : (earlier : ℕ) (steps : List Boundary) (x k : ℕ) → IsPlace (λ m. leb m x) steps (suc k) → load_after earlier steps x ≡ load_of steps k
load_found earlier [] x k at = (let h = at.within in absurd (omega arith))
load_found earlier (b ∷ steps) x zero at = cond-true (leb b.moment x) (load_after b.load steps x) earlier (at.before 0 (omega arith)) ∙ load_zero b.load steps x (place_tail _ b steps 0 at)
load_found earlier (b ∷ steps) x (suc k) at = cond-true (leb b.moment x) (load_after b.load steps x) earlier (at.before 0 (omega arith)) ∙ load_found b.load steps x k (place_tail _ b steps (suc k) at)

pub load_there : (steps : List Boundary) (x p : ℕ) → IsPlace (λ m. leb m x) steps p → load_before steps p ≡ load_at steps x
load_there steps x zero at = sym (load_zero 0 steps x at)
load_there steps x (suc k) at = sym (load_found 0 steps x k at)

-- from a boundary up to the next one, the load is that of the boundary
pub load_piece : (steps : List Boundary) (x k : ℕ) → IsRising steps → k < length steps → moment_of steps k ≤ x → (suc k < length steps → x < moment_of steps (suc k)) → load_at steps x ≡ load_of steps k
load_piece steps x k rising inside since before =
    load_found 0 steps x k (record {
      within = omega arith;
      before = λ n lt. le-leb _ _ (let h = ordered steps rising n k nowhere (omega arith) inside in omega arith);
      after = λ n le lt.
          (let next = before (omega arith) in
          let h = ordered steps rising (suc k) n nowhere le lt in
          grind (arith, nat_tests));
    })

-- each moment has its place
pub place_at : (steps : List Boundary) (x : ℕ) → IsRising steps → (p : ℕ) × IsPlace (λ m. leb m x) steps p
place_at [] x rising = (0, record { within = omega arith; before = λ k lt. absurd (omega arith); after = λ k le lt. absurd (omega arith) })
place_at (b ∷ steps) x rising =
    elim (cases_lt x b.moment) [
      | inl below ↦ (
        0,
        record {
          within = omega arith;
          before = λ k lt. absurd (omega arith);
          after = λ k le lt. (let h = ordered (b ∷ steps) rising 0 k nowhere (omega arith) lt in grind (arith, nat_tests));
        },
      )
      | inr above ↦
          let rest = place_at steps x (λ i j d before inside. rising (suc i) (suc j) d (omega arith) (omega arith)) in
          (suc rest.0, place_cons (λ m. leb m x) b steps rest.0 (le-leb b.moment x above) rest.1)
    ]
  where
    place_cons : (passes : ℕ → Bool) (b : Boundary) (steps : List Boundary) (p : ℕ) → passes b.moment ≡ true → IsPlace passes steps p → IsPlace passes (b ∷ steps) (suc p)
    place_cons passes b steps p here at = record {
      within = (let h = at.within in omega arith);
      before = λ k lt. before_cons k lt;
      after = λ k le lt. after_cons k le lt;
    }
      where
        before_cons : (k : ℕ) → k < suc p → passes (moment_of (b ∷ steps) k) ≡ true
        before_cons zero lt = here
        before_cons (suc k) lt = at.before k (omega arith)

        after_cons : (k : ℕ) → suc p ≤ k → k < suc (length steps) → passes (moment_of (b ∷ steps) k) ≡ false
        after_cons zero le lt = absurd (omega arith)
        after_cons (suc k) le lt = at.after k (omega arith) (omega arith)
