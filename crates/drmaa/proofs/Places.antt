-- Lists of the clients that are back, by number, as one more comes back.
use Rattle.std.proofs.Common.{◌≡◌, ℕ, zero, suc, ◌<◌, ◌⊎◌, inl, inr, ⊎_elim, List, [], ◌∷◌, ◌++◌, set, slice_index_or, Option, Some, None, refl, sym, ap, length, arith}
use Rattle.turn_lock.specs.Histories.{left_of}
use Rattle.drmaa_model.specs.declared.entries.Entry.{Entry}
use Rattle.drmaa.specs.Crews.{AreOut}

abbrev pub Lists : Type 0
Lists = List (Option (List Entry))

-- one more is open
pub out-more : (places : Lists) → AreOut places → AreOut (places ++ None ∷ [])
out-more [] out zero = refl
out-more [] out (suc k) = refl
out-more (p ∷ places) out zero = out 0
out-more (p ∷ places) out (suc k) = out-more places (λ n. out (suc n)) k

-- where nobody is back, all are out
left-all : (p : Option (List Entry)) (places : Lists) → p ≡ None → left_of places ≡ length places → left_of (p ∷ places) ≡ length (p ∷ places)
left-all None places is all = ap suc all
left-all (Some own) places is all = absurd (cc)

pub all-left : (places : Lists) → AreOut places → left_of places ≡ length places
all-left [] out = refl
all-left (p ∷ places) out = left-all p places (out 0) (all-left places (λ n. out (suc n)))

-- where none is out, each number has its list
pub record IsFilled (places : Lists) (number : ℕ) : Type 0 where
  pub own : List Entry
  pub is : slice_index_or places number None ≡ Some own

pub filled : (places : Lists) (number : ℕ) → left_of places ≡ 0 → number < length places → IsFilled places number
filled [] number none h = absurd (omega arith)
filled (None ∷ places) number none h = absurd (omega arith)
filled (Some own ∷ places) zero none h = record { own = own; is = refl }
filled (Some own ∷ places) (suc number) none h =
    let f = filled places number none (omega arith) in
    record { own = f.own; is = f.is }

module _ (own : List Entry) where
  -- one fewer is out
  pub left-set : (places : Lists) (n : ℕ) → n < length places → slice_index_or places n None ≡ None → suc (left_of (set places n (Some own))) ≡ left_of places
  left-set [] n h out = absurd (omega arith)
  left-set (None ∷ places) zero h out = refl
  left-set (Some other ∷ places) zero h out = absurd (cc)
  left-set (None ∷ places) (suc n) h out = ap suc (left-set places n (omega arith) out)
  left-set (Some other ∷ places) (suc n) h out = left-set places n (omega arith) out

  -- those that were back still are
  pub keeps-set : (places : Lists) (n k : ℕ) (other : List Entry) → slice_index_or places n None ≡ None → slice_index_or places k None ≡ Some other → slice_index_or (set places n (Some own)) k None ≡ Some other
  keeps-set [] n k other out is = absurd (cc)
  keeps-set (p ∷ places) zero zero other out is = absurd (cc)
  keeps-set (p ∷ places) zero (suc k) other out is = is
  keeps-set (p ∷ places) (suc n) zero other out is = is
  keeps-set (p ∷ places) (suc n) (suc k) other out is = keeps-set places n k other out is

  -- and who is back was so, or is the one
  pub only-set : (places : Lists) (n k : ℕ) (other : List Entry) → slice_index_or (set places n (Some own)) k None ≡ Some other → (slice_index_or places k None ≡ Some other) ⊎ ((k ≡ n) × (other ≡ own))
  only-set [] n k other is = absurd (cc)
  only-set (p ∷ places) zero zero other is = inr (refl, (let alike : own ≡ other = cc in sym alike))
  only-set (p ∷ places) zero (suc k) other is = inl is
  only-set (p ∷ places) (suc n) zero other is = inl is
  only-set (p ∷ places) (suc n) (suc k) other is =
      ⊎_elim (λ (a : slice_index_or places k None ≡ Some other). inl a) (λ (a : (k ≡ n) × (other ≡ own)). inr (ap suc a.0, a.1)) (only-set places n k other is)

-- two numbers, of which one was out and the other back
pub apart : (places : Lists) (n k : ℕ) (other : List Entry) → slice_index_or places n None ≡ None → slice_index_or places k None ≡ Some other → k ≡ n → ⊥
apart places n k other out is same = absurd (cc)

-- a number that has its list is one of them
pub index-in : (places : Lists) (k : ℕ) (own : List Entry) → slice_index_or places k None ≡ Some own → k < length places
index-in [] k own is = absurd (cc)
index-in (p ∷ places) zero own is = omega arith
index-in (p ∷ places) (suc k) own is = let h = index-in places k own is in omega arith
