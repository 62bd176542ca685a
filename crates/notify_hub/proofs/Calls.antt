-- How many calls a batch makes, and what of a list is left behind what was handed over.
use Rattle.std.proofs.Common.{◌≡◌, ℕ, ◌+◌, ◌<◌, List, [], ◌∷◌, ◌++◌, length, drop, take, Option, refl, sym, ap, ◌∙◌, arith, append_assoc}
use Rattle.std.specs.Prelude.{sum_by}
use Rattle.std.proofs.lemmas.List.{length-append, length-take, take_all, take-append-drop}
use Rattle.std.proofs.lemmas.List.Sums.{sum_by-cons}
use Rattle.std.proofs.Math.Seq.{drop-append_seam}
use Rattle.drmaa_types.specs.declared.changes.Change.{Change}
use Rattle.turn_lock.specs.Histories.{BeginsWith}
use Rattle.change_callbacks.specs.Ears.{from_place, due}
use Rattle.change_callbacks.specs.PlaceLaws.{from_place-append}

abbrev pub calls : List Change → List (Option ℕ) → ℕ
calls changes places = sum_by (λ place. length (from_place changes place)) places

sum-both : (f g h : Option ℕ → ℕ) → ((p : Option ℕ) → h p ≡ f p + g p) → (ps : List (Option ℕ)) → sum_by h ps ≡ sum_by f ps + sum_by g ps
sum-both f g h each [] = refl
sum-both f g h each (p ∷ ps) =
    let one = each p in
    let rest = sum-both f g h each ps in
    let a = sum_by-cons h p ps in
    let b = sum_by-cons f p ps in
    let c = sum_by-cons g p ps in
    omega (arith, one, rest, a, b, c)

-- the calls that a batch makes come to those that were made
pub calls-more : (changes batch : List Change) (places : List (Option ℕ)) → calls (changes ++ batch) places ≡ calls changes places + sum_by (λ place. length (due (length changes) batch place)) places
calls-more changes batch places = sum-both (λ p. length (from_place changes p)) (λ p. length (due (length changes) batch p)) (λ p. length (from_place (changes ++ batch) p))
    (λ p. ap length (from_place-append changes batch p) ∙ length-append (from_place changes p) (due (length changes) batch p)) places

-- a batch of what is left, behind what was handed over
pub record IsNextOf (whole handed batch : List Change) : Type 0 where
  pub begins : BeginsWith whole (handed ++ batch)
  pub short : length batch < 64 → handed ++ batch ≡ whole

pub next-of : (whole handed batch : List Change) → BeginsWith whole handed → batch ≡ take 64 (drop (length handed) whole) → IsNextOf whole handed batch
next-of whole handed batch b is =
    let rest : drop (length handed) whole ≡ b.rest = ap (drop (length handed)) b.whole ∙ drop-append_seam handed b.rest in
    let own : batch ≡ take 64 b.rest = is ∙ ap (take 64) rest in
    let all : batch ++ drop 64 b.rest ≡ b.rest = ap (λ (l : List Change). l ++ drop 64 b.rest) own ∙ take-append-drop 64 b.rest in
    record {
      begins = record { rest = drop 64 b.rest; whole = b.whole ∙ (ap (λ (l : List Change). handed ++ l) (sym all) ∙ sym (append_assoc handed batch (drop 64 b.rest))) };
      short = λ few.
          let size = ap length own ∙ length-take 64 b.rest in
          ap (λ (l : List Change). handed ++ l) (own ∙ take_all 64 b.rest (omega (arith, few, size))) ∙ sym b.whole;
    }
