use Rattle.std.proofs.Common.{◌≡◌, ℕ, zero, suc, ◌-◌, ◌≤◌, inl, inr, min, List, [], ◌∷◌, length, take, drop, refl, sym, ◌∙◌, ap, arith, length-drop}
use Rattle.std.proofs.lemmas.Bool.{cases_lt}
use Rattle.drmaa_machine.proofs.looks.batch.Goals as goal

take-past : {X : Type 0} (n : ℕ) (xs : List X) → length xs ≤ n → take n xs ≡ xs
take-past zero [] le = refl
take-past zero (x ∷ xs) le = absurd (omega (arith, le))
take-past (suc n) [] le = refl
take-past (suc n) (x ∷ xs) le = ap (λ ys. x ∷ ys) (take-past n xs (omega (arith, le)))

take-min : {X : Type 0} (n : ℕ) (xs : List X) → take (min (length xs) n) xs ≡ take n xs
take-min n xs =
    elim (cases_lt n (length xs)) [
      | inl less ↦ (let e : min (length xs) n ≡ n = omega (arith, less) in ap (λ k. take k xs) e)
      | inr le ↦ (let e : min (length xs) n ≡ length xs = omega (arith, le) in ap (λ k. take k xs) e ∙ take-past (length xs) xs (omega arith) ∙ sym (take-past n xs le))
    ]

pub returns : goal.returns
returns c =
    (let all = c.args.changes.now in
    let left = drop c.args.from all in
    let rest = take (length all - c.args.from) left in
    let long : length left ≤ length all - c.args.from = omega (arith, length-drop c.args.from all) in
    let same : rest ≡ left = take-past (length all - c.args.from) left long in
    c.loop-change.invariant.0 ∙ take-past c.loop-change.change-index (take c.min-count.result rest) c.loop-change-test.false
    ∙ ap (λ n. take n rest) c.min-count.ensures ∙ take-min 64 rest ∙ ap (take 64) same)
