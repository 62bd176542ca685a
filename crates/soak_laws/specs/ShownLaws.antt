-- The lines of a soak's script: in ASCII that is seen, and none that a reader skips.
use Rattle.std.proofs.Common.{◌≡◌, ℕ, zero, suc, ◌+◌, ◌*◌, ◌-◌, ◌/◌, ◌%◌, ◌≤◌, ◌&&◌, not, nat_lt, nat_le, Bool, true, List, [], ◌∷◌, ◌++◌, Option, Some, None, decimal, codes, refl, arith}
use Rattle.std.specs.List.{list_all, AllByRecursion}
use Rattle.std.proofs.lemmas.Bool.Decides.{nat_tests}
use Rattle.text_codec.specs.BaseLaws.{decimal_letters}
use Rattle.text_codec.specs.CleanLaws.{plain_clean}
use Rattle.text_codec.specs.Formats.{choose}
use Rattle.text_codec.specs.Lexical.{is_letter, is_plain}
use Rattle.text_codec.specs.StepLaws.{both, by_test}
use Rattle.text_lines.specs.Lines.{is_skipped, unskipped_lines, AreLines}
use Rattle.text_lines.specs.Skipping.{IsReadable}
use Rattle.soak_script.specs.Draws.{draw, template_by, template_of}
use Rattle.soak_script.specs.Lines as lines

-- a line that may stand in a text, and that is not skipped
abbrev pub is_shown : List ℕ → Bool
is_shown l = is_plain l && not (is_skipped l)

pub all_both : {A : Type 0} (test : A → Bool) (xs ys : List A) → list_all test xs ≡ true → list_all test ys ≡ true → list_all test (xs ++ ys) ≡ true
all_both test [] ys h k = k
all_both test (x ∷ xs) ys h k = let t = both (test x) (list_all test xs) h in rw (t.0, all_both test xs ys t.1 k) refl

-- such lines are lines of a text, which a reader keeps
shown_line : (l : List ℕ) → is_shown l ≡ true → (is_plain l ≡ true) × (not (is_skipped l) ≡ true)
shown_line l h = both (is_plain l) (not (is_skipped l)) h

pub shown_lines : (ls : List (List ℕ)) → list_all is_shown ls ≡ true → AreLines ls
shown_lines [] h = tt
shown_lines (l ∷ ls) h =
    let t = both (is_shown l) (list_all is_shown ls) h in
    ((plain_clean l (shown_line l t.0).0).one_line, shown_lines ls t.1)

pub shown_readable : (ls : List (List ℕ)) → list_all is_shown ls ≡ true → AllByRecursion IsReadable ls
shown_readable [] h = tt
shown_readable (l ∷ ls) h =
    let t = both (is_shown l) (list_all is_shown ls) h in
    ((λ skipped. (plain_clean l (shown_line l t.0).0).utf8), shown_readable ls t.1)

pub shown_unskipped : (ls : List (List ℕ)) → list_all is_shown ls ≡ true → unskipped_lines ls ≡ ls
shown_unskipped [] h = refl
shown_unskipped (l ∷ ls) h =
    let t = both (is_shown l) (list_all is_shown ls) h in
    rw ((shown_line l t.0).1, shown_unskipped ls t.1) refl

-- ---- numbers

letter_plain : (b : ℕ) → is_letter b ≡ true → (nat_le 32 b && nat_le b 126) ≡ true
letter_plain b h = grind (arith, nat_tests)

letters_plain : (bs : List ℕ) → list_all is_letter bs ≡ true → is_plain bs ≡ true
letters_plain [] h = refl
letters_plain (b ∷ bs) h = let t = both (is_letter b) (list_all is_letter bs) h in rw (letter_plain b t.0, letters_plain bs t.1) refl

number_plain : (n : ℕ) → n ≤ 1_100_000 → is_plain (decimal n) ≡ true
number_plain n h = letters_plain (decimal n) (decimal_letters n (omega (arith, h)))

plain_both : (a b : List ℕ) → is_plain a ≡ true → is_plain b ≡ true → is_plain (a ++ b) ≡ true
plain_both a b h k = all_both (λ c. nat_le 32 c && nat_le c 126) a b h k

-- a number, and what stands behind it
number_and : (n : ℕ) (rest : List ℕ) → n ≤ 1_100_000 → is_plain rest ≡ true → is_plain (decimal n ++ rest) ≡ true
number_and n rest h k = plain_both (decimal n) rest (number_plain n h) k

-- ---- the lines of a step

run_shown : (step : ℕ) (template : List ℕ) → step ≤ 100_000 → is_plain template ≡ true → is_shown (lines.run_line step template) ≡ true
run_shown step template h k = rw (number_and step (codes " s " ++ template) (omega (arith, h)) k) refl

reserve_shown : (step : ℕ) → step ≤ 100_000 → is_shown (lines.reserve_line step) ≡ true
reserve_shown step h = rw (number_and step (codes " q x" ++ decimal step) (omega (arith, h)) (number_plain step (omega (arith, h)))) refl

asked_shown : (step rest : ℕ) → step ≤ 100_000 → is_shown (choose (template_by rest) (lines.run_line step) (lines.reserve_line step)) ≡ true
asked_shown step zero h = run_shown step (codes "a") h refl
asked_shown step (suc zero) h = run_shown step (codes "b") h refl
asked_shown step (suc (suc zero)) h = run_shown step (codes "c") h refl
asked_shown step (suc (suc (suc rest))) h = reserve_shown step h

at_shown : (step : ℕ) → step ≤ 100_000 → is_shown (lines.at_line step) ≡ true
at_shown step h = rw (number_plain (10 * step) (omega (arith, h))) refl

end_shown : (step : ℕ) (o : Option (List ℕ)) → step ≤ 100_000 → list_all is_shown (choose o (λ (t : List ℕ). lines.end_lines step) []) ≡ true
end_shown step None h = refl
end_shown step (Some t) h =
    let d = number_plain step (omega (arith, h)) in
    rw (number_and step (codes " 0") (omega (arith, h)) refl, d) refl

ended_shown : (step draw : ℕ) → step ≤ 100_000 → list_all is_shown (lines.ended_lines step draw) ≡ true
ended_shown step draw h = by_test (nat_lt 50 step)
    (λ t. rw t (end_shown (step - 50) (template_of draw) (omega (arith, h))))
    (λ f. rw f refl)

step_shown : (seed step : ℕ) → step ≤ 100_000 → list_all is_shown (lines.step_lines seed step) ≡ true
step_shown seed step h =
    rw (at_shown step h, asked_shown step (draw seed step / 65_536 % 4) h, ended_shown step (draw seed (step - 50)) h) refl

template_shown : (step : ℕ) (o : Option (List ℕ)) → step ≤ 100_000 → list_all is_shown (choose o (λ (t : List ℕ). []) (lines.reservation_lines step)) ≡ true
template_shown step (Some t) h = refl
template_shown step None h =
    rw (number_plain step (omega (arith, h)), number_plain (10 * step) (omega (arith, h)), number_plain (10 * step + 100_000) (omega (arith, h))) refl

-- ---- those of all steps, and of the script

each_shown : (f : ℕ → List (List ℕ)) → ((step : ℕ) → step ≤ 100_000 → list_all is_shown (f step) ≡ true) → (steps : ℕ) → steps ≤ 100_000 → list_all is_shown (lines.for_each f steps) ≡ true
each_shown f each zero h = refl
each_shown f each (suc step) h = all_both is_shown (lines.for_each f step) (f (suc step)) (each_shown f each step (omega (arith, h))) (each (suc step) h)

pub script_shown : (steps seed : ℕ) → steps ≤ 100_000 → list_all is_shown (lines.soak_script steps seed) ≡ true
unfolding lines.soak_script
script_shown steps seed h =
    let asked = all_both is_shown (lines.for_each (lines.step_lines seed) steps) (codes "end" ∷ []) (each_shown (lines.step_lines seed) (step_shown seed) steps h) refl in
    all_both is_shown (lines.for_each (lines.template_lines seed) steps) (lines.client_lines ++ (lines.for_each (lines.step_lines seed) steps ++ codes "end" ∷ []))
    (each_shown (lines.template_lines seed) (λ step k. template_shown step (template_of (draw seed step)) k) steps h) asked
