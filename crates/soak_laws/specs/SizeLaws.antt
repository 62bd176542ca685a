-- The script of a soak has at most as many bytes as a script may have.
use Rattle.std.proofs.Common.{◌≡◌, ℕ, zero, suc, ◌+◌, ◌*◌, ◌-◌, ◌/◌, ◌%◌, ◌<◌, ◌≤◌, nat_lt, List, [], ◌∷◌, ◌++◌, length, Option, Some, None, decimal, codes, lit<, ap, ◌∙◌, arith, length-append}
use Rattle.std.proofs.lemmas.Fmt.{length-decimal-le}
use Rattle.std.proofs.lemmas.Grind.{flat_map-append}
use Rattle.text_codec.specs.Formats.{choose}
use Rattle.text_codec.specs.StepLaws.{by_test}
use Rattle.text_lines.specs.Lines.{ended}
use Rattle.soak_script.specs.Draws.{draw, template_by, template_of}
use Rattle.soak_script.specs.Lines as lines

-- the bytes of lines
abbrev pub size : List (List ℕ) → ℕ
size ls = length (ended ls)

size-append : (ls ms : List (List ℕ)) → size (ls ++ ms) ≡ size ls + size ms
size-append ls ms = ap length (flat_map-append (λ l. l ++ 10 ∷ []) ls ms) ∙ length-append (ended ls) (ended ms)

size-cons : (l : List ℕ) (ls : List (List ℕ)) → size (l ∷ ls) ≡ length l + 1 + size ls
size-cons l ls = length-append (l ++ 10 ∷ []) (ended ls) ∙ ap (λ k. k + size ls) (length-append l (10 ∷ []))

-- ---- a step, by the digits of its number and of its moment

-- the number of a step has so many digits at most, and each of its moments one more
record Digits (digits step : ℕ) : Type 0 where
  number : length (decimal step) ≤ digits
  earlier : length (decimal (step - 50)) ≤ digits
  moment : length (decimal (10 * step)) ≤ digits + 1
  frame : length (decimal (10 * step + 100_000)) ≤ 7

few_digits : (step : ℕ) → step < 100_000 → Digits 5 step
few_digits step h = record {
  number = length-decimal-le 5 step (lit< tt) (omega (arith, h)) (omega (arith, h));
  earlier = length-decimal-le 5 (step - 50) (lit< tt) (omega (arith, h)) (omega (arith, h));
  moment = length-decimal-le 6 (10 * step) (lit< tt) (omega (arith, h)) (omega (arith, h));
  frame = length-decimal-le 7 (10 * step + 100_000) (lit< tt) (omega (arith, h)) (omega (arith, h));
}

last_digits : (step : ℕ) → step ≤ 100_000 → Digits 6 step
last_digits step h = record {
  number = length-decimal-le 6 step (lit< tt) (omega (arith, h)) (omega (arith, h));
  earlier = length-decimal-le 6 (step - 50) (lit< tt) (omega (arith, h)) (omega (arith, h));
  moment = length-decimal-le 7 (10 * step) (lit< tt) (omega (arith, h)) (omega (arith, h));
  frame = length-decimal-le 7 (10 * step + 100_000) (lit< tt) (omega (arith, h)) (omega (arith, h));
}

run_size : (digits step : ℕ) (template : List ℕ) → Digits digits step → length template ≤ 1 → length (lines.run_line step template) ≤ digits * 2 + 13
run_size digits step template d k =
    omega (arith, d.number, k, length-append (decimal step) (codes " s " ++ template))

reserve_size : (digits step : ℕ) → Digits digits step → length (lines.reserve_line step) ≤ digits * 2 + 13
reserve_size digits step d =
    omega (arith, d.number, length-append (decimal step) (codes " q x" ++ decimal step))

asked_size : (digits step rest : ℕ) → Digits digits step → length (choose (template_by rest) (lines.run_line step) (lines.reserve_line step)) ≤ digits * 2 + 13
asked_size digits step zero d = run_size digits step (codes "a") d (omega arith)
asked_size digits step (suc zero) d = run_size digits step (codes "b") d (omega arith)
asked_size digits step (suc (suc zero)) d = run_size digits step (codes "c") d (omega arith)
asked_size digits step (suc (suc (suc rest))) d = reserve_size digits step d

end_size : (digits step : ℕ) (o : Option (List ℕ)) → length (decimal step) ≤ digits → size (choose o (λ (t : List ℕ). lines.end_lines step) []) ≤ digits * 3 + 32
end_size digits step None d = omega arith
end_size digits step (Some t) d =
    let exit = size-cons (codes "exit j" ++ (decimal step ++ codes " 0")) ((codes "terminate s j" ++ decimal step) ∷ (codes "reap s j" ++ decimal step) ∷ []) in
    let code = length-append (decimal step) (codes " 0") in
    let terminate = size-cons (codes "terminate s j" ++ decimal step) ((codes "reap s j" ++ decimal step) ∷ []) in
    let reap = size-cons (codes "reap s j" ++ decimal step) [] in
    omega (arith, d, exit, code, terminate, reap)

ended_size : (digits step draw : ℕ) → Digits digits step → size (lines.ended_lines step draw) ≤ digits * 3 + 32
ended_size digits step draw d = by_test (nat_lt 50 step)
    (λ t. rw t (end_size digits (step - 50) (template_of draw) d.earlier))
    (λ f. rw f (omega arith))

step_size : (digits seed step : ℕ) → Digits digits step → size (lines.step_lines seed step) ≤ digits * 6 + 59
step_size digits seed step d =
    let asked = lines.step_line step (draw seed step) in
    let ended = lines.ended_lines step (draw seed (step - 50)) in
    let at = size-cons (lines.at_line step) (asked ∷ codes "launch" ∷ ended) in
    let ask = size-cons asked (codes "launch" ∷ ended) in
    let launch = size-cons (codes "launch") ended in
    omega (arith, at, ask, launch, d.moment, asked_size digits step (draw seed step / 65_536 % 4) d, ended_size digits step (draw seed (step - 50)) d)

template_size : (digits step : ℕ) (o : Option (List ℕ)) → Digits digits step → size (choose o (λ (t : List ℕ). []) (lines.reservation_lines step)) ≤ digits * 2 + 62
template_size digits step (Some t) d = omega arith
template_size digits step None d =
    let rest = codes "duration 500" ∷ codes "minslots 8" ∷ codes "end" ∷ [] in
    let end = codes "end @" ++ decimal (10 * step + 100_000) in
    let start = codes "start @" ++ decimal (10 * step) in
    let first = size-cons (codes "rtemplate x" ++ decimal step) (start ∷ end ∷ rest) in
    let second = size-cons start (end ∷ rest) in
    let third = size-cons end rest in
    omega (arith, first, second, third, d.number, d.moment, d.frame)

-- ---- all of them: the last step that there may be has a digit more than those before it

each_size : (f : ℕ → List (List ℕ)) (bytes : ℕ) → ((step : ℕ) → step < 100_000 → size (f step) ≤ bytes) → (steps : ℕ) → steps < 100_000 → size (lines.for_each f steps) ≤ bytes * steps
each_size f bytes each zero h = omega arith
each_size f bytes each (suc step) h =
    omega (arith, size-append (lines.for_each f step) (f (suc step)), each (suc step) h, each_size f bytes each step (omega (arith, h)))

all_size : (f : ℕ → List (List ℕ)) (bytes : ℕ) → ((step : ℕ) → step < 100_000 → size (f step) ≤ bytes) → ((step : ℕ) → step ≤ 100_000 → size (f step) ≤ bytes + 6)
    → (steps : ℕ) → steps ≤ 100_000 → size (lines.for_each f steps) ≤ bytes * steps + 6
all_size f bytes each last zero h = omega arith
all_size f bytes each last (suc step) h =
    omega (arith, size-append (lines.for_each f step) (f (suc step)), last (suc step) h, each_size f bytes each step (omega (arith, h)))

pub script_size : (steps seed : ℕ) → steps ≤ 100_000 → size (lines.soak_script steps seed) ≤ 16_777_216
unfolding lines.soak_script
script_size steps seed h =
    let templates = lines.for_each (lines.template_lines seed) steps in
    let asked = lines.for_each (lines.step_lines seed) steps in
    let first = size-append lines.first_lines (templates ++ (lines.client_lines ++ (asked ++ codes "end" ∷ []))) in
    let second = size-append templates (lines.client_lines ++ (asked ++ codes "end" ∷ [])) in
    let third = size-append lines.client_lines (asked ++ codes "end" ∷ []) in
    let fourth = size-append asked (codes "end" ∷ []) in
    let few = all_size (lines.template_lines seed) 72 (λ step k. template_size 5 step (template_of (draw seed step)) (few_digits step k)) (λ step k. omega (arith, template_size 6 step (template_of (draw seed step)) (last_digits step k))) steps h in
    let many = all_size (lines.step_lines seed) 89 (λ step k. step_size 5 seed step (few_digits step k)) (λ step k. step_size 6 seed step (last_digits step k)) steps h in
    omega (arith, h, first, second, third, fourth, few, many)
