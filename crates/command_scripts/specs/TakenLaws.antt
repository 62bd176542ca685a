-- The machine takes the template of each command.
use Rattle.std.proofs.Common.{◌≡◌, ℕ, ◌+◌, ◌%◌, ◌≤◌, ◌==◌, ◌&&◌, not, nat_lt, nat_le, Bool, true, false, List, [], ◌∷◌, ◌++◌, None, length, decimal, codes, refl, sym, arith}
use Rattle.std.specs.List.{list_any, AllByRecursion}
use Rattle.std.specs.Str.{is_utf8}
use Rattle.std.proofs.lemmas.Bool.Decides.{nat_tests}
use Rattle.std.proofs.lemmas.Fmt.{decimal_by_steps}
use Rattle.drmaa_types.specs.Refusals.{first_refusal}
use Rattle.job_template.specs.declared.templates.JobTemplate.{JobTemplate}
use Rattle.job_template.specs.JobTests.{job_tests}
use Rattle.job_template.specs.Texts.{has_nul, is_empty, text_length, most_text}
use Rattle.text_codec.specs.StepLaws.{both, by_test}
use Rattle.command_scripts.specs.declared.batches.Batch.{Batch}
use Rattle.command_scripts.specs.Batches.{is_command, are_commands, IsBatch}
use Rattle.command_scripts.specs.NameLaws.{small}
use Rattle.command_scripts.specs.Scripts.{named_templates}
use Rattle.command_scripts.specs.Templates.{template_of}
use Rattle.command_scripts.specs.Texts.{output_file}

-- nothing is wrong with a template, on a machine of so many slots without queues
abbrev pub IsTaken : ℕ → ℕ → JobTemplate → Type 0
IsTaken slots now t = first_refusal (job_tests slots [] now t) ≡ None

any_both : (test : ℕ → Bool) (xs ys : List ℕ) → list_any test xs ≡ false → list_any test ys ≡ false → list_any test (xs ++ ys) ≡ false
any_both test [] ys e f = f
any_both test (x ∷ xs) ys e f =
    by_test (test x)
    (λ t. absurd (true_is_false (sym (rw t at e))))
    (λ t. rw t (any_both test xs ys (rw t at e) f))
  where
    true_is_false : false ≡ true → ⊥
    true_is_false h = cc

no_nul_digit : (d : ℕ) → (48 + d == 0) ≡ false
no_nul_digit d = grind (arith, nat_tests)

digits_no_nul : (n : ℕ) → n ≤ 65_536 → has_nul (decimal n) ≡ false
digits_no_nul n h =
    decimal_by_steps (λ m ds. has_nul ds ≡ false)
    (λ d l. rw (no_nul_digit d) refl)
    (λ d ds l r. any_both (λ (b : ℕ). b == 0) ds ((48 + d % 10) ∷ []) r (rw (no_nul_digit (d % 10)) refl))
    n (small n h)

file_no_nul : (n : ℕ) → n ≤ 65_536 → has_nul (decimal n ++ codes ".txt") ≡ false
file_no_nul n h = any_both (λ (b : ℕ). b == 0) (decimal n) (codes ".txt") (digits_no_nul n h) refl

-- a file's name is not empty, whichever of the two it is
filled_file : (n : ℕ) → is_empty (output_file n) ≡ false
filled_file n = grind (arith, nat_tests)

not_false : (b : Bool) → not b ≡ true → b ≡ false
not_false false e = refl
not_false true e = cc

within : (n m : ℕ) → nat_le n m ≡ true → nat_lt m n ≡ false
within n m h = grind (arith, nat_tests)

template_taken : (slots now n : ℕ) (c : List ℕ) → nat_le 1 slots ≡ true → n ≤ 65_536 → is_command n c ≡ true → IsTaken slots now (template_of n c)
template_taken slots now n c some h command =
    let parts = both (is_utf8 c && not (has_nul c)) (nat_le (text_length (template_of n c)) most_text) command in
    let no_nul : has_nul c ≡ false = not_false (has_nul c) (both (is_utf8 c) (not (has_nul c)) parts.0).1 in
    let short : nat_lt most_text (text_length (template_of n c)) ≡ false = within (text_length (template_of n c)) most_text parts.1 in
    rw (short, no_nul, filled_file n, file_no_nul n h, within 1 slots some) refl

templates_taken : (slots now n : ℕ) (cs : List (List ℕ)) → nat_le 1 slots ≡ true → n + length cs ≤ 65_537 → are_commands n cs ≡ true
    → AllByRecursion (λ t. IsTaken slots now t.1) (named_templates n cs)
templates_taken slots now n [] some few each = tt
templates_taken slots now n (c ∷ cs) some few each =
    let parts = both (is_command n c) (are_commands (n + 1) cs) each in
    (template_taken slots now n c some (omega (arith, few)) parts.0, templates_taken slots now (n + 1) cs some (omega (arith, few)) parts.1)

pub batch_taken : (b : Batch) (now : ℕ) → IsBatch b → AllByRecursion (λ t. IsTaken b.machine.slots now t.1) (named_templates 1 b.commands)
batch_taken b now h = templates_taken b.machine.slots now 1 b.commands (both (nat_le 1 b.machine.slots) _ h.machine).0 (omega (arith, h.few)) h.each
