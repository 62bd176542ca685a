-- The text of a batch's script: whole lines, of which a reader skips none.
use Rattle.std.proofs.Common.{◌≡◌, ℕ, ◌+◌, ◌≤◌, true, false, List, [], ◌∷◌, ◌++◌, length, decimal, codes, refl, sym, ap, subst, ◌∙◌, arith, IsUtf8}
use Rattle.std.specs.List.{AllByRecursion}
use Rattle.text_codec.specs.BaseLaws.{decimal_letters}
use Rattle.text_codec.specs.CleanLaws.{letters_clean, plain_clean, quoted_clean, clean_behind, clean_both}
use Rattle.text_codec.specs.Lexical.{IsClean, quoted}
use Rattle.text_codec.specs.StepLaws.{both, by_test}
use Rattle.text_lines.specs.Lines.{is_skipped, unskipped_lines, AreLines, IsTextOf}
use Rattle.text_lines.specs.LineLaws.{ended_text}
use Rattle.text_lines.specs.Skipping.{IsReadable, SpellsUnskipped}
use Rattle.script_text.specs.declared.scripts.Mode.TheVariants.{Threads}
use Rattle.script_text.specs.Header.{is_machine}
use Rattle.script_text.specs.HeaderLaws.{header_laws}
use Rattle.script_text.specs.Scripts.{Spells}
use Rattle.command_scripts.specs.declared.batches.Batch.{Batch}
use Rattle.command_scripts.specs.declared.batches.Machine.{Machine}
use Rattle.command_scripts.specs.Batches.{is_empty, filled, is_command, are_commands, most_bytes, IsBatch, SpellsBatch}
use Rattle.command_scripts.specs.LineTexts.{machine_text}
use Rattle.command_scripts.specs.NameLaws.{small}
use Rattle.command_scripts.specs.ScriptLaws.{command_utf8, machine_valid, batch_spelled}
use Rattle.command_scripts.specs.Scripts.{script_of}
use Rattle.command_scripts.specs.Texts.{template_name, template_lines, run_line, wait_line, info_line, all_templates, for_each, machine_line, client_lines, script_lines, script_text}

-- lines that are clean may stand in a text, and be skipped
clean_lines : (ls : List (List ℕ)) → AllByRecursion IsClean ls → AreLines ls
clean_lines [] h = tt
clean_lines (l ∷ ls) h = (h.0.one_line, clean_lines ls h.1)

clean_readable : (ls : List (List ℕ)) → AllByRecursion IsClean ls → AllByRecursion IsReadable ls
clean_readable [] h = tt
clean_readable (l ∷ ls) h = ((λ s. h.0.utf8), clean_readable ls h.1)

both_clean : (ls ms : List (List ℕ)) → AllByRecursion IsClean ls → AllByRecursion IsClean ms → AllByRecursion IsClean (ls ++ ms)
both_clean [] ms h k = k
both_clean (l ∷ ls) ms h k = (h.0, both_clean ls ms h.1 k)

-- the lines of a command
number_clean : (n : ℕ) → n ≤ 65_536 → IsClean (decimal n)
number_clean n h = letters_clean (decimal n) (decimal_letters n (small n h))

file_clean : (n : ℕ) → n ≤ 65_536 → IsClean ((decimal n ++ codes ".txt") ++ codes "\"")
file_clean n h = clean_both (decimal n ++ codes ".txt") (codes "\"") (clean_both (decimal n) (codes ".txt") (number_clean n h) (plain_clean (codes ".txt") refl)) (plain_clean (codes "\"") refl)

template_clean : (n : ℕ) (c : List ℕ) → n ≤ 65_536 → IsUtf8 c → AllByRecursion IsClean (template_lines n c)
template_clean n c h u = (
  clean_behind (codes "template t") (decimal n) refl (number_clean n h),
  (
    plain_clean (codes "command \"sh\"") refl,
    (
      plain_clean (codes "arg \"-c\"") refl,
      (
        clean_behind (codes "arg ") (quoted c) refl (quoted_clean c u),
        (
          clean_behind (codes "output \"out-") ((decimal n ++ codes ".txt") ++ codes "\"") refl (file_clean n h),
          (
            clean_behind (codes "error \"err-") ((decimal n ++ codes ".txt") ++ codes "\"") refl (file_clean n h),
            (plain_clean (codes "end") refl, tt),
          ),
        ),
      ),
    ),
  ),
)

run_clean : (n : ℕ) → n ≤ 65_536 → IsClean (run_line n)
run_clean n h =
    clean_behind (codes "run j") ((decimal n ++ codes " s ") ++ template_name n) refl
    (clean_both (decimal n ++ codes " s ") (template_name n) (clean_both (decimal n) (codes " s ") (number_clean n h) (plain_clean (codes " s ") refl)) (clean_behind (codes "t") (decimal n) refl (number_clean n h)))

wait_clean : (n : ℕ) → n ≤ 65_536 → IsClean (wait_line n)
wait_clean n h = clean_behind (codes "wait-terminated s infinite j") (decimal n) refl (number_clean n h)

info_clean : (n : ℕ) → n ≤ 65_536 → IsClean (info_line n)
info_clean n h = clean_behind (codes "info s j") (decimal n) refl (number_clean n h)

templates_clean : (n : ℕ) (cs : List (List ℕ)) → n + length cs ≤ 65_537 → are_commands n cs ≡ true → AllByRecursion IsClean (all_templates n cs)
templates_clean n [] few each = tt
templates_clean n (c ∷ cs) few each =
    let parts = both (is_command n c) (are_commands (n + 1) cs) each in
    both_clean (template_lines n c) (all_templates (n + 1) cs) (template_clean n c (omega (arith, few)) (command_utf8 n c parts.0)) (templates_clean (n + 1) cs (omega (arith, few)) parts.1)

each_clean : (line : ℕ → List ℕ) → ((n : ℕ) → n ≤ 65_536 → IsClean (line n)) → (n : ℕ) (cs : List (List ℕ)) → n + length cs ≤ 65_537 → AllByRecursion IsClean (for_each line n cs)
each_clean line clean n [] few = tt
each_clean line clean n (c ∷ cs) few = (clean n (omega (arith, few)), each_clean line clean (n + 1) cs (omega (arith, few)))

client_clean : (cs : List (List ℕ)) → length cs ≤ 65_536 → AllByRecursion IsClean (client_lines cs)
client_clean cs h =
    let few : 1 + length cs ≤ 65_537 = omega (arith, h) in
    let waits = for_each wait_line 1 cs in
    let infos = for_each info_line 1 cs in
    let asked = both_clean waits (infos ++ codes "end" ∷ []) (each_clean wait_line wait_clean 1 cs few) (both_clean infos (codes "end" ∷ []) (each_clean info_line info_clean 1 cs few) (plain_clean (codes "end") refl, tt)) in
    (plain_clean (codes "client") refl, (plain_clean (codes "create-jobs s \"commands\"") refl, both_clean (for_each run_line 1 cs) (waits ++ (infos ++ codes "end" ∷ [])) (each_clean run_line run_clean 1 cs few) asked))

script_clean : (b : Batch) → IsBatch b → AllByRecursion IsClean (script_lines b)
script_clean b h = (
  subst IsClean (machine_text b.machine) (header_laws.clean (b.machine.slots, (b.machine.name, true)) (machine_valid b.machine h.machine h.name)),
  both_clean (all_templates 1 b.commands) (client_lines b.commands) (templates_clean 1 b.commands (omega (arith, h.few)) h.each) (client_clean b.commands h.few),
)

-- a reader skips none of them
unskipped_templates : (n : ℕ) (cs rest : List (List ℕ)) → unskipped_lines (all_templates n cs ++ rest) ≡ all_templates n cs ++ unskipped_lines rest
unskipped_templates n [] rest = refl
unskipped_templates n (c ∷ cs) rest = ap (λ t. template_lines n c ++ t) (unskipped_templates (n + 1) cs rest)

unskipped_each : (line : ℕ → List ℕ) → ((n : ℕ) → is_skipped (line n) ≡ false) → (n : ℕ) (cs rest : List (List ℕ)) → unskipped_lines (for_each line n cs ++ rest) ≡ for_each line n cs ++ unskipped_lines rest
unskipped_each line unskipped n [] rest = refl
unskipped_each line unskipped n (c ∷ cs) rest = rw (unskipped n, unskipped_each line unskipped (n + 1) cs rest) refl

unskipped_client : (cs : List (List ℕ)) → unskipped_lines (client_lines cs) ≡ client_lines cs
unskipped_client cs =
    let runs = for_each run_line 1 cs in
    let waits = for_each wait_line 1 cs in
    let infos = for_each info_line 1 cs in
    let end = codes "end" ∷ [] in
    ap (λ t. codes "client" ∷ codes "create-jobs s \"commands\"" ∷ t)
    (unskipped_each run_line (λ n. refl) 1 cs (waits ++ (infos ++ end))
    ∙ ap (λ t. runs ++ t) (unskipped_each wait_line (λ n. refl) 1 cs (infos ++ end) ∙ ap (λ t. waits ++ t) (unskipped_each info_line (λ n. refl) 1 cs end)))

unskipped_script : (b : Batch) → unskipped_lines (script_lines b) ≡ script_lines b
unskipped_script b =
    ap (λ t. machine_line b.machine ∷ t)
    (unskipped_templates 1 b.commands (client_lines b.commands) ∙ ap (λ t. all_templates 1 b.commands ++ t) (unskipped_client b.commands))

pub batch_text : (b : Batch) → IsBatch b → IsTextOf (SpellsUnskipped (Spells Threads)) most_bytes (script_text b) (script_of b)
batch_text b h =
    let clean = script_clean b h in
    ended_text (SpellsUnskipped (Spells Threads)) (script_lines b) (script_of b) most_bytes (clean_lines (script_lines b) clean)
    (record { readable = clean_readable (script_lines b) clean; spelled = subst (λ ls. Spells Threads ls (script_of b)) (sym (unskipped_script b)) (batch_spelled b h) })
    h.within

-- what is read is a batch
filled_within : (ls : List (List ℕ)) → length (filled ls) ≤ length ls
filled_within [] = omega arith
filled_within (l ∷ ls) = let more = filled_within ls in by_test (is_empty l) (λ b. rw b (omega (arith, more))) (λ b. rw b (omega (arith, more)))

pub read_is_batch : (m : Machine) (lines : List (List ℕ)) (b : Batch) → is_machine m.slots m.name ≡ true → IsUtf8 m.name → SpellsBatch m lines b → IsBatch b
read_is_batch m lines b machine name s = record {
  machine = subst (λ (k : Machine). is_machine k.slots k.name ≡ true) (sym s.machine) machine;
  name = subst (λ (k : Machine). IsUtf8 k.name) (sym s.machine) name;
  each = s.each;
  few = omega (arith, filled_within lines, ap length s.commands, s.few);
  within = s.within;
}
