-- The script of a batch is a script for threads.
use Rattle.std.proofs.Common.{◌≡◌, ℕ, ◌+◌, ◌<◌, ◌≤◌, ◌^◌, ◌&&◌, not, nat_lt, nat_le, true, false, List, [], ◌∷◌, ◌++◌, None, length, decimal, codes, refl, sym, ap, subst, ◌∙◌, arith, append_assoc, append-nil, IsUtf8}
use Rattle.std.specs.List.{AllByRecursion}
use Rattle.std.specs.Map.{lookup}
use Rattle.std.specs.Str.{bytes_eq, is_utf8}
use Rattle.std.proofs.lemmas.Bool.Decides.{nat_tests}
use Rattle.std.proofs.lemmas.Str.{IsUtf8-from_is_utf8}
use Rattle.job_template.specs.declared.templates.JobTemplate.{JobTemplate}
use Rattle.job_template.specs.Texts.{has_nul, text_length, most_text}
use Rattle.text_codec.specs.CleanLaws.{letters_clean, plain_clean, clean_both}
use Rattle.text_codec.specs.BaseLaws.{decimal_letters}
use Rattle.text_codec.specs.Fields.{always, no_more}
use Rattle.text_codec.specs.Formats.{behind, pair, number, checked}
use Rattle.text_codec.specs.Lexical.{IsClean}
use Rattle.text_codec.specs.Quotes.{text}
use Rattle.text_codec.specs.StepLaws.{both, by_test}
use Rattle.text_codec.specs.Words.{name}
use Rattle.script_lines.specs.Shapes.{text_fields}
use Rattle.script_lines.specs.Templates.{IsJobField}
use Rattle.script_text.specs.declared.scripts.Mode.TheVariants.{Threads}
use Rattle.script_text.specs.declared.scripts.Script.{Script}
use Rattle.script_text.specs.Header.{header, suspend, is_machine, config_of}
use Rattle.script_text.specs.NameLaws.{lookup-append}
use Rattle.script_text.specs.Names.{is_there}
use Rattle.script_text.specs.Scripts.{Part, Job, Lines, After, Makes, Spells}
use Rattle.command_scripts.specs.declared.batches.Batch.{Batch}
use Rattle.command_scripts.specs.declared.batches.Machine.{Machine}
use Rattle.command_scripts.specs.Batches.{is_command, are_commands, IsBatch}
use Rattle.command_scripts.specs.ClientLaws.{Each, client_follows}
use Rattle.command_scripts.specs.LineTexts.{fields_of, template_parts, parts_of, machine_text, parts_text}
use Rattle.command_scripts.specs.NameLaws.{small, is_template_name, apart, itself}
use Rattle.command_scripts.specs.Scripts.{named_templates, client_of, script_of}
use Rattle.command_scripts.specs.Templates.{template_of}
use Rattle.command_scripts.specs.Texts.{template_name, all_templates, client_lines, script_lines}

-- a script of this machine, with these templates and no block yet
abbrev pub standing : Machine → List (List ℕ × JobTemplate) → Script
standing m jobs = record { config = config_of (m.slots, (m.name, true)) []; jobs = jobs; reservations = []; setup = None; clients = [] }

-- no template has a name with a number from n on
abbrev pub Unused : ℕ → List (List ℕ × JobTemplate) → Type 0
Unused n jobs = (m : ℕ) → n ≤ m → m ≤ 65_536 → lookup (bytes_eq (template_name m)) jobs ≡ None

unused_more : (n : ℕ) (jobs : List (List ℕ × JobTemplate)) (t : JobTemplate) → n ≤ 65_536 → Unused n jobs → Unused (n + 1) (jobs ++ (template_name n, t) ∷ [])
unused_more n jobs t h unused m l k =
    lookup-append (bytes_eq (template_name m)) jobs ((template_name n, t) ∷ []) ∙ rw (unused m (omega (arith, l)) k, apart 116 m n k h (λ e. omega (arith, l, e))) refl

-- each line of a template is in its range
file_utf8 : (n : ℕ) (front : List ℕ) → n ≤ 65_536 → IsClean front → IsUtf8 (front ++ (decimal n ++ codes ".txt"))
file_utf8 n front h c = (clean_both front (decimal n ++ codes ".txt") c (clean_both (decimal n) (codes ".txt") (letters_clean (decimal n) (decimal_letters n (small n h))) (plain_clean (codes ".txt") refl))).utf8

fields_valid : (n : ℕ) (c : List ℕ) → n ≤ 65_536 → IsUtf8 c → AllByRecursion IsJobField (fields_of n c)
unfolding text_fields always no_more text
fields_valid n c h u =
    (((letters_clean (codes "sh") refl).utf8, tt), (((letters_clean (codes "-c") refl).utf8, tt), ((u, tt), ((file_utf8 n (codes "out-") h (letters_clean (codes "out-") refl), tt), ((file_utf8 n (codes "err-") h (letters_clean (codes "err-") refl), tt), tt)))))

pub command_utf8 : (n : ℕ) (c : List ℕ) → is_command n c ≡ true → IsUtf8 c
command_utf8 n c h =
    let texts = both (is_utf8 c && not (has_nul c)) (nat_le (text_length (template_of n c)) most_text) h in
    IsUtf8-from_is_utf8 c (both (is_utf8 c) (not (has_nul c)) texts.0).0

-- a template more
after_template : (m : Machine) (n : ℕ) (c : List ℕ) (jobs : List (List ℕ × JobTemplate)) → n ≤ 65_536 → IsUtf8 c → Unused n jobs
    → After Threads (standing m jobs) (Job (template_name n) (fields_of n c)) (standing m (jobs ++ (template_name n, template_of n c) ∷ []))
unfolding name
after_template m n c jobs h u unused =
    (record { has_command = true; template = template_of n c }, refl, refl, rw (unused n (omega arith) h) refl, is_template_name n h, fields_valid n c h u, refl)

templates_make : (m : Machine) (n : ℕ) (cs : List (List ℕ)) (jobs : List (List ℕ × JobTemplate)) (ps : List Part) (t : Script) → n + length cs ≤ 65_537 → are_commands n cs ≡ true → Unused n jobs
    → Makes Threads (standing m (jobs ++ named_templates n cs)) ps t → Makes Threads (standing m jobs) (template_parts n cs ++ ps) t
templates_make m n [] jobs ps t few each unused makes = subst (λ js. Makes Threads (standing m js) ps t) (append-nil jobs) makes
templates_make m n (c ∷ cs) jobs ps t few each unused makes =
    let h : n ≤ 65_536 = omega (arith, few) in
    let parts = both (is_command n c) (are_commands (n + 1) cs) each in
    let one = (template_name n, template_of n c) ∷ [] in
    let rest = subst (λ js. Makes Threads (standing m js) ps t) (sym (append_assoc jobs one (named_templates (n + 1) cs))) makes in
    (standing m (jobs ++ one), after_template m n c jobs h (command_utf8 n c parts.0) unused, templates_make m (n + 1) cs (jobs ++ one) ps t (omega (arith, few)) parts.1 (unused_more n jobs (template_of n c) h unused) rest)

-- each command has its template
there_first : (m : ℕ) (c : List ℕ) (jobs : List (List ℕ × JobTemplate)) → is_there ((template_name m, template_of m c) ∷ jobs) (template_name m) ≡ true
there_first m c jobs = rw (itself (template_name m)) refl

there_later : (m n : ℕ) (t : JobTemplate) (jobs : List (List ℕ × JobTemplate)) → m ≤ 65_536 → n ≤ 65_536 → n < m → is_there ((template_name n, t) ∷ jobs) (template_name m) ≡ is_there jobs (template_name m)
there_later m n t jobs h k l = rw (apart 116 m n h k (λ e. omega (arith, l, e))) refl

each_there : (n : ℕ) (cs : List (List ℕ)) → n + length cs ≤ 65_537 → Each (λ m. is_there (named_templates n cs) (template_name m) ≡ true) n cs
each_there n [] few m l k = absurd (omega (arith, l, k))
each_there n (c ∷ cs) few m l k =
    by_test (nat_lt n m)
    (λ t. let less : n < m = grind (arith, nat_tests) in there_later m n (template_of n c) (named_templates (n + 1) cs) (omega (arith, few, k)) (omega (arith, few)) less ∙ each_there (n + 1) cs (omega (arith, few)) m (omega (arith, less)) (omega (arith, k)))
    (λ f. let same : n ≡ m = grind (arith, nat_tests) in subst (λ x. is_there (named_templates x (c ∷ cs)) (template_name m) ≡ true) (sym same) (there_first m c (named_templates (m + 1) cs)))

client_made : (m : Machine) (cs : List (List ℕ)) → length cs ≤ 65_536 → Makes Threads (standing m (named_templates 1 cs)) (Lines false (client_of cs) ∷ []) (script_of (record { machine = m; commands = cs }))
client_made m cs h = (script_of (record { machine = m; commands = cs }), (refl, client_follows (standing m (named_templates 1 cs)) cs h (each_there 1 cs (omega (arith, h))), refl), refl)

-- the machine's line
slots_small : (slots : ℕ) (w : List ℕ) → is_machine slots w ≡ true → slots < 2 ^ 32
slots_small slots w h = grind (arith, nat_tests)

pub machine_valid : (m : Machine) → is_machine m.slots m.name ≡ true → IsUtf8 m.name → header.valid (m.slots, (m.name, true))
unfolding header suspend checked behind pair number text
machine_valid m h u = ((slots_small m.slots m.name h, (u, refl)), h)

pub batch_spelled : (b : Batch) → IsBatch b → Spells Threads (script_lines b) (script_of b)
batch_spelled b h = record {
  machine = (b.machine.slots, (b.machine.name, true));
  valid = machine_valid b.machine h.machine h.name;
  queues = [];
  each = tt;
  queued = refl;
  parts = parts_of b.commands;
  makes = templates_make b.machine 1 b.commands [] (Lines false (client_of b.commands) ∷ []) (script_of b) (omega (arith, h.few)) h.each (λ m l k. refl) (client_made b.machine b.commands h.few);
  text = ap (λ l. l ∷ (all_templates 1 b.commands ++ client_lines b.commands)) (sym (machine_text b.machine)) ∙ ap (λ ls. header.spell (b.machine.slots, (b.machine.name, true)) ∷ ls) (sym (parts_text b.commands h.few));
}
