-- How the lines of the script are spelled.
use Rattle.std.proofs.Common.{◌≡◌, ℕ, ◌+◌, ◌≤◌, List, [], ◌∷◌, ◌++◌, Some, length, map, decimal, codes, refl, sym, ap, ◌∙◌, arith, append_assoc, append-nil, true, false}
use Rattle.std.specs.List.{flat_map}
use Rattle.std.proofs.lemmas.Grind.{flat_map-append}
use Rattle.text_codec.specs.Formats.{mapped, or_else, behind, pair, number, checked}
use Rattle.text_codec.specs.Fields.{always, field, repeated, no_more}
use Rattle.text_codec.specs.Lexical.{quoted, escaped}
use Rattle.text_codec.specs.Quotes.{text}
use Rattle.text_codec.specs.Words.{name}
use Rattle.script_lines.specs.declared.fields.JobField.{JobField}
use Rattle.script_lines.specs.declared.fields.JobField.TheVariants as job
use Rattle.script_lines.specs.declared.lines.Line.{Line}
use Rattle.script_lines.specs.declared.lines.Line.TheVariants as line
use Rattle.script_lines.specs.Refs.{reference}
use Rattle.script_lines.specs.Shapes.{text_fields, create_fields, run_fields, ran_fields, wait_fields, timeout_form, two_fields}
use Rattle.script_lines.specs.Templates.{job_text}
use Rattle.script_text.specs.Header.{header, suspend}
use Rattle.script_text.specs.Scripts.{line_text, Part, Job, Lines, part_lines}
use Rattle.command_scripts.specs.declared.batches.Machine.{Machine}
use Rattle.command_scripts.specs.NameLaws.{digits_escaped}
use Rattle.command_scripts.specs.Scripts.{run_of, wait_of, info_of, client_of}
use Rattle.command_scripts.specs.Texts.{template_name, output_file, error_file, template_lines, run_line, wait_line, info_line, all_templates, for_each, machine_line, client_lines}

-- the lines of a command's template
abbrev pub fields_of : ℕ → List ℕ → List JobField
fields_of n command =
    job.Command (codes "sh") ∷ job.Arg (codes "-c") ∷ job.Arg command ∷ job.Output (output_file n) ∷ job.Error (error_file n) ∷ []

-- the blocks of the script
abbrev pub template_parts : ℕ → List (List ℕ) → List Part
template_parts n [] = []
template_parts n (command ∷ commands) = Job (template_name n) (fields_of n command) ∷ template_parts (n + 1) commands

abbrev pub parts_of : List (List ℕ) → List Part
parts_of commands = template_parts 1 commands ++ Lines false (client_of commands) ∷ []

pub machine_text : (m : Machine) → header.spell (m.slots, (m.name, true)) ≡ machine_line m
unfolding header suspend checked behind pair number text
machine_text m =
    let d = decimal m.slots in
    ap (λ t. codes "machine " ++ t) (sym (append_assoc (d ++ codes " ") (quoted m.name) (codes " suspend") ∙ append_assoc d (codes " ") (quoted m.name ++ codes " suspend")))

-- a file's name stands for itself in quotes
file_quoted : (n : ℕ) (front : List ℕ) → n ≤ 65_536 → flat_map escaped front ≡ front → quoted (front ++ (decimal n ++ codes ".txt")) ≡ codes "\"" ++ ((front ++ (decimal n ++ codes ".txt")) ++ codes "\"")
unfolding escaped
file_quoted n front small plain =
    let inside : flat_map escaped (decimal n ++ codes ".txt") ≡ decimal n ++ codes ".txt" =
    flat_map-append escaped (decimal n) (codes ".txt") ∙ ap (λ t. t ++ codes ".txt") (digits_escaped n small) in
    ap (λ t. codes "\"" ++ (t ++ codes "\"")) (flat_map-append escaped front (decimal n ++ codes ".txt") ∙ ap (λ t. t ++ flat_map escaped (decimal n ++ codes ".txt")) plain ∙ ap (λ t. front ++ t) inside)

field_text : (word t : List ℕ) → word ++ (codes " " ++ (quoted t ++ [])) ≡ word ++ (codes " " ++ quoted t)
field_text word t = ap (λ x. word ++ (codes " " ++ x)) (append-nil (quoted t))

command_text : job_text (job.Command (codes "sh")) ≡ codes "command \"sh\""
unfolding text_fields always no_more text escaped
command_text = refl

shell_text : job_text (job.Arg (codes "-c")) ≡ codes "arg \"-c\""
unfolding text_fields always no_more text escaped
shell_text = refl

arg_text : (c : List ℕ) → job_text (job.Arg c) ≡ codes "arg " ++ quoted c
unfolding text_fields always no_more text
arg_text c = field_text (codes "arg") c

output_text : (n : ℕ) → n ≤ 65_536 → job_text (job.Output (output_file n)) ≡ codes "output \"" ++ output_file n ++ codes "\""
unfolding text_fields always no_more text escaped
output_text n h = field_text (codes "output") (output_file n) ∙ ap (λ t. codes "output " ++ t) (file_quoted n (codes "out-") h refl)

error_text : (n : ℕ) → n ≤ 65_536 → job_text (job.Error (error_file n)) ≡ codes "error \"" ++ error_file n ++ codes "\""
unfolding text_fields always no_more text escaped
error_text n h = field_text (codes "error") (error_file n) ∙ ap (λ t. codes "error " ++ t) (file_quoted n (codes "err-") h refl)

template_text : (n : ℕ) (c : List ℕ) → n ≤ 65_536 → part_lines (Job (template_name n) (fields_of n c)) ≡ template_lines n c
unfolding name
template_text n c h = rw (command_text, shell_text, arg_text c, output_text n h, error_text n h) refl

create_text : line_text (line.CreateJobs (codes "s") (Some (codes "commands"))) ≡ codes "create-jobs s \"commands\""
unfolding create_fields always field no_more name text escaped
create_text = refl

run_text : (n : ℕ) → line_text (run_of n) ≡ run_line n
unfolding run_fields ran_fields always field no_more name reference
run_text n =
    ap (λ t. codes "run j" ++ t) (ap (λ t. decimal n ++ (codes " s t" ++ t)) (append-nil (decimal n)) ∙ sym (append_assoc (decimal n) (codes " s ") (template_name n)))

wait_text : (n : ℕ) → line_text (wait_of n) ≡ wait_line n
unfolding wait_fields timeout_form mapped or_else always repeated no_more reference
wait_text n = ap (λ t. codes "wait-terminated s infinite j" ++ t) (append-nil ((decimal n ++ [])) ∙ append-nil (decimal n))

info_text : (n : ℕ) → line_text (info_of n) ≡ info_line n
unfolding two_fields always no_more reference
info_text n = ap (λ t. codes "info s j" ++ t) (append-nil (decimal n))

each_text : (line : ℕ → Line) (spelled : ℕ → List ℕ) → ((n : ℕ) → line_text (line n) ≡ spelled n) → (n : ℕ) (cs : List (List ℕ)) → map line_text (for_each line n cs) ≡ for_each spelled n cs
each_text line spelled same n [] = refl
each_text line spelled same n (c ∷ cs) = rw (same n, each_text line spelled same (n + 1) cs) refl

map_append : (xs ys : List Line) → map line_text (xs ++ ys) ≡ map line_text xs ++ map line_text ys
map_append [] ys = refl
map_append (x ∷ xs) ys = ap (λ t. line_text x ∷ t) (map_append xs ys)

client_text : (cs : List (List ℕ)) → part_lines (Lines false (client_of cs)) ≡ client_lines cs
client_text cs =
    let runs = for_each run_of 1 cs in
    let waits = for_each wait_of 1 cs in
    let infos = for_each info_of 1 cs in
    let same : map line_text (runs ++ (waits ++ infos)) ≡ for_each run_line 1 cs ++ (for_each wait_line 1 cs ++ for_each info_line 1 cs) =
    map_append runs (waits ++ infos) ∙ rw (map_append waits infos, each_text run_of run_line run_text 1 cs, each_text wait_of wait_line wait_text 1 cs, each_text info_of info_line info_text 1 cs) refl in
    let rest = for_each wait_line 1 cs ++ for_each info_line 1 cs in
    ap (λ l. codes "client" ∷ l ∷ (map line_text (runs ++ (waits ++ infos)) ++ codes "end" ∷ [])) create_text
    ∙ ap (λ t. codes "client" ∷ codes "create-jobs s \"commands\"" ∷ (t ++ codes "end" ∷ [])) same
    ∙ ap (λ t. codes "client" ∷ codes "create-jobs s \"commands\"" ∷ t)
    (append_assoc (for_each run_line 1 cs) rest (codes "end" ∷ []) ∙ ap (λ t. for_each run_line 1 cs ++ t) (append_assoc (for_each wait_line 1 cs) (for_each info_line 1 cs) (codes "end" ∷ [])))

templates_text : (n : ℕ) (cs : List (List ℕ)) → n + length cs ≤ 65_537 → flat_map part_lines (template_parts n cs) ≡ all_templates n cs
templates_text n [] h = refl
templates_text n (c ∷ cs) h =
    ap (λ t. t ++ flat_map part_lines (template_parts (n + 1) cs)) (template_text n c (omega (arith, h)))
    ∙ ap (λ t. template_lines n c ++ t) (templates_text (n + 1) cs (omega (arith, h)))

pub parts_text : (cs : List (List ℕ)) → length cs ≤ 65_536 → flat_map part_lines (parts_of cs) ≡ all_templates 1 cs ++ client_lines cs
parts_text cs h =
    flat_map-append part_lines (template_parts 1 cs) (Lines false (client_of cs) ∷ [])
    ∙ rw (templates_text 1 cs (omega (arith, h)), append-nil (part_lines (Lines false (client_of cs))), client_text cs) refl
