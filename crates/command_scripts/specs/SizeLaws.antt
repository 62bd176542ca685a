-- How many bytes the script of a batch has.
use Rattle.std.proofs.Common.{◌≡◌, ℕ, ◌+◌, List, [], ◌∷◌, ◌++◌, length, codes, refl, ap, ◌∙◌, arith, length-append}
use Rattle.std.proofs.lemmas.Grind.{flat_map-append}
use Rattle.text_lines.specs.Lines.{ended}
use Rattle.command_scripts.specs.declared.batches.Machine.{Machine}
use Rattle.command_scripts.specs.Texts.{template_lines, run_line, wait_line, info_line, machine_line, all_templates, for_each, client_lines, script_text}
use Rattle.command_scripts.specs.Reading.{frame_size, line_size, command_size}

-- the bytes of the lines of commands, which have the numbers from n on
abbrev pub commands_size : ℕ → List (List ℕ) → ℕ
commands_size n [] = 0
commands_size n (c ∷ cs) = command_size n c + commands_size (n + 1) cs

-- the bytes of lines
abbrev pub size : List (List ℕ) → ℕ
size ls = length (ended ls)

pub size-append : (ls ms : List (List ℕ)) → size (ls ++ ms) ≡ size ls + size ms
size-append ls ms = ap length (flat_map-append (λ l. l ++ 10 ∷ []) ls ms) ∙ length-append (ended ls) (ended ms)

pub size-cons : (l : List ℕ) (ls : List (List ℕ)) → size (l ∷ ls) ≡ line_size l + size ls
size-cons l ls = length-append (l ++ 10 ∷ []) (ended ls) ∙ ap (λ k. k + size ls) (length-append l (10 ∷ []))

each_size : (n : ℕ) (cs : List (List ℕ)) → size (all_templates n cs) + size (for_each run_line n cs) + size (for_each wait_line n cs) + size (for_each info_line n cs) ≡ commands_size n cs
each_size n [] = refl
each_size n (c ∷ cs) =
    let templates = size-append (template_lines n c) (all_templates (n + 1) cs) in
    let runs = size-cons (run_line n) (for_each run_line (n + 1) cs) in
    let waits = size-cons (wait_line n) (for_each wait_line (n + 1) cs) in
    let infos = size-cons (info_line n) (for_each info_line (n + 1) cs) in
    omega (arith, templates, runs, waits, infos, each_size (n + 1) cs)

-- the script is as long as its frame, and the lines of each command
pub script_size : (m : Machine) (cs : List (List ℕ)) → length (script_text (record { machine = m; commands = cs })) ≡ frame_size m + commands_size 1 cs
script_size m cs =
    let whole = size-cons (machine_line m) (all_templates 1 cs ++ client_lines cs) in
    let parts = size-append (all_templates 1 cs) (client_lines cs) in
    let client = size-cons (codes "client") (codes "create-jobs s \"commands\"" ∷ (for_each run_line 1 cs ++ (for_each wait_line 1 cs ++ (for_each info_line 1 cs ++ codes "end" ∷ [])))) in
    let session = size-cons (codes "create-jobs s \"commands\"") (for_each run_line 1 cs ++ (for_each wait_line 1 cs ++ (for_each info_line 1 cs ++ codes "end" ∷ []))) in
    let runs = size-append (for_each run_line 1 cs) (for_each wait_line 1 cs ++ (for_each info_line 1 cs ++ codes "end" ∷ [])) in
    let waits = size-append (for_each wait_line 1 cs) (for_each info_line 1 cs ++ codes "end" ∷ []) in
    let infos = size-append (for_each info_line 1 cs) (codes "end" ∷ []) in
    let empty = size-cons (machine_line m) (client_lines []) in
    let all = each_size 1 cs in
    omega (arith, whole, parts, client, session, runs, waits, infos, empty, all)
