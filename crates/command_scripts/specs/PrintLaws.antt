-- What is printed in turn is the script.
use Rattle.std.proofs.Common.{◌≡◌, ℕ, ◌+◌, ◌<◌, List, [], ◌∷◌, ◌++◌, length, get_or, drop, decimal, codes, sym, ap, ◌∙◌, append_assoc}
use Rattle.std.proofs.lemmas.Grind.{flat_map-append}
use Rattle.std.proofs.lemmas.List.{drop_more}
use Rattle.text_codec.specs.Lexical.{quoted}
use Rattle.text_lines.specs.Lines.{ended}
use Rattle.command_scripts.specs.declared.batches.Batch.{Batch}
use Rattle.command_scripts.specs.Texts.{output_file, error_file, run_line, wait_line, info_line, template_lines, all_templates, for_each, machine_line, client_lines, script_text}

pub ended_append : (ls ms : List (List ℕ)) → ended (ls ++ ms) ≡ ended ls ++ ended ms
ended_append ls ms = flat_map-append (λ l. l ++ 10 ∷ []) ls ms

pub templates_first : (n : ℕ) (c : List ℕ) (cs : List (List ℕ)) → ended (all_templates n (c ∷ cs)) ≡ ended (template_lines n c) ++ ended (all_templates (n + 1) cs)
templates_first n c cs = ended_append (template_lines n c) (all_templates (n + 1) cs)

five : (a s r w i e : List ℕ) → ((((a ++ s) ++ r) ++ w) ++ i) ++ e ≡ a ++ (s ++ (r ++ (w ++ (i ++ e))))
five a s r w i e = append_assoc (((a ++ s) ++ r) ++ w) i e ∙ append_assoc ((a ++ s) ++ r) w (i ++ e) ∙ append_assoc (a ++ s) r (w ++ (i ++ e)) ∙ append_assoc a s (r ++ (w ++ (i ++ e)))

asked_text : (rs ws is : List (List ℕ)) → ended (rs ++ (ws ++ (is ++ codes "end" ∷ []))) ≡ ended rs ++ (ended ws ++ (ended is ++ codes "end\n"))
asked_text rs ws is =
    ended_append rs (ws ++ (is ++ codes "end" ∷ []))
    ∙ ap (λ t. ended rs ++ t) (ended_append ws (is ++ codes "end" ∷ []) ∙ ap (λ t. ended ws ++ t) (ended_append is (codes "end" ∷ [])))

pub client_printed : (cs : List (List ℕ)) (a b c d e f : List ℕ) → b ≡ a ++ codes "client\ncreate-jobs s \"commands\"\n" → c ≡ b ++ ended (for_each run_line 1 cs)
    → d ≡ c ++ ended (for_each wait_line 1 cs) → e ≡ d ++ ended (for_each info_line 1 cs) → f ≡ e ++ codes "end\n" → f ≡ a ++ ended (client_lines cs)
client_printed cs a b c d e f start runs waits infos end =
    let rs = ended (for_each run_line 1 cs) in
    let ws = ended (for_each wait_line 1 cs) in
    let is = ended (for_each info_line 1 cs) in
    let head = codes "client\ncreate-jobs s \"commands\"\n" in
    end ∙ ap (λ t. t ++ codes "end\n") (infos ∙ ap (λ t. t ++ is) (waits ∙ ap (λ t. t ++ ws) (runs ∙ ap (λ t. t ++ rs) start)))
    ∙ five a head rs ws is (codes "end\n")
    ∙ ap (λ t. a ++ (head ++ t)) (sym (asked_text (for_each run_line 1 cs) (for_each wait_line 1 cs) (for_each info_line 1 cs)))

-- the end of a line with a file, and what follows it
file_end : (d rest : List ℕ) → (((d ++ codes ".txt") ++ codes "\"") ++ 10 ∷ []) ++ rest ≡ d ++ (codes ".txt\"\n" ++ rest)
file_end d rest = append_assoc ((d ++ codes ".txt") ++ codes "\"") (10 ∷ []) rest ∙ append_assoc (d ++ codes ".txt") (codes "\"") (10 ∷ rest) ∙ append_assoc d (codes ".txt") (34 ∷ 10 ∷ rest)

files_text : (n : ℕ) → ended ((codes "output \"" ++ output_file n ++ codes "\"") ∷ (codes "error \"" ++ error_file n ++ codes "\"") ∷ codes "end" ∷ [])
    ≡ codes "output \"out-" ++ (decimal n ++ (codes ".txt\"\n" ++ (codes "error \"err-" ++ (decimal n ++ codes ".txt\"\nend\n"))))
files_text n =
    let d = decimal n in
    ap (λ t. codes "output \"out-" ++ t)
    (file_end d (ended ((codes "error \"" ++ error_file n ++ codes "\"") ∷ codes "end" ∷ []))
    ∙ ap (λ t. d ++ (codes ".txt\"\n" ++ (codes "error \"err-" ++ t))) (file_end d (codes "end\n")))

four : (a s q o e : List ℕ) → (((a ++ s) ++ q) ++ o) ++ e ≡ a ++ (s ++ (q ++ (o ++ e)))
four a s q o e = append_assoc ((a ++ s) ++ q) o e ∙ append_assoc (a ++ s) q (o ++ e) ∙ append_assoc a s (q ++ (o ++ e))

-- all that is printed of a template
printed : ℕ → List ℕ → List ℕ
printed n c =
    codes "template t"
    ++ (decimal n
    ++ (codes "\ncommand \"sh\"\narg \"-c\"\narg "
    ++ (quoted c
    ++ (codes "\noutput \"out-" ++ (decimal n ++ (codes ".txt\"\n" ++ (codes "error \"err-" ++ (decimal n ++ codes ".txt\"\nend\n"))))))))

lines_text : (n : ℕ) (c : List ℕ) → ended (template_lines n c) ≡ printed n c
unfolding printed
lines_text n c =
    let d = decimal n in
    let files = ended ((codes "output \"" ++ output_file n ++ codes "\"") ∷ (codes "error \"" ++ error_file n ++ codes "\"") ∷ codes "end" ∷ []) in
    let start = codes "command \"sh\"\narg \"-c\"\narg " in
    ap (λ t. codes "template t" ++ t)
    (append_assoc d (10 ∷ []) (start ++ ((quoted c ++ 10 ∷ []) ++ files))
    ∙ ap (λ t. d ++ (10 ∷ (start ++ t))) (append_assoc (quoted c) (10 ∷ []) files ∙ ap (λ t. quoted c ++ 10 ∷ t) (files_text n)))

template_text : (n : ℕ) (c a : List ℕ)
    → (((a ++ (codes "template t" ++ (decimal n ++ codes "\ncommand \"sh\"\narg \"-c\"\narg "))) ++ quoted c) ++ (codes "\noutput \"out-" ++ (decimal n ++ codes ".txt\"\n"))) ++ (codes "error \"err-" ++ (decimal n ++ codes ".txt\"\nend\n"))
    ≡ a ++ ended (template_lines n c)
unfolding printed
template_text n c a =
    let d = decimal n in
    let start = codes "\ncommand \"sh\"\narg \"-c\"\narg " in
    let error = codes "error \"err-" ++ (d ++ codes ".txt\"\nend\n") in
    let output = codes "\noutput \"out-" ++ (d ++ codes ".txt\"\n") in
    four a (codes "template t" ++ (d ++ start)) (quoted c) output error
    ∙ ap (λ t. a ++ (codes "template t" ++ t)) (append_assoc d start (quoted c ++ (output ++ error))
    ∙ ap (λ t. d ++ (start ++ (quoted c ++ (codes "\noutput \"out-" ++ t)))) (append_assoc d (codes ".txt\"\n") error))
    ∙ ap (λ t. a ++ t) (sym (lines_text n c))

pub template_printed : (n : ℕ) (c a b d e f : List ℕ) → b ≡ a ++ (codes "template t" ++ (decimal n ++ codes "\ncommand \"sh\"\narg \"-c\"\narg ")) → d ≡ b ++ quoted c
    → e ≡ d ++ (codes "\noutput \"out-" ++ (decimal n ++ codes ".txt\"\n")) → f ≡ e ++ (codes "error \"err-" ++ (decimal n ++ codes ".txt\"\nend\n")) → f ≡ a ++ ended (template_lines n c)
template_printed n c a b d e f start command output error =
    error ∙ ap (λ t. t ++ (codes "error \"err-" ++ (decimal n ++ codes ".txt\"\nend\n")))
    (output ∙ ap (λ t. t ++ (codes "\noutput \"out-" ++ (decimal n ++ codes ".txt\"\n"))) (command ∙ ap (λ t. t ++ quoted c) start))
    ∙ template_text n c a

pub script_printed : (batch : Batch) (a b c d : List ℕ) → a ≡ [] → b ≡ a ++ (machine_line batch.machine ++ 10 ∷ []) → c ≡ b ++ ended (all_templates 1 batch.commands)
    → d ≡ c ++ ended (client_lines batch.commands) → d ≡ script_text batch
script_printed batch a b c d none machine templates client =
    let m = machine_line batch.machine ++ 10 ∷ [] in
    client
    ∙ ap (λ t. t ++ ended (client_lines batch.commands)) (templates ∙ ap (λ t. t ++ ended (all_templates 1 batch.commands)) (machine ∙ ap (λ t. t ++ m) none))
    ∙ append_assoc m (ended (all_templates 1 batch.commands)) (ended (client_lines batch.commands))
    ∙ ap (λ t. m ++ t) (sym (ended_append (all_templates 1 batch.commands) (client_lines batch.commands)))

-- one template more was printed
pub templates_more : (i : ℕ) (cs : List (List ℕ)) (c a b all : List ℕ) → i < length cs → c ≡ get_or cs i c → b ≡ a ++ ended (template_lines (i + 1) c)
    → a ++ ended (all_templates (i + 1) (drop i cs)) ≡ all → b ++ ended (all_templates (i + 1 + 1) (drop (i + 1) cs)) ≡ all
templates_more i cs c a b all small here printed so_far =
    let rest = ended (all_templates (i + 1 + 1) (drop (i + 1) cs)) in
    let left : c ∷ drop (i + 1) cs ≡ drop i cs = ap (λ x. x ∷ drop (i + 1) cs) here ∙ sym (drop_more cs i c small) in
    ap (λ t. t ++ rest) printed ∙ append_assoc a (ended (template_lines (i + 1) c)) rest
    ∙ ap (λ t. a ++ t) (sym (templates_first (i + 1) c (drop (i + 1) cs)) ∙ ap (λ ls. ended (all_templates (i + 1) ls)) left)
    ∙ so_far
