-- The script that runs commands, line by line: our profile.
use Rattle.std.specs.Prelude.{ℕ, ◌+◌, List, [], ◌∷◌, ◌++◌, codes, decimal}
use Rattle.text_codec.specs.Lexical.{quoted}
use Rattle.text_lines.specs.Lines.{ended}
use Rattle.command_scripts.specs.declared.batches.Batch.{Batch}
use Rattle.command_scripts.specs.declared.batches.Machine.{Machine}

-- the names of a command's template and of its job, and the files of its output and of its errors, each with its number
abbrev pub template_name : ℕ → List ℕ
template_name n = codes "t" ++ decimal n

abbrev pub job_name : ℕ → List ℕ
job_name n = codes "j" ++ decimal n

abbrev pub output_file : ℕ → List ℕ
output_file n = codes "out-" ++ decimal n ++ codes ".txt"

abbrev pub error_file : ℕ → List ℕ
error_file n = codes "err-" ++ decimal n ++ codes ".txt"

-- the lines of a command: of its template, by which it is run, by which its end is waited for, and by which its info is asked
abbrev pub template_lines : ℕ → List ℕ → List (List ℕ)
template_lines n command =
    (codes "template " ++ template_name n)
    ∷ codes "command \"sh\""
    ∷ codes "arg \"-c\""
    ∷ (codes "arg " ++ quoted command)
    ∷ (codes "output \"" ++ output_file n ++ codes "\"")
    ∷ (codes "error \"" ++ error_file n ++ codes "\"")
    ∷ codes "end"
    ∷ []

abbrev pub run_line : ℕ → List ℕ
run_line n = codes "run " ++ job_name n ++ codes " s " ++ template_name n

abbrev pub wait_line : ℕ → List ℕ
wait_line n = codes "wait-terminated s infinite " ++ job_name n

abbrev pub info_line : ℕ → List ℕ
info_line n = codes "info s " ++ job_name n

-- the templates of commands, which have the numbers from n on
abbrev pub all_templates : ℕ → List (List ℕ) → List (List ℕ)
all_templates n [] = []
all_templates n (command ∷ commands) = template_lines n command ++ all_templates (n + 1) commands

-- one thing for each command, by its number
abbrev pub for_each : {A : Type 0} → (ℕ → A) → ℕ → List (List ℕ) → List A
for_each thing n [] = []
for_each thing n (command ∷ commands) = thing n ∷ for_each thing (n + 1) commands

abbrev pub machine_line : Machine → List ℕ
machine_line m = codes "machine " ++ decimal m.slots ++ codes " " ++ quoted m.name ++ codes " suspend"

-- One client, which submits all jobs, then waits for each, however long it takes, and then asks for the info of each.
abbrev pub client_lines : List (List ℕ) → List (List ℕ)
client_lines commands =
    codes "client"
    ∷ codes "create-jobs s \"commands\""
    ∷ (for_each run_line 1 commands ++ (for_each wait_line 1 commands ++ (for_each info_line 1 commands ++ codes "end" ∷ [])))

-- the machine, a template for each command, and the client
abbrev pub script_lines : Batch → List (List ℕ)
script_lines b = machine_line b.machine ∷ (all_templates 1 b.commands ++ client_lines b.commands)

abbrev pub script_text : Batch → List ℕ
script_text b = ended (script_lines b)
