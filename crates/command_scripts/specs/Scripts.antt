-- What the script of commands says: our profile.
use Rattle.std.specs.Prelude.{ℕ, ◌+◌, true, List, [], ◌∷◌, ◌++◌, Some, None, codes}
use Rattle.drmaa_types.specs.declared.moments.Timeout.TheVariants.{Infinite}
use Rattle.job_template.specs.declared.templates.JobTemplate.{JobTemplate}
use Rattle.script_lines.specs.declared.lines.Line.{Line}
use Rattle.script_lines.specs.declared.lines.Line.TheVariants as line
use Rattle.script_lines.specs.declared.refs.Ref.{Ref}
use Rattle.script_lines.specs.declared.refs.Ref.TheVariants.{Bound}
use Rattle.script_text.specs.declared.scripts.Script.{Script}
use Rattle.script_text.specs.Header.{config_of}
use Rattle.command_scripts.specs.declared.batches.Batch.{Batch}
use Rattle.command_scripts.specs.Templates.{template_of}
use Rattle.command_scripts.specs.Texts.{template_name, job_name, for_each}

-- a template for each command, which have the numbers from n on
abbrev pub named_templates : ℕ → List (List ℕ) → List (List ℕ × JobTemplate)
named_templates n [] = []
named_templates n (command ∷ commands) = (template_name n, template_of n command) ∷ named_templates (n + 1) commands

-- the session, and a command's job
abbrev pub session : Ref
session = Bound (codes "s")

abbrev pub job : ℕ → Ref
job n = Bound (job_name n)

-- the job is submitted, its end is waited for, however long it takes, and its info is asked for
abbrev pub run_of : ℕ → Line
run_of n = line.Run (job_name n) session (template_name n) None

abbrev pub wait_of : ℕ → Line
wait_of n = line.WaitTerminated session Infinite (job n ∷ [])

abbrev pub info_of : ℕ → Line
info_of n = line.Info session (job n)

-- what the client asks: one run, one wait and one info for each command, all runs first
abbrev pub client_of : List (List ℕ) → List Line
client_of commands =
    line.CreateJobs (codes "s") (Some (codes "commands"))
    ∷ (for_each run_of 1 commands ++ (for_each wait_of 1 commands ++ for_each info_of 1 commands))

abbrev pub script_of : Batch → Script
script_of b = record {
  config = config_of (b.machine.slots, (b.machine.name, true)) [];
  jobs = named_templates 1 b.commands;
  reservations = [];
  setup = None;
  clients = client_of b.commands ∷ [];
}
