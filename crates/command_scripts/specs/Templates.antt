-- What is run of a command: our profile.
use Rattle.std.specs.Prelude.{ℕ, List, [], ◌∷◌, Some, codes}
use Rattle.job_template.specs.declared.templates.JobTemplate.{JobTemplate}
use Rattle.script_lines.specs.Templates.{no_fields}
use Rattle.command_scripts.specs.Texts.{output_file, error_file}

-- `sh -c COMMAND`, with its output and its errors in files of its number; nothing else is set
abbrev pub template_of : ℕ → List ℕ → JobTemplate
template_of n command = record no_fields.template {
  remote_command = codes "sh";
  args = codes "-c" ∷ command ∷ [];
  output_path = Some (output_file n);
  error_path = Some (error_file n);
}
