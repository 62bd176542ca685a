-- A job template of which the command alone is set.
use Rattle.std.specs.Prelude.{ℕ, List}
use Rattle.job_template.specs.declared.templates.JobTemplate.{JobTemplate}
use Rattle.job_template.specs.Blanks.{blank_template}

abbrev pub plain_template : List ℕ → JobTemplate
plain_template command = record blank_template { remote_command = command }
