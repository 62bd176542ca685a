-- The parts that a copy of a template is made of, and how they make it up again.
use Rattle.std.specs.Prelude.{ℕ, List}
use Rattle.std.specs.Option.{option_map}
use Rattle.job_template.specs.declared.copies.Common.{Common}
use Rattle.job_template.specs.declared.copies.Paths.{Paths}
use Rattle.job_template.specs.declared.templates.JobTemplate.{JobTemplate}
use Rattle.drmaa_types.specs.declared.template_parts.Pair.{Pair}

-- what is the same for each member of an array
abbrev pub common_of : JobTemplate → Common
common_of t = record {
  remote_command = t.remote_command;
  job_name = t.job_name;
  queue_name = t.queue_name;
  resource_limits = t.resource_limits;
  others = t.others;
}

-- the paths, with this made of them
abbrev pub paths_with : (List ℕ → List ℕ) → JobTemplate → Paths
paths_with made t = record {
  working_directory = option_map made t.working_directory;
  input_path = option_map made t.input_path;
  output_path = option_map made t.output_path;
  error_path = option_map made t.error_path;
}

abbrev pub paths_of : JobTemplate → Paths
paths_of t = record {
  working_directory = t.working_directory;
  input_path = t.input_path;
  output_path = t.output_path;
  error_path = t.error_path;
}

-- these parts with all else of a template
abbrev pub assembled : JobTemplate → Common → Paths → List (List ℕ) → List Pair → JobTemplate
assembled t common paths args environment = record t {
  remote_command = common.remote_command;
  args = args;
  job_environment = environment;
  working_directory = paths.working_directory;
  job_name = common.job_name;
  input_path = paths.input_path;
  output_path = paths.output_path;
  error_path = paths.error_path;
  queue_name = common.queue_name;
  resource_limits = common.resource_limits;
  others = common.others;
}
