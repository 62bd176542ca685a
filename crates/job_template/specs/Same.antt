-- Job templates that agree in a part of their fields.
use Rattle.std.specs.Prelude.{◌≡◌}
use Rattle.job_template.specs.declared.templates.JobTemplate.{JobTemplate}

-- what is run, under which name and with what
abbrev pub IsSameRun : JobTemplate → JobTemplate → Type 0
IsSameRun one other = (one.remote_command ≡ other.remote_command) × (one.args ≡ other.args) × (one.job_environment ≡ other.job_environment) × (one.working_directory ≡ other.working_directory) × (one.job_name ≡ other.job_name)

-- its files
abbrev pub IsSameFiles : JobTemplate → JobTemplate → Type 0
IsSameFiles one other = (one.input_path ≡ other.input_path) × (one.output_path ≡ other.output_path) × (one.error_path ≡ other.error_path) × (one.join_files ≡ other.join_files)

-- where it may run
abbrev pub IsSamePlace : JobTemplate → JobTemplate → Type 0
IsSamePlace one other = (one.submit_as_hold ≡ other.submit_as_hold) × (one.rerunnable ≡ other.rerunnable) × (one.reservation_id ≡ other.reservation_id) × (one.queue_name ≡ other.queue_name) × (one.min_slots ≡ other.min_slots) × (one.max_slots ≡ other.max_slots)

-- when it may run, and how long
abbrev pub IsSameTime : JobTemplate → JobTemplate → Type 0
IsSameTime one other = (one.priority ≡ other.priority) × (one.start_time ≡ other.start_time) × (one.deadline_time ≡ other.deadline_time) × (one.resource_limits ≡ other.resource_limits) × (one.others ≡ other.others)
