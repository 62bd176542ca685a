-- Templates of which no attribute is set (GFD.231, JobTemplate and ReservationTemplate), and the limit that a job may have.
use Rattle.std.specs.Prelude.{ℕ, false, [], codes, None}
use Rattle.job_template.specs.declared.templates.JobTemplate.{JobTemplate}
use Rattle.job_template.specs.declared.templates.ReservationTemplate.{ReservationTemplate}
use Rattle.drmaa_types.specs.declared.template_parts.ResourceLimit.{ResourceLimit}

-- a job of which nothing is set; its command is the empty text
abbrev pub blank_template : JobTemplate
blank_template = record {
  remote_command = [];
  args = [];
  submit_as_hold = false;
  rerunnable = false;
  job_environment = [];
  working_directory = None;
  job_name = None;
  input_path = None;
  output_path = None;
  error_path = None;
  join_files = false;
  reservation_id = None;
  queue_name = None;
  min_slots = None;
  max_slots = None;
  priority = None;
  start_time = None;
  deadline_time = None;
  resource_limits = [];
  others = [];
}

-- a reservation of which nothing is set
abbrev pub blank_reservation : ReservationTemplate
blank_reservation = record {
  reservation_name = None;
  start_time = None;
  end_time = None;
  duration = None;
  min_slots = None;
  max_slots = None;
  others = [];
}

-- the limit of how many seconds a launch may last
abbrev pub wallclock : ℕ → ResourceLimit
wallclock seconds = record { name = codes "WALLCLOCK_TIME"; value = seconds }
