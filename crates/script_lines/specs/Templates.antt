-- What the lines of template blocks make of a template: our profile.
use Rattle.std.specs.Prelude.{ℕ, Bool, true, false, List, [], ◌∷◌, ◌++◌, Option, Some, None, is_some, if◌then◌else◌}
use Rattle.job_template.specs.declared.templates.JobTemplate.{JobTemplate}
use Rattle.job_template.specs.declared.templates.ReservationTemplate.{ReservationTemplate}
use Rattle.drmaa_types.specs.declared.template_parts.Start.{Start}
use Rattle.drmaa_types.specs.declared.template_parts.Start.TheVariants as start
use Rattle.script_lines.specs.declared.draft.Draft.{Draft}
use Rattle.script_lines.specs.declared.fields.Beginning.{Beginning}
use Rattle.script_lines.specs.declared.fields.Beginning.TheVariants.{Now, At}
use Rattle.script_lines.specs.declared.fields.JobField.{JobField}
use Rattle.script_lines.specs.declared.fields.JobField.TheVariants as job
use Rattle.script_lines.specs.declared.fields.ReservationField.{ReservationField}
use Rattle.script_lines.specs.declared.fields.ReservationField.TheVariants as reservation
use Rattle.script_lines.specs.TemplateFields.{job_form, reservation_form}

-- nothing is set; the command is then the empty text
abbrev pub no_fields : Draft
no_fields = record {
  has_command = false;
  template = record {
    remote_command = [];
    args = [];
    submit_as_hold = false;
    rerunnable = false;
    job_environment = [];
    working_directory = None;
    job_name = None;
    input_path = None;
    output_path = None;
    error_path = None;
    join_files = false;
    reservation_id = None;
    queue_name = None;
    min_slots = None;
    max_slots = None;
    priority = None;
    start_time = None;
    deadline_time = None;
    resource_limits = [];
    others = [];
  };
}

-- what a line sets is set already; arg, env, limit and other may stand any number of times
abbrev pub is_set : Draft → JobField → Bool
is_set d (job.Command x) = d.has_command
is_set d (job.Arg x) = false
is_set d job.Hold = d.template.submit_as_hold
is_set d job.Rerunnable = d.template.rerunnable
is_set d (job.Env x) = false
is_set d (job.Directory x) = is_some d.template.working_directory
is_set d (job.Name x) = is_some d.template.job_name
is_set d (job.Input x) = is_some d.template.input_path
is_set d (job.Output x) = is_some d.template.output_path
is_set d (job.Error x) = is_some d.template.error_path
is_set d job.Join = d.template.join_files
is_set d (job.Queue x) = is_some d.template.queue_name
is_set d (job.MinSlots x) = is_some d.template.min_slots
is_set d (job.MaxSlots x) = is_some d.template.max_slots
is_set d (job.Priority x) = is_some d.template.priority
is_set d (job.Start x) = is_some d.template.start_time
is_set d (job.Deadline x) = is_some d.template.deadline_time
is_set d (job.Limit x) = false
is_set d (job.Other x) = false

abbrev pub filled : JobTemplate → JobField → JobTemplate
filled t (job.Command x) = record t { remote_command = x }
filled t (job.Arg x) = record t { args = t.args ++ x ∷ [] }
filled t job.Hold = record t { submit_as_hold = true }
filled t job.Rerunnable = record t { rerunnable = true }
filled t (job.Env x) = record t { job_environment = t.job_environment ++ x ∷ [] }
filled t (job.Directory x) = record t { working_directory = Some x }
filled t (job.Name x) = record t { job_name = Some x }
filled t (job.Input x) = record t { input_path = Some x }
filled t (job.Output x) = record t { output_path = Some x }
filled t (job.Error x) = record t { error_path = Some x }
filled t job.Join = record t { join_files = true }
filled t (job.Queue x) = record t { queue_name = Some x }
filled t (job.MinSlots x) = record t { min_slots = Some x }
filled t (job.MaxSlots x) = record t { max_slots = Some x }
filled t (job.Priority x) = record t { priority = Some x }
filled t (job.Start x) = record t { start_time = Some x.moment }
filled t (job.Deadline x) = record t { deadline_time = Some x.moment }
filled t (job.Limit x) = record t { resource_limits = t.resource_limits ++ x ∷ [] }
filled t (job.Other x) = record t { others = t.others ++ x ∷ [] }

abbrev pub commanded : Draft → JobField → Bool
commanded d (job.Command x) = true
commanded d (job.Arg x) = d.has_command
commanded d job.Hold = d.has_command
commanded d job.Rerunnable = d.has_command
commanded d (job.Env x) = d.has_command
commanded d (job.Directory x) = d.has_command
commanded d (job.Name x) = d.has_command
commanded d (job.Input x) = d.has_command
commanded d (job.Output x) = d.has_command
commanded d (job.Error x) = d.has_command
commanded d job.Join = d.has_command
commanded d (job.Queue x) = d.has_command
commanded d (job.MinSlots x) = d.has_command
commanded d (job.MaxSlots x) = d.has_command
commanded d (job.Priority x) = d.has_command
commanded d (job.Start x) = d.has_command
commanded d (job.Deadline x) = d.has_command
commanded d (job.Limit x) = d.has_command
commanded d (job.Other x) = d.has_command

abbrev pub with_field : Draft → JobField → Draft
with_field d f = record { has_command = commanded d f; template = filled d.template f }

-- what lines make of a template, none of which sets what was set
abbrev pub made : Draft → List JobField → Option Draft
made d [] = Some d
made d (f ∷ fs) = if is_set d f then None else made (with_field d f) fs

-- each value is in its range
abbrev pub IsJobField : JobField → Type 0
IsJobField f = (job_form f).valid

abbrev pub job_text : JobField → List ℕ
job_text f = (job_form f).text

-- the same of reservations' templates
abbrev pub no_reservation_fields : ReservationTemplate
no_reservation_fields = record { reservation_name = None; start_time = None; end_time = None; duration = None; min_slots = None; max_slots = None; others = [] }

abbrev pub is_reservation_set : ReservationTemplate → ReservationField → Bool
is_reservation_set t (reservation.Name x) = is_some t.reservation_name
is_reservation_set t (reservation.Start x) = is_some t.start_time
is_reservation_set t (reservation.End x) = is_some t.end_time
is_reservation_set t (reservation.Duration x) = is_some t.duration
is_reservation_set t (reservation.MinSlots x) = is_some t.min_slots
is_reservation_set t (reservation.MaxSlots x) = is_some t.max_slots
is_reservation_set t (reservation.Other x) = false

abbrev pub start_of : Beginning → Start
start_of Now = start.Now
start_of (At said) = start.At said.moment

abbrev pub with_reservation_field : ReservationTemplate → ReservationField → ReservationTemplate
with_reservation_field t (reservation.Name x) = record t { reservation_name = Some x }
with_reservation_field t (reservation.Start x) = record t { start_time = Some (start_of x) }
with_reservation_field t (reservation.End x) = record t { end_time = Some x.moment }
with_reservation_field t (reservation.Duration x) = record t { duration = Some x }
with_reservation_field t (reservation.MinSlots x) = record t { min_slots = Some x }
with_reservation_field t (reservation.MaxSlots x) = record t { max_slots = Some x }
with_reservation_field t (reservation.Other x) = record t { others = t.others ++ x ∷ [] }

abbrev pub booked : ReservationTemplate → List ReservationField → Option ReservationTemplate
booked t [] = Some t
booked t (f ∷ fs) = if is_reservation_set t f then None else booked (with_reservation_field t f) fs

abbrev pub IsReservationField : ReservationField → Type 0
IsReservationField f = (reservation_form f).valid

abbrev pub reservation_text : ReservationField → List ℕ
reservation_text f = (reservation_form f).text
