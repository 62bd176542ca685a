-- Templates in braces: each field that is set stands behind its word, in one order. Our profile.
use Rattle.std.specs.Prelude.{ℕ, ◌^◌, ℤ, Bool, true, false, List, Option, codes}
use Rattle.std.specs.List.{list_all}
use Rattle.drmaa_types.specs.declared.identifiers.ReservationId.{ReservationId}
use Rattle.drmaa_types.specs.declared.refusals.Attribute.{Attribute}
use Rattle.drmaa_types.specs.declared.refusals.Attribute.TheVariants as attribute
use Rattle.job_template.specs.declared.templates.JobTemplate.{JobTemplate}
use Rattle.job_template.specs.declared.templates.ReservationTemplate.{ReservationTemplate}
use Rattle.drmaa_types.specs.declared.template_parts.Pair.{Pair}
use Rattle.drmaa_types.specs.declared.template_parts.ResourceLimit.{ResourceLimit}
use Rattle.drmaa_types.specs.declared.template_parts.Start.{Start}
use Rattle.text_codec.specs.Formats.{Format, number, moment, mapped, checked}
use Rattle.text_codec.specs.Fields.{Fields, field, flag, repeated, no_more, in_braces}
use Rattle.text_codec.specs.Braces.{braces}
use Rattle.text_codec.specs.Integers.{integer}
use Rattle.text_codec.specs.Quotes.{text}
use Rattle.text_codec.specs.Numbers.{reservation_id}
use Rattle.text_codec.specs.ValueWords.{attribute_form}
use Rattle.text_codec.specs.TemplateParts.{variable, resource_limit, start}

-- the attributes that a template has under `other`: all but queueName and the limits
abbrev pub is_other : Attribute → Bool
is_other attribute.QueueName = false
is_other attribute.JobCategory = true
is_other attribute.Email = true
is_other attribute.EmailOnStarted = true
is_other attribute.EmailOnTerminated = true
is_other attribute.CandidateMachines = true
is_other attribute.MinPhysMemory = true
is_other attribute.MachineOs = true
is_other attribute.MachineArch = true
is_other attribute.StageInFiles = true
is_other attribute.StageOutFiles = true
is_other attribute.AccountingId = true
is_other attribute.UsersAcl = true
is_other attribute.CoreFileSize = false
is_other attribute.CpuTime = false
is_other attribute.DataSize = false
is_other attribute.FileSize = false
is_other attribute.OpenFiles = false
is_other attribute.StackSize = false
is_other attribute.VirtualMemory = false

unfoldable pub other_form : Format Attribute
other_form = checked is_other attribute_form

-- the fields of a job's template, in groups, the last one first
abbrev pub Late : Type 0
Late = Option ℤ × (Option ℕ × (Option ℕ × (List ResourceLimit × (List Attribute × Unit {0}))))

unfoldable pub late_fields : Fields Late
late_fields =
    field (codes " priority ") (integer (2 ^ 31)) (
    field (codes " start ") moment (
    field (codes " deadline ") moment (
    repeated (codes " limit ") resource_limit (
    repeated (codes " other ") attribute_form no_more))))

abbrev pub Placed : Type 0
Placed = Bool × (Option ReservationId × (Option (List ℕ) × (Option ℕ × (Option ℕ × Late))))

unfoldable pub placed_fields : Fields Placed
placed_fields =
    flag (codes " join") (
    field (codes " reservation ") reservation_id (
    field (codes " queue ") text (
    field (codes " minslots ") (number (2 ^ 32)) (
    field (codes " maxslots ") (number (2 ^ 32)) late_fields))))

abbrev pub Paths : Type 0
Paths = Option (List ℕ) × (Option (List ℕ) × (Option (List ℕ) × (Option (List ℕ) × (Option (List ℕ) × Placed))))

unfoldable pub path_fields : Fields Paths
path_fields =
    field (codes " directory ") text (
    field (codes " name ") text (
    field (codes " input ") text (
    field (codes " output ") text (
    field (codes " error ") text placed_fields))))

abbrev pub Early : Type 0
Early = List (List ℕ) × (Bool × (Bool × (List Pair × Paths)))

unfoldable pub early_fields : Fields Early
early_fields =
    repeated (codes " arg ") text (
    flag (codes " hold") (
    flag (codes " rerunnable") (
    repeated (codes " env ") variable path_fields)))

unfoldable pub late_parts : JobTemplate → Late
late_parts t = (t.priority, (t.start_time, (t.deadline_time, (t.resource_limits, (t.others, tt)))))

unfoldable pub placed_parts : JobTemplate → Placed
placed_parts t = (t.join_files, (t.reservation_id, (t.queue_name, (t.min_slots, (t.max_slots, late_parts t)))))

unfoldable pub path_parts : JobTemplate → Paths
path_parts t = (t.working_directory, (t.job_name, (t.input_path, (t.output_path, (t.error_path, placed_parts t)))))

unfoldable pub early_parts : JobTemplate → Early
early_parts t = (t.args, (t.submit_as_hold, (t.rerunnable, (t.job_environment, path_parts t))))

abbrev pub make_template : List ℕ × Early → JobTemplate
make_template p =
    let paths = p.1.1.1.1.1 in
    let placed = paths.1.1.1.1.1 in
    let late = placed.1.1.1.1.1 in
    record {
      remote_command = p.0;
      args = p.1.0;
      submit_as_hold = p.1.1.0;
      rerunnable = p.1.1.1.0;
      job_environment = p.1.1.1.1.0;
      working_directory = paths.0;
      job_name = paths.1.0;
      input_path = paths.1.1.0;
      output_path = paths.1.1.1.0;
      error_path = paths.1.1.1.1.0;
      join_files = placed.0;
      reservation_id = placed.1.0;
      queue_name = placed.1.1.0;
      min_slots = placed.1.1.1.0;
      max_slots = placed.1.1.1.1.0;
      priority = late.0;
      start_time = late.1.0;
      deadline_time = late.1.1.0;
      resource_limits = late.1.1.1.0;
      others = late.1.1.1.1.0;
    }

-- a job's template with any attributes, and one that scripts and journals have
unfoldable pub any_template : Format JobTemplate
any_template = mapped make_template (λ t. (t.remote_command, early_parts t)) (in_braces (codes "command ") text early_fields)

unfoldable pub template : Format JobTemplate
template = checked (λ t. list_all is_other t.others) any_template

-- the fields of a reservation's template, in two groups, the last one first
abbrev pub Counts : Type 0
Counts = Option ℕ × (Option ℕ × (List Attribute × Unit {0}))

unfoldable pub count_fields : Fields Counts
count_fields =
    field (codes " minslots ") (number (2 ^ 32)) (
    field (codes " maxslots ") (number (2 ^ 32)) (
    repeated (codes " other ") attribute_form no_more))

abbrev pub Frames : Type 0
Frames = Option (List ℕ) × (Option Start × (Option ℕ × (Option ℕ × Counts)))

unfoldable pub frame_fields : Fields Frames
frame_fields =
    field (codes " name ") text (
    field (codes " start ") start (
    field (codes " end ") moment (
    field (codes " duration ") (number (2 ^ 64)) count_fields)))

abbrev pub count_parts : ReservationTemplate → Counts
count_parts t = (t.min_slots, (t.max_slots, (t.others, tt)))

abbrev pub frame_parts : ReservationTemplate → Frames
frame_parts t = (t.reservation_name, (t.start_time, (t.end_time, (t.duration, count_parts t))))

abbrev pub make_frame : Frames → ReservationTemplate
make_frame p = record {
  reservation_name = p.0;
  start_time = p.1.0;
  end_time = p.1.1.0;
  duration = p.1.1.1.0;
  min_slots = p.1.1.1.1.0;
  max_slots = p.1.1.1.1.1.0;
  others = p.1.1.1.1.1.1.0;
}

-- the same two of a reservation's template
unfoldable pub any_frame : Format ReservationTemplate
any_frame = mapped make_frame frame_parts (braces frame_fields)

unfoldable pub frame : Format ReservationTemplate
frame = checked (λ t. list_all is_other t.others) any_frame
