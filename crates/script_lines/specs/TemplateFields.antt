-- How the lines of template blocks are spelled: our profile.
use Rattle.std.specs.Prelude.{ℕ, ◌^◌, ℤ, List, [], Option, Some, None, codes}
use Rattle.drmaa_types.specs.declared.refusals.Attribute.{Attribute}
use Rattle.drmaa_types.specs.declared.template_parts.Pair.{Pair}
use Rattle.drmaa_types.specs.declared.template_parts.ResourceLimit.{ResourceLimit}
use Rattle.text_codec.specs.Formats.{Format, number, mapped, or_else}
use Rattle.text_codec.specs.Formats as form
use Rattle.text_codec.specs.Fields.{Fields, always, no_more}
use Rattle.text_codec.specs.Integers.{integer}
use Rattle.text_codec.specs.Sums.{Spelled, alone, fielded, arm_alone, arm_fields, sum_of}
use Rattle.text_dates.specs.declared.said.Said.{Said}
use Rattle.text_dates.specs.Said.{said}
use Rattle.text_codec.specs.TemplateParts.{variable, resource_limit}
use Rattle.text_forms.specs.Templates.{other_form}
use Rattle.script_lines.specs.declared.fields.Beginning.{Beginning}
use Rattle.script_lines.specs.declared.fields.Beginning.TheVariants.{Now, At}
use Rattle.script_lines.specs.declared.fields.JobField.{JobField}
use Rattle.script_lines.specs.declared.fields.JobField.TheVariants as job
use Rattle.script_lines.specs.declared.fields.JobFieldWord.{JobFieldWord}
use Rattle.script_lines.specs.declared.fields.JobFieldWord.TheVariants as of
use Rattle.script_lines.specs.declared.fields.ReservationField.{ReservationField}
use Rattle.script_lines.specs.declared.fields.ReservationField.TheVariants as reservation
use Rattle.script_lines.specs.declared.fields.ReservationFieldWord.{ReservationFieldWord}
use Rattle.script_lines.specs.declared.fields.ReservationFieldWord.TheVariants as by
use Rattle.script_lines.specs.declared.fields.TheConstants.{JOB_FIELD_WORDS, RESERVATION_FIELD_WORDS}
use Rattle.script_lines.specs.Shapes.{text_fields, said_fields}

-- one item each
unfoldable pub variable_fields : Fields (Pair × Unit {0})
variable_fields = always (codes " ") variable no_more

unfoldable pub count_fields : Fields (ℕ × Unit {0})
count_fields = always (codes " ") (number (2 ^ 32)) no_more

unfoldable pub duration_fields : Fields (ℕ × Unit {0})
duration_fields = always (codes " ") (number (2 ^ 64)) no_more

unfoldable pub integer_fields : Fields (ℤ × Unit {0})
integer_fields = always (codes " ") (integer (2 ^ 31)) no_more

unfoldable pub limit_fields : Fields (ResourceLimit × Unit {0})
limit_fields = always (codes " ") resource_limit no_more

unfoldable pub other_fields : Fields (Attribute × Unit {0})
other_fields = always (codes " ") other_form no_more

-- when a reservation is to start
abbrev pub make_beginning : Option Said → Beginning
make_beginning None = Now
make_beginning (Some m) = At m

abbrev pub beginning_part : Beginning → Option Said
beginning_part Now = None
beginning_part (At m) = Some m

unfoldable pub beginning : Format Beginning
beginning = mapped make_beginning beginning_part (or_else (codes "now") said)

unfoldable pub beginning_fields : Fields (Beginning × Unit {0})
beginning_fields = always (codes " ") beginning no_more

-- the lines of a job's template block
abbrev pub job_word : JobFieldWord → List ℕ
job_word of.Command = codes "command"
job_word of.Arg = codes "arg"
job_word of.Hold = codes "hold"
job_word of.Rerunnable = codes "rerunnable"
job_word of.Env = codes "env"
job_word of.Directory = codes "directory"
job_word of.Name = codes "name"
job_word of.Input = codes "input"
job_word of.Output = codes "output"
job_word of.Error = codes "error"
job_word of.Join = codes "join"
job_word of.Queue = codes "queue"
job_word of.MinSlots = codes "minslots"
job_word of.MaxSlots = codes "maxslots"
job_word of.Priority = codes "priority"
job_word of.Start = codes "start"
job_word of.Deadline = codes "deadline"
job_word of.Limit = codes "limit"
job_word of.Other = codes "other"

abbrev pub job_form : JobField → Spelled
job_form (job.Command x) = fielded (job_word of.Command) text_fields (x, tt)
job_form (job.Arg x) = fielded (job_word of.Arg) text_fields (x, tt)
job_form job.Hold = alone (job_word of.Hold)
job_form job.Rerunnable = alone (job_word of.Rerunnable)
job_form (job.Env x) = fielded (job_word of.Env) variable_fields (x, tt)
job_form (job.Directory x) = fielded (job_word of.Directory) text_fields (x, tt)
job_form (job.Name x) = fielded (job_word of.Name) text_fields (x, tt)
job_form (job.Input x) = fielded (job_word of.Input) text_fields (x, tt)
job_form (job.Output x) = fielded (job_word of.Output) text_fields (x, tt)
job_form (job.Error x) = fielded (job_word of.Error) text_fields (x, tt)
job_form job.Join = alone (job_word of.Join)
job_form (job.Queue x) = fielded (job_word of.Queue) text_fields (x, tt)
job_form (job.MinSlots x) = fielded (job_word of.MinSlots) count_fields (x, tt)
job_form (job.MaxSlots x) = fielded (job_word of.MaxSlots) count_fields (x, tt)
job_form (job.Priority x) = fielded (job_word of.Priority) integer_fields (x, tt)
job_form (job.Start x) = fielded (job_word of.Start) said_fields (x, tt)
job_form (job.Deadline x) = fielded (job_word of.Deadline) said_fields (x, tt)
job_form (job.Limit x) = fielded (job_word of.Limit) limit_fields (x, tt)
job_form (job.Other x) = fielded (job_word of.Other) other_fields (x, tt)

abbrev pub job_arms : JobFieldWord → List ℕ → Option (JobField × List ℕ)
job_arms of.Command = arm_fields text_fields (λ p. job.Command p.0)
job_arms of.Arg = arm_fields text_fields (λ p. job.Arg p.0)
job_arms of.Hold = arm_alone job.Hold
job_arms of.Rerunnable = arm_alone job.Rerunnable
job_arms of.Env = arm_fields variable_fields (λ p. job.Env p.0)
job_arms of.Directory = arm_fields text_fields (λ p. job.Directory p.0)
job_arms of.Name = arm_fields text_fields (λ p. job.Name p.0)
job_arms of.Input = arm_fields text_fields (λ p. job.Input p.0)
job_arms of.Output = arm_fields text_fields (λ p. job.Output p.0)
job_arms of.Error = arm_fields text_fields (λ p. job.Error p.0)
job_arms of.Join = arm_alone job.Join
job_arms of.Queue = arm_fields text_fields (λ p. job.Queue p.0)
job_arms of.MinSlots = arm_fields count_fields (λ p. job.MinSlots p.0)
job_arms of.MaxSlots = arm_fields count_fields (λ p. job.MaxSlots p.0)
job_arms of.Priority = arm_fields integer_fields (λ p. job.Priority p.0)
job_arms of.Start = arm_fields said_fields (λ p. job.Start p.0)
job_arms of.Deadline = arm_fields said_fields (λ p. job.Deadline p.0)
job_arms of.Limit = arm_fields limit_fields (λ p. job.Limit p.0)
job_arms of.Other = arm_fields other_fields (λ p. job.Other p.0)

unfoldable pub job_field_sum : Fields JobField
job_field_sum = sum_of job_word JOB_FIELD_WORDS job_arms job_form []

unfoldable pub read_job_field : List ℕ → Option JobField
read_job_field l = form.read_line job_field_sum.body l

-- the lines of a reservation's template block
abbrev pub reservation_word : ReservationFieldWord → List ℕ
reservation_word by.Name = codes "name"
reservation_word by.Start = codes "start"
reservation_word by.End = codes "end"
reservation_word by.Duration = codes "duration"
reservation_word by.MinSlots = codes "minslots"
reservation_word by.MaxSlots = codes "maxslots"
reservation_word by.Other = codes "other"

abbrev pub reservation_form : ReservationField → Spelled
reservation_form (reservation.Name x) = fielded (reservation_word by.Name) text_fields (x, tt)
reservation_form (reservation.Start x) = fielded (reservation_word by.Start) beginning_fields (x, tt)
reservation_form (reservation.End x) = fielded (reservation_word by.End) said_fields (x, tt)
reservation_form (reservation.Duration x) = fielded (reservation_word by.Duration) duration_fields (x, tt)
reservation_form (reservation.MinSlots x) = fielded (reservation_word by.MinSlots) count_fields (x, tt)
reservation_form (reservation.MaxSlots x) = fielded (reservation_word by.MaxSlots) count_fields (x, tt)
reservation_form (reservation.Other x) = fielded (reservation_word by.Other) other_fields (x, tt)

abbrev pub reservation_arms : ReservationFieldWord → List ℕ → Option (ReservationField × List ℕ)
reservation_arms by.Name = arm_fields text_fields (λ p. reservation.Name p.0)
reservation_arms by.Start = arm_fields beginning_fields (λ p. reservation.Start p.0)
reservation_arms by.End = arm_fields said_fields (λ p. reservation.End p.0)
reservation_arms by.Duration = arm_fields duration_fields (λ p. reservation.Duration p.0)
reservation_arms by.MinSlots = arm_fields count_fields (λ p. reservation.MinSlots p.0)
reservation_arms by.MaxSlots = arm_fields count_fields (λ p. reservation.MaxSlots p.0)
reservation_arms by.Other = arm_fields other_fields (λ p. reservation.Other p.0)

unfoldable pub reservation_field_sum : Fields ReservationField
reservation_field_sum = sum_of reservation_word RESERVATION_FIELD_WORDS reservation_arms reservation_form []

unfoldable pub read_reservation_field : List ℕ → Option ReservationField
read_reservation_field l = form.read_line reservation_field_sum.body l
