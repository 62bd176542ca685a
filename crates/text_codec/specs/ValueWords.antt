-- The words of scripts and journals: each value with its one spelling.
use Rattle.std.specs.Prelude.{ℕ, Bool, true, false, List, [], Option, Some, None, codes}
use Rattle.drmaa_types.specs.Said.{state_name, attribute_name}
use Rattle.drmaa_types.specs.declared.states.JobState.{JobState}
use Rattle.drmaa_types.specs.declared.states.SignalKind.{SignalKind}
use Rattle.drmaa_types.specs.declared.states.SignalKind.TheVariants as kind
use Rattle.drmaa_types.specs.declared.states.Note.{Note}
use Rattle.drmaa_types.specs.declared.states.Note.TheVariants as note
use Rattle.drmaa_types.specs.declared.refusals.Which.{Which}
use Rattle.drmaa_types.specs.declared.refusals.Which.TheVariants as which
use Rattle.drmaa_types.specs.declared.refusals.Limit.{Limit}
use Rattle.drmaa_types.specs.declared.refusals.Limit.TheVariants as limit
use Rattle.drmaa_types.specs.declared.refusals.Attribute.{Attribute}
use Rattle.text_codec.specs.declared.states.TheConstants.{STATES, KINDS, NOTES}
use Rattle.text_codec.specs.declared.arguments.TheConstants.{ARGUMENTS, LIMITS}
use Rattle.text_codec.specs.declared.attributes.TheConstants.{ATTRIBUTES}
use Rattle.text_codec.specs.Formats.{Format, one_of}

-- states of jobs, by their names
unfoldable pub state_form : Format JobState
state_form = one_of state_name STATES

-- kinds of signal: our profile
abbrev pub kind_text : SignalKind → List ℕ
kind_text kind.Stop = codes "stop"
kind_text kind.Cont = codes "cont"
kind_text kind.Kill = codes "kill"

unfoldable pub kind_form : Format SignalKind
kind_form = one_of kind_text KINDS

-- notes; the note None is never spelled: our profile
abbrev pub note_text : Note → List ℕ
note_text note.None = []
note_text note.Terminated = codes "terminated"
note_text note.PastDeadline = codes "pastDeadline"
note_text note.PastLimit = codes "pastLimit"
note_text note.ReservationGone = codes "reservationGone"
note_text note.StartFailed = codes "startFailed"
note_text note.ExitUnknown = codes "exitUnknown"
note_text note.SignalFailed = codes "signalFailed"

unfoldable pub note_form : Format Note
note_form = one_of note_text NOTES

-- a note, where it is one
abbrev pub make_note : Option Note → Note
make_note None = note.None
make_note (Some n) = n

abbrev pub note_part : Note → Option Note
note_part note.None = None
note_part note.Terminated = Some note.Terminated
note_part note.PastDeadline = Some note.PastDeadline
note_part note.PastLimit = Some note.PastLimit
note_part note.ReservationGone = Some note.ReservationGone
note_part note.StartFailed = Some note.StartFailed
note_part note.ExitUnknown = Some note.ExitUnknown
note_part note.SignalFailed = Some note.SignalFailed

-- the arguments that a refusal names: our profile
abbrev pub which_text : Which → List ℕ
which_text which.SessionName = codes "sessionName"
which_text which.Job = codes "job"
which_text which.Array = codes "array"
which_text which.Reservation = codes "reservation"
which_text which.Jobs = codes "jobs"
which_text which.Indices = codes "indices"
which_text which.MaxParallel = codes "maxParallel"
which_text which.RemoteCommand = codes "remoteCommand"
which_text which.Args = codes "args"
which_text which.JobEnvironment = codes "jobEnvironment"
which_text which.WorkingDirectory = codes "workingDirectory"
which_text which.JobName = codes "jobName"
which_text which.InputPath = codes "inputPath"
which_text which.OutputPath = codes "outputPath"
which_text which.ErrorPath = codes "errorPath"
which_text which.MinSlots = codes "minSlots"
which_text which.MaxSlots = codes "maxSlots"
which_text which.DeadlineTime = codes "deadlineTime"
which_text which.ResourceLimits = codes "resourceLimits"
which_text which.ReservationName = codes "reservationName"
which_text which.QueueName = codes "queueName"
which_text which.StartTime = codes "startTime"
which_text which.EndTime = codes "endTime"
which_text which.Duration = codes "duration"

unfoldable pub which_form : Format Which
which_form = one_of which_text ARGUMENTS

-- the limits of this profile; the journal's own never stands in an entry: our profile
abbrev pub limit_text : Limit → List ℕ
limit_text limit.Sessions = codes "sessions"
limit_text limit.OpenSessions = codes "openSessions"
limit_text limit.Jobs = codes "jobs"
limit_text limit.Reservations = codes "reservations"
limit_text limit.Callbacks = codes "callbacks"
limit_text limit.WaitList = codes "waitList"
limit_text limit.BulkMembers = codes "bulkMembers"
limit_text limit.TemplateText = codes "templateText"
limit_text limit.KeptText = codes "keptText"
limit_text (limit.Journal size) = codes "journal"

-- the limits that a refusal of a journal may name: all but the journal's own
abbrev pub is_told : Limit → Bool
is_told limit.Sessions = true
is_told limit.OpenSessions = true
is_told limit.Jobs = true
is_told limit.Reservations = true
is_told limit.Callbacks = true
is_told limit.WaitList = true
is_told limit.BulkMembers = true
is_told limit.TemplateText = true
is_told limit.KeptText = true
is_told (limit.Journal size) = false

unfoldable pub limit_form : Format Limit
limit_form = one_of limit_text LIMITS

-- attributes that this profile does not support: our profile
unfoldable pub attribute_form : Format Attribute
attribute_form = one_of attribute_name ATTRIBUTES
