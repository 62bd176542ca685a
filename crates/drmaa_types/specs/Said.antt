-- What is said to a person of a refusal and of a job's state: the states' names are those of GFD.231, section 8.1, the attributes'
-- those of its section 8.2 and of its limits; the sentences and the numbers are our profile.
use Rattle.std.specs.Prelude.{ℕ, List, ◌++◌, codes, decimal, Option, Some, None}
use Rattle.drmaa_types.specs.declared.refusals.Refusal.{Refusal}
use Rattle.drmaa_types.specs.declared.refusals.Refusal.TheVariants as refusal
use Rattle.drmaa_types.specs.declared.refusals.Which.{Which}
use Rattle.drmaa_types.specs.declared.refusals.Which.TheVariants as which
use Rattle.drmaa_types.specs.declared.refusals.Limit.{Limit}
use Rattle.drmaa_types.specs.declared.refusals.Limit.TheVariants as limit
use Rattle.drmaa_types.specs.declared.refusals.Attribute.{Attribute}
use Rattle.drmaa_types.specs.declared.refusals.Attribute.TheVariants as attribute
use Rattle.drmaa_types.specs.declared.states.JobState.{JobState}
use Rattle.drmaa_types.specs.declared.states.JobState.TheVariants as state

-- the name of a state
abbrev pub state_name : JobState → List ℕ
state_name state.Undetermined = codes "UNDETERMINED"
state_name state.Queued = codes "QUEUED"
state_name state.QueuedHeld = codes "QUEUED_HELD"
state_name state.Running = codes "RUNNING"
state_name state.Suspended = codes "SUSPENDED"
state_name state.Requeued = codes "REQUEUED"
state_name state.RequeuedHeld = codes "REQUEUED_HELD"
state_name state.Done = codes "DONE"
state_name state.Failed = codes "FAILED"

-- what is wrong with an argument
abbrev pub wrong_argument : Which → List ℕ
wrong_argument which.SessionName = codes "the session's name is not in form, taken, or that of no session"
wrong_argument which.Job = codes "there is no such job"
wrong_argument which.Array = codes "there is no such array of jobs"
wrong_argument which.Reservation = codes "there is no such reservation"
wrong_argument which.Jobs = codes "no job is listed"
wrong_argument which.Indices = codes "the indices of the array are not in form"
wrong_argument which.MaxParallel = codes "no member of the array may run"
wrong_argument which.RemoteCommand = codes "the command is not in form"
wrong_argument which.Args = codes "an argument is not in form"
wrong_argument which.JobEnvironment = codes "the environment is not in form"
wrong_argument which.WorkingDirectory = codes "the working directory is not in form"
wrong_argument which.JobName = codes "the job's name is not in form"
wrong_argument which.InputPath = codes "the input's path is not in form"
wrong_argument which.OutputPath = codes "the output's path is not in form"
wrong_argument which.ErrorPath = codes "the errors' path is not in form"
wrong_argument which.MinSlots = codes "the least number of slots is 0, or more than there can be"
wrong_argument which.MaxSlots = codes "the greatest number of slots is below the least"
wrong_argument which.DeadlineTime = codes "the deadline is not after now, or not after the start"
wrong_argument which.ResourceLimits = codes "a limit is 0, unknown or set twice"
wrong_argument which.ReservationName = codes "the reservation's name is not in form"
wrong_argument which.QueueName = codes "there is no such queue"
wrong_argument which.StartTime = codes "the start is missing, or would be before now"
wrong_argument which.EndTime = codes "the end is not after the start"
wrong_argument which.Duration = codes "the duration is missing, 0 or too long"

-- a limit that is reached
abbrev pub limit_reached : Limit → List ℕ
limit_reached limit.Sessions = codes "there are too many sessions"
limit_reached limit.OpenSessions = codes "too many sessions are open"
limit_reached limit.Jobs = codes "too many jobs would be kept"
limit_reached limit.Reservations = codes "there are too many reservations"
limit_reached limit.Callbacks = codes "too many callbacks are registered"
limit_reached limit.WaitList = codes "too many jobs are listed"
limit_reached limit.BulkMembers = codes "the array has too many members"
limit_reached limit.TemplateText = codes "the template has too much text"
limit_reached limit.KeptText = codes "the templates of all kept jobs would have too much text"
limit_reached (limit.Journal size) = codes "the journal would have the size " ++ decimal size

-- the name of an attribute
abbrev pub attribute_name : Attribute → List ℕ
attribute_name attribute.QueueName = codes "queueName"
attribute_name attribute.JobCategory = codes "jobCategory"
attribute_name attribute.Email = codes "email"
attribute_name attribute.EmailOnStarted = codes "emailOnStarted"
attribute_name attribute.EmailOnTerminated = codes "emailOnTerminated"
attribute_name attribute.CandidateMachines = codes "candidateMachines"
attribute_name attribute.MinPhysMemory = codes "minPhysMemory"
attribute_name attribute.MachineOs = codes "machineOS"
attribute_name attribute.MachineArch = codes "machineArch"
attribute_name attribute.StageInFiles = codes "stageInFiles"
attribute_name attribute.StageOutFiles = codes "stageOutFiles"
attribute_name attribute.AccountingId = codes "accountingId"
attribute_name attribute.UsersAcl = codes "usersACL"
attribute_name attribute.CoreFileSize = codes "CORE_FILE_SIZE"
attribute_name attribute.CpuTime = codes "CPU_TIME"
attribute_name attribute.DataSize = codes "DATA_SIZE"
attribute_name attribute.FileSize = codes "FILE_SIZE"
attribute_name attribute.OpenFiles = codes "OPEN_FILES"
attribute_name attribute.StackSize = codes "STACK_SIZE"
attribute_name attribute.VirtualMemory = codes "VIRTUAL_MEMORY"

-- the number of a refusal
abbrev pub refusal_number : Refusal → ℕ
refusal_number (refusal.DeniedByDrms moment) = 1
refusal_number (refusal.TryLater served drawn) = 2
refusal_number refusal.Timeout = 3
refusal_number (refusal.InvalidArgument w) = 4
refusal_number refusal.InvalidSession = 5
refusal_number (refusal.InvalidState s) = 6
refusal_number (refusal.OutOfResource l) = 7
refusal_number refusal.OutOfMemory = 8
refusal_number (refusal.UnsupportedAttribute a) = 9
refusal_number refusal.UnsupportedOperation = 10

-- where a reservation does not fit
abbrev pub denied_at : Option ℕ → List ℕ
denied_at None = codes "the reservation does not fit"
denied_at (Some moment) = codes "the reservation does not fit at moment " ++ decimal moment

-- why a call was refused
abbrev pub reason : Refusal → List ℕ
reason (refusal.DeniedByDrms moment) = denied_at moment
reason (refusal.TryLater served drawn) = codes "another client has the turn"
reason refusal.Timeout = codes "the wait's time is over"
reason (refusal.InvalidArgument w) = wrong_argument w
reason refusal.InvalidSession = codes "there is no such open session"
reason (refusal.InvalidState s) = codes "the job, in state " ++ state_name s ++ codes ", does not permit it"
reason (refusal.OutOfResource l) = limit_reached l
reason refusal.OutOfMemory = codes "out of memory"
reason (refusal.UnsupportedAttribute a) = codes "the attribute " ++ attribute_name a ++ codes " is not supported"
reason refusal.UnsupportedOperation = codes "the operation is not supported"

-- what is said of a refusal: why, and its number
abbrev pub refusal_text : Refusal → List ℕ
refusal_text r = reason r ++ codes " (refusal " ++ decimal (refusal_number r) ++ codes ")"
