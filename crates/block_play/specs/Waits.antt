-- Lines that wait, and how a wait stops a client: our profile.
use Rattle.std.specs.Prelude.{List, Option, Some, None}
use Rattle.drmaa_types.specs.declared.moments.Timeout.{Timeout}
use Rattle.drmaa_types.specs.declared.refusals.Limit.{Limit}
use Rattle.drmaa_types.specs.declared.refusals.Limit.TheVariants as limit
use Rattle.drmaa_types.specs.declared.refusals.Refusal.{Refusal}
use Rattle.drmaa_types.specs.declared.refusals.Refusal.TheVariants as why
use Rattle.drmaa_types.specs.declared.states.WaitKind.{WaitKind}
use Rattle.drmaa_types.specs.declared.states.WaitKind.TheVariants as reached
use Rattle.script_lines.specs.declared.lines.Line.{Line}
use Rattle.script_lines.specs.declared.lines.Line.TheVariants as line
use Rattle.script_lines.specs.declared.refs.Ref.{Ref}
use Rattle.block_play.specs.declared.stops.Stopped.{Stopped}
use Rattle.block_play.specs.declared.stops.Stopped.TheVariants as stopped

-- the line that waits so
abbrev pub wait_line : WaitKind → Ref → Timeout → List Ref → Line
wait_line reached.Started session timeout jobs = line.WaitStarted session timeout jobs
wait_line reached.Terminated session timeout jobs = line.WaitTerminated session timeout jobs

abbrev pub limit_stop : Limit → Option Stopped
limit_stop limit.Sessions = None
limit_stop limit.OpenSessions = None
limit_stop limit.Jobs = None
limit_stop limit.Reservations = None
limit_stop limit.Callbacks = None
limit_stop limit.WaitList = None
limit_stop limit.BulkMembers = None
limit_stop limit.TemplateText = None
limit_stop limit.KeptText = None
limit_stop (limit.Journal size) = Some (stopped.Full size)

-- why a client stops where its wait was refused so: with no entry, for want of memory or the journal's size
abbrev pub stop_of : Refusal → Option Stopped
stop_of (why.DeniedByDrms moment) = None
stop_of (why.TryLater served drawn) = None
stop_of why.Timeout = None
stop_of (why.InvalidArgument which) = None
stop_of why.InvalidSession = None
stop_of (why.InvalidState state) = None
stop_of (why.OutOfResource limit) = limit_stop limit
stop_of why.OutOfMemory = Some stopped.Memory
stop_of (why.UnsupportedAttribute attribute) = None
stop_of why.UnsupportedOperation = None
