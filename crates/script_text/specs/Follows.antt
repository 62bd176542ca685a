-- Which line may stand behind earlier ones: our profile.
use Rattle.std.specs.Prelude.{◌&&◌, ◌||◌, not, Bool, true, false, List, [], Option, Some, None}
use Rattle.std.specs.List.{list_all}
use Rattle.drmaa_types.specs.declared.moments.Timeout.{Timeout}
use Rattle.drmaa_types.specs.declared.moments.Timeout.TheVariants.{Seconds, Infinite}
use Rattle.script_lines.specs.declared.lines.Line.{Line}
use Rattle.script_lines.specs.declared.lines.Line.TheVariants as line
use Rattle.script_text.specs.declared.scripts.Mode.{Mode}
use Rattle.script_text.specs.declared.scripts.Mode.TheVariants as mode
use Rattle.script_text.specs.declared.scripts.Script.{Script}
use Rattle.script_text.specs.Names.{is_free, is_session, is_job, is_array, is_reservation, if_some, is_there}

-- the lines of the setup block, if there is one
abbrev pub lines_of : Option (List Line) → List Line
lines_of None = []
lines_of (Some lines) = lines

-- what the line names is there by then
abbrev pub refers : Script → List Line → Line → Bool
refers s earlier (line.CreateJobs name session) = true
refers s earlier (line.CreateReservations name session) = true
refers s earlier (line.OpenJobs name session) = true
refers s earlier (line.OpenReservations name session) = true
refers s earlier (line.DestroyJobs session) = true
refers s earlier (line.DestroyReservations session) = true
refers s earlier line.NamesJobs = true
refers s earlier line.NamesReservations = true
refers s earlier (line.Monitor name) = true
refers s earlier (line.Close session) = is_session earlier session
refers s earlier (line.Run name session template reserved) = is_session earlier session && is_there s.jobs template && if_some (is_reservation earlier) reserved
refers s earlier (line.Bulk name session template begin end step bound reserved) = is_session earlier session && is_there s.jobs template && if_some (is_reservation earlier) reserved
refers s earlier (line.Jobs session filter) = is_session earlier session && if_some (is_job earlier) filter.job
refers s earlier (line.Array session array) = is_session earlier session && is_array earlier array
refers s earlier (line.Suspend session job) = is_session earlier session && is_job earlier job
refers s earlier (line.Resume session job) = is_session earlier session && is_job earlier job
refers s earlier (line.Hold session job) = is_session earlier session && is_job earlier job
refers s earlier (line.Release session job) = is_session earlier session && is_job earlier job
refers s earlier (line.Terminate session job) = is_session earlier session && is_job earlier job
refers s earlier (line.SuspendArray session array) = is_session earlier session && is_array earlier array
refers s earlier (line.ResumeArray session array) = is_session earlier session && is_array earlier array
refers s earlier (line.HoldArray session array) = is_session earlier session && is_array earlier array
refers s earlier (line.ReleaseArray session array) = is_session earlier session && is_array earlier array
refers s earlier (line.TerminateArray session array) = is_session earlier session && is_array earlier array
refers s earlier (line.Reap session job) = is_session earlier session && is_job earlier job
refers s earlier (line.ReapArray session array) = is_session earlier session && is_array earlier array
refers s earlier (line.State session job) = is_session earlier session && is_job earlier job
refers s earlier (line.Info session job) = is_session earlier session && is_job earlier job
refers s earlier (line.WaitStarted session timeout jobs) = is_session earlier session && list_all (is_job earlier) jobs
refers s earlier (line.WaitTerminated session timeout jobs) = is_session earlier session && list_all (is_job earlier) jobs
refers s earlier (line.Reserve name session template) = is_session earlier session && is_there s.reservations template
refers s earlier (line.Reservation session reservation) = is_session earlier session && is_reservation earlier reservation
refers s earlier (line.Reservations session) = is_session earlier session
refers s earlier (line.Cancel session reservation) = is_session earlier session && is_reservation earlier reservation
refers s earlier (line.AllJobs session filter) = is_session earlier session && if_some (is_job earlier) filter.job
refers s earlier (line.AllReservations session) = is_session earlier session
refers s earlier (line.Queues session) = is_session earlier session
refers s earlier (line.Machines session) = is_session earlier session
refers s earlier line.Register = true
refers s earlier (line.At moment) = true
refers s earlier line.Launch = true
refers s earlier (line.Started job) = is_job earlier job
refers s earlier (line.StartFailed job) = is_job earlier job
refers s earlier (line.Exit job code) = is_job earlier job
refers s earlier (line.ExitSignal job signal) = is_job earlier job
refers s earlier (line.ExitUnknown job) = is_job earlier job
refers s earlier line.Signal = true
refers s earlier (line.SignalDone job kind) = is_job earlier job
refers s earlier (line.SignalFailed job kind) = is_job earlier job

-- a line may follow earlier ones: it binds a new name, and names what is there
abbrev pub may_follow : Script → List Line → Line → Bool
may_follow s earlier l = is_free earlier l && refers s earlier l

abbrev pub is_wait : Line → Bool
is_wait (line.CreateJobs name session) = false
is_wait (line.CreateReservations name session) = false
is_wait (line.OpenJobs name session) = false
is_wait (line.OpenReservations name session) = false
is_wait (line.DestroyJobs session) = false
is_wait (line.DestroyReservations session) = false
is_wait line.NamesJobs = false
is_wait line.NamesReservations = false
is_wait (line.Monitor name) = false
is_wait (line.Close session) = false
is_wait (line.Run name session template reserved) = false
is_wait (line.Bulk name session template begin end step bound reserved) = false
is_wait (line.Jobs session filter) = false
is_wait (line.Array session array) = false
is_wait (line.Suspend session job) = false
is_wait (line.Resume session job) = false
is_wait (line.Hold session job) = false
is_wait (line.Release session job) = false
is_wait (line.Terminate session job) = false
is_wait (line.SuspendArray session array) = false
is_wait (line.ResumeArray session array) = false
is_wait (line.HoldArray session array) = false
is_wait (line.ReleaseArray session array) = false
is_wait (line.TerminateArray session array) = false
is_wait (line.Reap session job) = false
is_wait (line.ReapArray session array) = false
is_wait (line.State session job) = false
is_wait (line.Info session job) = false
is_wait (line.WaitStarted session timeout jobs) = true
is_wait (line.WaitTerminated session timeout jobs) = true
is_wait (line.Reserve name session template) = false
is_wait (line.Reservation session reservation) = false
is_wait (line.Reservations session) = false
is_wait (line.Cancel session reservation) = false
is_wait (line.AllJobs session filter) = false
is_wait (line.AllReservations session) = false
is_wait (line.Queues session) = false
is_wait (line.Machines session) = false
is_wait line.Register = false
is_wait (line.At moment) = false
is_wait line.Launch = false
is_wait (line.Started job) = false
is_wait (line.StartFailed job) = false
is_wait (line.Exit job code) = false
is_wait (line.ExitSignal job signal) = false
is_wait (line.ExitUnknown job) = false
is_wait line.Signal = false
is_wait (line.SignalDone job kind) = false
is_wait (line.SignalFailed job kind) = false

abbrev pub is_infinite : Timeout → Bool
is_infinite (Seconds seconds) = false
is_infinite Infinite = true

-- a wait without end
abbrev pub is_endless_wait : Line → Bool
is_endless_wait (line.CreateJobs name session) = false
is_endless_wait (line.CreateReservations name session) = false
is_endless_wait (line.OpenJobs name session) = false
is_endless_wait (line.OpenReservations name session) = false
is_endless_wait (line.DestroyJobs session) = false
is_endless_wait (line.DestroyReservations session) = false
is_endless_wait line.NamesJobs = false
is_endless_wait line.NamesReservations = false
is_endless_wait (line.Monitor name) = false
is_endless_wait (line.Close session) = false
is_endless_wait (line.Run name session template reserved) = false
is_endless_wait (line.Bulk name session template begin end step bound reserved) = false
is_endless_wait (line.Jobs session filter) = false
is_endless_wait (line.Array session array) = false
is_endless_wait (line.Suspend session job) = false
is_endless_wait (line.Resume session job) = false
is_endless_wait (line.Hold session job) = false
is_endless_wait (line.Release session job) = false
is_endless_wait (line.Terminate session job) = false
is_endless_wait (line.SuspendArray session array) = false
is_endless_wait (line.ResumeArray session array) = false
is_endless_wait (line.HoldArray session array) = false
is_endless_wait (line.ReleaseArray session array) = false
is_endless_wait (line.TerminateArray session array) = false
is_endless_wait (line.Reap session job) = false
is_endless_wait (line.ReapArray session array) = false
is_endless_wait (line.State session job) = false
is_endless_wait (line.Info session job) = false
is_endless_wait (line.WaitStarted session timeout jobs) = is_infinite timeout
is_endless_wait (line.WaitTerminated session timeout jobs) = is_infinite timeout
is_endless_wait (line.Reserve name session template) = false
is_endless_wait (line.Reservation session reservation) = false
is_endless_wait (line.Reservations session) = false
is_endless_wait (line.Cancel session reservation) = false
is_endless_wait (line.AllJobs session filter) = false
is_endless_wait (line.AllReservations session) = false
is_endless_wait (line.Queues session) = false
is_endless_wait (line.Machines session) = false
is_endless_wait line.Register = false
is_endless_wait (line.At moment) = false
is_endless_wait line.Launch = false
is_endless_wait (line.Started job) = false
is_endless_wait (line.StartFailed job) = false
is_endless_wait (line.Exit job code) = false
is_endless_wait (line.ExitSignal job signal) = false
is_endless_wait (line.ExitUnknown job) = false
is_endless_wait line.Signal = false
is_endless_wait (line.SignalDone job kind) = false
is_endless_wait (line.SignalFailed job kind) = false

-- what a serial script alone has: lines that set the moment, and those of the launcher and of the reaper
abbrev pub is_serial_line : Line → Bool
is_serial_line (line.CreateJobs name session) = false
is_serial_line (line.CreateReservations name session) = false
is_serial_line (line.OpenJobs name session) = false
is_serial_line (line.OpenReservations name session) = false
is_serial_line (line.DestroyJobs session) = false
is_serial_line (line.DestroyReservations session) = false
is_serial_line line.NamesJobs = false
is_serial_line line.NamesReservations = false
is_serial_line (line.Monitor name) = false
is_serial_line (line.Close session) = false
is_serial_line (line.Run name session template reserved) = false
is_serial_line (line.Bulk name session template begin end step bound reserved) = false
is_serial_line (line.Jobs session filter) = false
is_serial_line (line.Array session array) = false
is_serial_line (line.Suspend session job) = false
is_serial_line (line.Resume session job) = false
is_serial_line (line.Hold session job) = false
is_serial_line (line.Release session job) = false
is_serial_line (line.Terminate session job) = false
is_serial_line (line.SuspendArray session array) = false
is_serial_line (line.ResumeArray session array) = false
is_serial_line (line.HoldArray session array) = false
is_serial_line (line.ReleaseArray session array) = false
is_serial_line (line.TerminateArray session array) = false
is_serial_line (line.Reap session job) = false
is_serial_line (line.ReapArray session array) = false
is_serial_line (line.State session job) = false
is_serial_line (line.Info session job) = false
is_serial_line (line.WaitStarted session timeout jobs) = false
is_serial_line (line.WaitTerminated session timeout jobs) = false
is_serial_line (line.Reserve name session template) = false
is_serial_line (line.Reservation session reservation) = false
is_serial_line (line.Reservations session) = false
is_serial_line (line.Cancel session reservation) = false
is_serial_line (line.AllJobs session filter) = false
is_serial_line (line.AllReservations session) = false
is_serial_line (line.Queues session) = false
is_serial_line (line.Machines session) = false
is_serial_line line.Register = false
is_serial_line (line.At moment) = true
is_serial_line line.Launch = true
is_serial_line (line.Started job) = true
is_serial_line (line.StartFailed job) = true
is_serial_line (line.Exit job code) = true
is_serial_line (line.ExitSignal job signal) = true
is_serial_line (line.ExitUnknown job) = true
is_serial_line line.Signal = true
is_serial_line (line.SignalDone job kind) = true
is_serial_line (line.SignalFailed job kind) = true

abbrev pub is_register : Line → Bool
is_register (line.CreateJobs name session) = false
is_register (line.CreateReservations name session) = false
is_register (line.OpenJobs name session) = false
is_register (line.OpenReservations name session) = false
is_register (line.DestroyJobs session) = false
is_register (line.DestroyReservations session) = false
is_register line.NamesJobs = false
is_register line.NamesReservations = false
is_register (line.Monitor name) = false
is_register (line.Close session) = false
is_register (line.Run name session template reserved) = false
is_register (line.Bulk name session template begin end step bound reserved) = false
is_register (line.Jobs session filter) = false
is_register (line.Array session array) = false
is_register (line.Suspend session job) = false
is_register (line.Resume session job) = false
is_register (line.Hold session job) = false
is_register (line.Release session job) = false
is_register (line.Terminate session job) = false
is_register (line.SuspendArray session array) = false
is_register (line.ResumeArray session array) = false
is_register (line.HoldArray session array) = false
is_register (line.ReleaseArray session array) = false
is_register (line.TerminateArray session array) = false
is_register (line.Reap session job) = false
is_register (line.ReapArray session array) = false
is_register (line.State session job) = false
is_register (line.Info session job) = false
is_register (line.WaitStarted session timeout jobs) = false
is_register (line.WaitTerminated session timeout jobs) = false
is_register (line.Reserve name session template) = false
is_register (line.Reservation session reservation) = false
is_register (line.Reservations session) = false
is_register (line.Cancel session reservation) = false
is_register (line.AllJobs session filter) = false
is_register (line.AllReservations session) = false
is_register (line.Queues session) = false
is_register (line.Machines session) = false
is_register line.Register = true
is_register (line.At moment) = false
is_register line.Launch = false
is_register (line.Started job) = false
is_register (line.StartFailed job) = false
is_register (line.Exit job code) = false
is_register (line.ExitSignal job signal) = false
is_register (line.ExitUnknown job) = false
is_register line.Signal = false
is_register (line.SignalDone job kind) = false
is_register (line.SignalFailed job kind) = false

-- The lines of each kind of script, in the setup block or a client's. No wait stands in the setup block. A serial script has
-- no wait without end. A script for threads has no line of a serial script alone, and `register` in its setup block alone.
abbrev pub belongs : Mode → Bool → Line → Bool
belongs mode.Serial in_setup l = not (in_setup && is_wait l) && not (is_endless_wait l)
belongs mode.Threads in_setup l = not (in_setup && is_wait l) && not (is_serial_line l) && (in_setup || not (is_register l))

abbrev pub may_stand : Mode → Bool → Script → List Line → Line → Bool
may_stand m in_setup s earlier l = belongs m in_setup l && may_follow s earlier l
