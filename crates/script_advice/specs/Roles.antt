-- What a line does for the jobs that it names: our profile.
use Rattle.std.specs.Prelude.{ℕ, List, [], ◌∷◌}
use Rattle.std.specs.List.{flat_map}
use Rattle.drmaa_types.specs.declared.moments.Timeout.{Timeout}
use Rattle.script_lines.specs.declared.refs.Ref.{Ref}
use Rattle.script_lines.specs.declared.refs.Ref.TheVariants.{Bound, Member, Number}
use Rattle.script_lines.specs.declared.lines.Line.{Line}
use Rattle.script_lines.specs.declared.lines.Line.TheVariants as line

-- A line starts a job or an array with a template, waits for jobs, reaps, or lets a held one go: it releases or terminates it.
pub data Role : Type 0 where
  Starts : (name template : List ℕ) → Role
  Waits : (timeout : Timeout) (jobs : List Ref) → Role
  Reaps : (done : Ref) → Role
  LetsGo : (kept : Ref) → Role
  Other : Role

abbrev pub role : Line → Role
role (line.CreateJobs name session) = Other
role (line.CreateReservations name session) = Other
role (line.OpenJobs name session) = Other
role (line.OpenReservations name session) = Other
role (line.DestroyJobs session) = Other
role (line.DestroyReservations session) = Other
role line.NamesJobs = Other
role line.NamesReservations = Other
role (line.Monitor name) = Other
role (line.Close session) = Other
role (line.Run name session template reserved) = Starts name template
role (line.Bulk name session template begin end step bound reserved) = Starts name template
role (line.Jobs session filter) = Other
role (line.Array session array) = Other
role (line.Suspend session job) = Other
role (line.Resume session job) = Other
role (line.Hold session job) = Other
role (line.Release session job) = LetsGo job
role (line.Terminate session job) = LetsGo job
role (line.SuspendArray session array) = Other
role (line.ResumeArray session array) = Other
role (line.HoldArray session array) = Other
role (line.ReleaseArray session array) = LetsGo array
role (line.TerminateArray session array) = LetsGo array
role (line.Reap session job) = Reaps job
role (line.ReapArray session array) = Reaps array
role (line.State session job) = Other
role (line.Info session job) = Other
role (line.WaitStarted session timeout jobs) = Waits timeout jobs
role (line.WaitTerminated session timeout jobs) = Waits timeout jobs
role (line.Reserve name session template) = Other
role (line.Reservation session reservation) = Other
role (line.Reservations session) = Other
role (line.Cancel session reservation) = Other
role (line.AllJobs session filter) = Other
role (line.AllReservations session) = Other
role (line.Queues session) = Other
role (line.Machines session) = Other
role line.Register = Other
role (line.At moment) = Other
role line.Launch = Other
role (line.Started job) = Other
role (line.StartFailed job) = Other
role (line.Exit job code) = Other
role (line.ExitSignal job signal) = Other
role (line.ExitUnknown job) = Other
role line.Signal = Other
role (line.SignalDone job kind) = Other
role (line.SignalFailed job kind) = Other

-- the name that a reference has: that of the job, or of the member's array
abbrev pub named : Ref → List (List ℕ)
named (Bound name) = name ∷ []
named (Member array index) = array ∷ []
named (Number n) = []

-- the jobs and arrays that are waited for, or reaped
abbrev pub awaited : Role → List (List ℕ)
awaited (Starts name template) = []
awaited (Waits timeout jobs) = flat_map named jobs
awaited (Reaps done) = named done
awaited (LetsGo kept) = []
awaited Other = []

-- those that are let go
abbrev pub let_go : Role → List (List ℕ)
let_go (Starts name template) = []
let_go (Waits timeout jobs) = []
let_go (Reaps done) = []
let_go (LetsGo kept) = named kept
let_go Other = []
