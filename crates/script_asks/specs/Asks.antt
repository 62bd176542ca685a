-- What a line asks: our profile. Names stand for the numbers that they were given; a line that uses a name without a
-- number asks nothing.
use Rattle.std.specs.Prelude.{ℕ, ◌+◌, ◌-◌, ◌/◌, ◌^◌, nat_lt, ◌==◌, List, [], ◌∷◌, Option, Some, None, if◌then◌else◌}
use Rattle.std.specs.Map.{lookup}
use Rattle.std.specs.Str.{bytes_eq}
use Rattle.drmaa_types.specs.declared.identifiers.JobId.{JobId}
use Rattle.drmaa_types.specs.declared.identifiers.ReservationId.{ReservationId}
use Rattle.drmaa_types.specs.declared.identifiers.SessionId.{SessionId}
use Rattle.drmaa_types.specs.declared.filters.JobFilter.{JobFilter}
use Rattle.drmaa_types.specs.declared.states.Control.{Control}
use Rattle.drmaa_types.specs.declared.states.Control.TheVariants as control
use Rattle.drmaa_types.specs.declared.states.Exit.TheVariants as exit
use Rattle.drmaa_types.specs.declared.states.WaitKind.TheVariants as reached
use Rattle.job_template.specs.declared.templates.JobTemplate.{JobTemplate}
use Rattle.drmaa_model.specs.declared.calls.Call.{Call}
use Rattle.drmaa_model.specs.declared.calls.Call.TheVariants as call
use Rattle.drmaa_model.specs.declared.calls.Target.{Target}
use Rattle.drmaa_model.specs.declared.calls.Target.TheVariants as target
use Rattle.drmaa_model.specs.declared.calls.Indices.{Indices}
use Rattle.text_codec.specs.Formats.{◌>>=◌}
use Rattle.text_dates.specs.declared.said.Said.{Said}
use Rattle.script_lines.specs.declared.refs.Ref.{Ref}
use Rattle.script_lines.specs.declared.refs.Ref.TheVariants.{Bound, Member, Number}
use Rattle.script_lines.specs.declared.lines.Filter.{Filter}
use Rattle.script_lines.specs.declared.lines.Line.{Line}
use Rattle.script_lines.specs.declared.lines.Line.TheVariants as line
use Rattle.script_text.specs.declared.scripts.Script.{Script}
use Rattle.script_asks.specs.declared.given.Given.{Given}
use Rattle.script_asks.specs.declared.given.Given.TheVariants.{One, Many}

-- the number that a name was given
abbrev pub number_given : Given → ℕ
number_given (One n) = n
number_given (Many array first begin step) = array

-- the number of a job, all of which are below 2^64
abbrev pub within : ℕ → Option ℕ
within n = if nat_lt n (2 ^ 64) then Some n else None

-- the number of the member with an index: the first number plus (index minus begin) divided by step
abbrev pub member_given : ℕ → Given → Option ℕ
member_given index (One n) = None
member_given index (Many array first begin step) = if step == 0 then None else within (first + (index - begin) / step)

-- the number that a reference stands for; none where its name has none
abbrev pub number_of : List (List ℕ × Given) → Ref → Option ℕ
number_of names (Bound name) = lookup (bytes_eq name) names >>= λ g. Some (number_given g)
number_of names (Member array index) = lookup (bytes_eq array) names >>= member_given index
number_of names (Number n) = Some n

-- each of these, or none where one has none
abbrev pub numbers_of : List (List ℕ × Given) → List Ref → Option (List ℕ)
numbers_of names [] = Some []
numbers_of names (r ∷ rs) = number_of names r >>= λ n. numbers_of names rs >>= λ ns. Some (n ∷ ns)

-- a number that may be left out: none where it stands and has none
abbrev pub number_if : List (List ℕ × Given) → Option Ref → Option (Option ℕ)
number_if names None = Some None
number_if names (Some r) = number_of names r >>= λ n. Some (Some n)

abbrev pub job_id : Option ℕ → Option JobId
job_id None = None
job_id (Some n) = Some (record { 0 = n })

abbrev pub reservation_id : Option ℕ → Option ReservationId
reservation_id None = None
reservation_id (Some n) = Some (record { 0 = n })

abbrev pub moment_of : Option Said → Option ℕ
moment_of None = None
moment_of (Some said) = Some said.moment

-- the filter of these items, with this job
abbrev pub filter_for : Filter → Option ℕ → JobFilter
filter_for f job = record {
  job = job_id job;
  name = f.name;
  state = f.state;
  slots = f.slots;
  queue = f.queue;
  status = f.status;
  wallclock = f.wallclock;
  submitted = moment_of f.submitted;
  dispatched = moment_of f.dispatched;
  finished = moment_of f.finished;
}

abbrev pub filter_of : List (List ℕ × Given) → Filter → Option JobFilter
filter_of names f = number_if names f.job >>= λ job. Some (filter_for f job)

-- a job of the template, in a reservation where one is named
abbrev pub template_in : JobTemplate → Option ℕ → JobTemplate
template_in t reserved = record t { reservation_id = reservation_id reserved }

abbrev pub template_of : Script → List (List ℕ × Given) → List ℕ → Option Ref → Option JobTemplate
template_of s names template reserved = lookup (bytes_eq template) s.jobs >>= λ t. number_if names reserved >>= λ r. Some (template_in t r)

-- the call of a session that a line names
abbrev pub of_session : List (List ℕ × Given) → Ref → (SessionId → Call) → Option Call
of_session names session make = number_of names session >>= λ s. Some (make (record { 0 = s }))

-- the call of a session that a line names and of what else it names, where both are there
abbrev pub in_session : {A : Type 0} → List (List ℕ × Given) → Ref → Option A → (SessionId → A → Call) → Option Call
in_session names session other make = number_of names session >>= λ s. other >>= λ x. Some (make (record { 0 = s }) x)

-- the report of a job's last launch
abbrev pub of_launch : List (List ℕ × Given) → (ℕ → ℕ) → Ref → (JobId → ℕ → Call) → Option Call
of_launch names attempt job make = number_of names job >>= λ j. Some (make (record { 0 = j }) (attempt j))

-- what a control call or a reap is for: a job, or the members of an array
abbrev pub a_job : ℕ → Target
a_job n = target.Job (record { 0 = n })

abbrev pub an_array : ℕ → Target
an_array n = target.Array (record { 0 = n })

-- a control call for what a number stands for
abbrev pub controls : (ℕ → Target) → Control → SessionId → ℕ → Call
controls whom what session n = call.Control session (whom n) what

-- a submission of a job, or of one for each index
abbrev pub submits : Option Indices → SessionId → JobTemplate → Call
submits None session t = call.RunJob session t
submits (Some indices) session t = call.RunBulk session t indices

-- What a line asks of a session, or of a job, an array or a reservation in it, of those lines that `asks` and `reports` leave; nothing for any other.
abbrev pub asks_in_session : List (List ℕ × Given) → Line → Option Call
asks_in_session names (line.Close session) = of_session names session call.CloseSession
asks_in_session names (line.Array session array) = in_session names session (number_of names array) (λ s a. call.GetJobArray s (record { 0 = a }))
asks_in_session names (line.Suspend session job) = in_session names session (number_of names job) (controls a_job control.Suspend)
asks_in_session names (line.Resume session job) = in_session names session (number_of names job) (controls a_job control.Resume)
asks_in_session names (line.Hold session job) = in_session names session (number_of names job) (controls a_job control.Hold)
asks_in_session names (line.Release session job) = in_session names session (number_of names job) (controls a_job control.Release)
asks_in_session names (line.Terminate session job) = in_session names session (number_of names job) (controls a_job control.Terminate)
asks_in_session names (line.SuspendArray session array) = in_session names session (number_of names array) (controls an_array control.Suspend)
asks_in_session names (line.ResumeArray session array) = in_session names session (number_of names array) (controls an_array control.Resume)
asks_in_session names (line.HoldArray session array) = in_session names session (number_of names array) (controls an_array control.Hold)
asks_in_session names (line.ReleaseArray session array) = in_session names session (number_of names array) (controls an_array control.Release)
asks_in_session names (line.TerminateArray session array) = in_session names session (number_of names array) (controls an_array control.Terminate)
asks_in_session names (line.Reap session job) = in_session names session (number_of names job) (λ s j. call.Reap s (a_job j))
asks_in_session names (line.ReapArray session array) = in_session names session (number_of names array) (λ s a. call.Reap s (an_array a))
asks_in_session names (line.State session job) = in_session names session (number_of names job) (λ s j. call.GetState s (record { 0 = j }))
asks_in_session names (line.Info session job) = in_session names session (number_of names job) (λ s j. call.GetInfo s (record { 0 = j }))
asks_in_session names (line.Reservation session reservation) = in_session names session (number_of names reservation) (λ s r. call.GetReservation s (record { 0 = r }))
asks_in_session names (line.Reservations session) = of_session names session call.GetReservations
asks_in_session names (line.Cancel session reservation) = in_session names session (number_of names reservation) (λ s r. call.EndReservation s (record { 0 = r }))
asks_in_session names (line.AllReservations session) = of_session names session call.AllReservations
asks_in_session names (line.Queues session) = of_session names session call.AllQueues
asks_in_session names (line.Machines session) = of_session names session call.AllMachines
asks_in_session names _ = None

-- What a line that `asks` leaves reports of a job's last launch; where it reports nothing, what it asks of a session.
abbrev pub reports : List (List ℕ × Given) → (ℕ → ℕ) → Line → Option Call
reports names attempt (line.Started job) = of_launch names attempt job call.Started
reports names attempt (line.StartFailed job) = of_launch names attempt job call.StartFailed
reports names attempt (line.Exit job code) = of_launch names attempt job (λ j n. call.Exited j n (exit.Code code))
reports names attempt (line.ExitSignal job signal) = of_launch names attempt job (λ j n. call.Exited j n (exit.Signal signal))
reports names attempt (line.ExitUnknown job) = of_launch names attempt job call.ExitUnknown
reports names attempt (line.SignalDone job kind) = of_launch names attempt job (λ j n. call.SignalDone j n kind)
reports names attempt (line.SignalFailed job kind) = of_launch names attempt job (λ j n. call.SignalFailed j n kind)
reports names attempt l = asks_in_session names l

-- What a line asks: the numbers of names, the attempt of each job's last launch, and the moment at which a wait began. A line
-- that has none of what is told here is a report, or asks of a session and what is in it.
abbrev pub asks : Script → List (List ℕ × Given) → (ℕ → ℕ) → ℕ → Line → Option Call
asks s names attempt begun (line.CreateJobs name session) = Some (call.CreateJobSession session)
asks s names attempt begun (line.CreateReservations name session) = Some (call.CreateReservationSession session)
asks s names attempt begun (line.OpenJobs name session) = Some (call.OpenJobSession session)
asks s names attempt begun (line.OpenReservations name session) = Some (call.OpenReservationSession session)
asks s names attempt begun (line.DestroyJobs session) = Some (call.DestroyJobSession session)
asks s names attempt begun (line.DestroyReservations session) = Some (call.DestroyReservationSession session)
asks s names attempt begun line.NamesJobs = Some call.JobSessionNames
asks s names attempt begun line.NamesReservations = Some call.ReservationSessionNames
asks s names attempt begun (line.Monitor name) = Some call.OpenMonitoring
asks s names attempt begun (line.Run name session template reserved) = in_session names session (template_of s names template reserved) (submits None)
asks s names attempt begun (line.Bulk name session template begin end step bound reserved) = in_session names session (template_of s names template reserved) (submits (Some (record { begin = begin; end = end; step = step; bound = bound })))
asks s names attempt begun (line.Jobs session filter) = in_session names session (filter_of names filter) call.GetJobs
asks s names attempt begun (line.WaitStarted session timeout jobs) = in_session names session (numbers_of names jobs) (λ n js. call.Wait n js reached.Started begun timeout)
asks s names attempt begun (line.WaitTerminated session timeout jobs) = in_session names session (numbers_of names jobs) (λ n js. call.Wait n js reached.Terminated begun timeout)
asks s names attempt begun (line.Reserve name session template) = in_session names session (lookup (bytes_eq template) s.reservations) call.RequestReservation
asks s names attempt begun (line.AllJobs session filter) = in_session names session (filter_of names filter) call.AllJobs
asks s names attempt begun line.Register = Some call.Register
asks s names attempt begun (line.At moment) = None
asks s names attempt begun line.Launch = Some call.TakeLaunch
asks s names attempt begun line.Signal = Some call.TakeSignal
asks s names attempt begun l = reports names attempt l
