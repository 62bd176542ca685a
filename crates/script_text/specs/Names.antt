-- What the lines of a block bind: our profile.
use Rattle.std.specs.Prelude.{ℕ, ◌-◌, ◌%◌, ◌==◌, ◌&&◌, not, nat_le, Bool, true, false, List, [], ◌∷◌, Option, Some, None, is_some, if◌then◌else◌}
use Rattle.std.specs.Map.{lookup}
use Rattle.std.specs.Str.{bytes_eq}
use Rattle.script_lines.specs.declared.refs.Ref.{Ref}
use Rattle.script_lines.specs.declared.refs.Ref.TheVariants.{Bound, Member, Number}
use Rattle.script_lines.specs.declared.lines.Line.{Line}
use Rattle.script_lines.specs.declared.lines.Line.TheVariants as line
use Rattle.script_text.specs.declared.blocks.Kind.{Kind}
use Rattle.script_text.specs.declared.blocks.Kind.TheVariants as kind

-- what a line binds its name to
abbrev pub binds : Line → Option (List ℕ × Kind)
binds (line.CreateJobs name session) = Some (name, kind.Session)
binds (line.CreateReservations name session) = Some (name, kind.Session)
binds (line.OpenJobs name session) = Some (name, kind.Session)
binds (line.OpenReservations name session) = Some (name, kind.Session)
binds (line.DestroyJobs session) = None
binds (line.DestroyReservations session) = None
binds line.NamesJobs = None
binds line.NamesReservations = None
binds (line.Monitor name) = Some (name, kind.Session)
binds (line.Close session) = None
binds (line.Run name session template reserved) = Some (name, kind.Job)
binds (line.Bulk name session template begin end step bound reserved) = Some (name, kind.Array begin end step)
binds (line.Jobs session filter) = None
binds (line.Array session array) = None
binds (line.Suspend session job) = None
binds (line.Resume session job) = None
binds (line.Hold session job) = None
binds (line.Release session job) = None
binds (line.Terminate session job) = None
binds (line.SuspendArray session array) = None
binds (line.ResumeArray session array) = None
binds (line.HoldArray session array) = None
binds (line.ReleaseArray session array) = None
binds (line.TerminateArray session array) = None
binds (line.Reap session job) = None
binds (line.ReapArray session array) = None
binds (line.State session job) = None
binds (line.Info session job) = None
binds (line.WaitStarted session timeout jobs) = None
binds (line.WaitTerminated session timeout jobs) = None
binds (line.Reserve name session template) = Some (name, kind.Reservation)
binds (line.Reservation session reservation) = None
binds (line.Reservations session) = None
binds (line.Cancel session reservation) = None
binds (line.AllJobs session filter) = None
binds (line.AllReservations session) = None
binds (line.Queues session) = None
binds (line.Machines session) = None
binds line.Register = None
binds (line.At moment) = None
binds line.Launch = None
binds (line.Started job) = None
binds (line.StartFailed job) = None
binds (line.Exit job code) = None
binds (line.ExitSignal job signal) = None
binds (line.ExitUnknown job) = None
binds line.Signal = None
binds (line.SignalDone job kind) = None
binds (line.SignalFailed job kind) = None

-- an item in front, where there is one
abbrev pub onto : {A : Type 0} → Option A → List A → List A
onto None xs = xs
onto (Some x) xs = x ∷ xs

-- what lines bind, in order
abbrev pub names_of : List Line → List (List ℕ × Kind)
names_of [] = []
names_of (l ∷ ls) = onto (binds l) (names_of ls)

-- what a name is bound to by these lines
abbrev pub bound : List ℕ → List Line → Option Kind
bound name lines = lookup (bytes_eq name) (names_of lines)

-- the name is none of these
abbrev pub is_new : List (List ℕ × Kind) → Option (List ℕ × Kind) → Bool
is_new names None = true
is_new names (Some b) = not (is_some (lookup (bytes_eq b.0) names))

-- no earlier line binds the name that a line binds
abbrev pub is_free : List Line → Line → Bool
is_free earlier l = is_new (names_of earlier) (binds l)

-- what is bound is a session, a job, an array, a reservation
abbrev pub to_session : Option Kind → Bool
to_session None = false
to_session (Some kind.Session) = true
to_session (Some kind.Job) = false
to_session (Some (kind.Array begin end step)) = false
to_session (Some kind.Reservation) = false

abbrev pub to_job : Option Kind → Bool
to_job None = false
to_job (Some kind.Session) = false
to_job (Some kind.Job) = true
to_job (Some (kind.Array begin end step)) = false
to_job (Some kind.Reservation) = false

abbrev pub to_array : Option Kind → Bool
to_array None = false
to_array (Some kind.Session) = false
to_array (Some kind.Job) = false
to_array (Some (kind.Array begin end step)) = true
to_array (Some kind.Reservation) = false

abbrev pub to_reservation : Option Kind → Bool
to_reservation None = false
to_reservation (Some kind.Session) = false
to_reservation (Some kind.Job) = false
to_reservation (Some (kind.Array begin end step)) = false
to_reservation (Some kind.Reservation) = true

-- begin, begin + step, and so on up to end; begin alone where the step is 0
abbrev pub is_index : ℕ → ℕ → ℕ → ℕ → Bool
is_index begin end step index = nat_le begin index && nat_le index end && (if step == 0 then index == begin else (index - begin) % step == 0)

-- what is bound is an array with a job of this index
abbrev pub to_member : ℕ → Option Kind → Bool
to_member index None = false
to_member index (Some kind.Session) = false
to_member index (Some kind.Job) = false
to_member index (Some (kind.Array begin end step)) = is_index begin end step index
to_member index (Some kind.Reservation) = false

-- the reference is to a session, a job, an array, a reservation; a number is to any
abbrev pub is_session : List Line → Ref → Bool
is_session earlier (Bound name) = to_session (bound name earlier)
is_session earlier (Member array index) = false
is_session earlier (Number n) = true

abbrev pub is_job : List Line → Ref → Bool
is_job earlier (Bound name) = to_job (bound name earlier)
is_job earlier (Member array index) = to_member index (bound array earlier)
is_job earlier (Number n) = true

abbrev pub is_array : List Line → Ref → Bool
is_array earlier (Bound name) = to_array (bound name earlier)
is_array earlier (Member array index) = false
is_array earlier (Number n) = true

abbrev pub is_reservation : List Line → Ref → Bool
is_reservation earlier (Bound name) = to_reservation (bound name earlier)
is_reservation earlier (Member array index) = false
is_reservation earlier (Number n) = true

-- there is none, or it passes
abbrev pub if_some : {A : Type 0} → (A → Bool) → Option A → Bool
if_some test None = true
if_some test (Some x) = test x

-- one of the templates has this name
abbrev pub is_there : {T : Type 0} → List (List ℕ × T) → List ℕ → Bool
is_there templates name = is_some (lookup (bytes_eq name) templates)
