-- What a reply gives to a name, and the attempts of launches: our profile.
use Rattle.std.specs.Prelude.{ℕ, ◌==◌, List, [], ◌∷◌, ◌++◌, Option, Some, None, is_some, if◌then◌else◌}
use Rattle.std.specs.Map.{lookup}
use Rattle.std.specs.Str.{bytes_eq}
use Rattle.drmaa_model.specs.declared.replies.Reply.{Reply}
use Rattle.drmaa_model.specs.declared.replies.Reply.TheVariants as reply
use Rattle.script_lines.specs.declared.lines.Line.{Line}
use Rattle.script_text.specs.declared.blocks.Kind.{Kind}
use Rattle.script_text.specs.declared.blocks.Kind.TheVariants as kind
use Rattle.script_text.specs.Names.{binds}
use Rattle.script_asks.specs.declared.given.Given.{Given}
use Rattle.script_asks.specs.declared.given.Given.TheVariants.{One, Many}

-- the number that a reply of each kind tells
abbrev pub session_in : Reply → Option Given
session_in reply.Unit = None
session_in (reply.Session session) = Some (One session.0)
session_in (reply.Names names) = None
session_in (reply.Job job) = None
session_in (reply.Array array first count) = None
session_in (reply.Jobs numbers) = None
session_in (reply.State state) = None
session_in (reply.Info info) = None
session_in (reply.Reached job) = None
session_in (reply.Reserved reserved) = None
session_in (reply.Reservation info) = None
session_in (reply.Reservations numbers) = None
session_in (reply.Infos told) = None
session_in (reply.ReservationInfos told) = None
session_in (reply.Machine info) = None
session_in (reply.Callback number) = None
session_in (reply.Launch launch) = None
session_in (reply.Signal signal) = None
session_in (reply.Refused why) = None

abbrev pub job_in : Reply → Option Given
job_in reply.Unit = None
job_in (reply.Session session) = None
job_in (reply.Names names) = None
job_in (reply.Job job) = Some (One job.0)
job_in (reply.Array array first count) = None
job_in (reply.Jobs numbers) = None
job_in (reply.State state) = None
job_in (reply.Info info) = None
job_in (reply.Reached job) = None
job_in (reply.Reserved reserved) = None
job_in (reply.Reservation info) = None
job_in (reply.Reservations numbers) = None
job_in (reply.Infos told) = None
job_in (reply.ReservationInfos told) = None
job_in (reply.Machine info) = None
job_in (reply.Callback number) = None
job_in (reply.Launch launch) = None
job_in (reply.Signal signal) = None
job_in (reply.Refused why) = None

abbrev pub array_in : ℕ → ℕ → Reply → Option Given
array_in begin step reply.Unit = None
array_in begin step (reply.Session session) = None
array_in begin step (reply.Names names) = None
array_in begin step (reply.Job job) = None
array_in begin step (reply.Array array first count) = Some (Many array.0 first.0 begin step)
array_in begin step (reply.Jobs numbers) = None
array_in begin step (reply.State state) = None
array_in begin step (reply.Info info) = None
array_in begin step (reply.Reached job) = None
array_in begin step (reply.Reserved reserved) = None
array_in begin step (reply.Reservation info) = None
array_in begin step (reply.Reservations numbers) = None
array_in begin step (reply.Infos told) = None
array_in begin step (reply.ReservationInfos told) = None
array_in begin step (reply.Machine info) = None
array_in begin step (reply.Callback number) = None
array_in begin step (reply.Launch launch) = None
array_in begin step (reply.Signal signal) = None
array_in begin step (reply.Refused why) = None

abbrev pub reserved_in : Reply → Option Given
reserved_in reply.Unit = None
reserved_in (reply.Session session) = None
reserved_in (reply.Names names) = None
reserved_in (reply.Job job) = None
reserved_in (reply.Array array first count) = None
reserved_in (reply.Jobs numbers) = None
reserved_in (reply.State state) = None
reserved_in (reply.Info info) = None
reserved_in (reply.Reached job) = None
reserved_in (reply.Reserved reserved) = Some (One reserved.reservation.0)
reserved_in (reply.Reservation info) = None
reserved_in (reply.Reservations numbers) = None
reserved_in (reply.Infos told) = None
reserved_in (reply.ReservationInfos told) = None
reserved_in (reply.Machine info) = None
reserved_in (reply.Callback number) = None
reserved_in (reply.Launch launch) = None
reserved_in (reply.Signal signal) = None
reserved_in (reply.Refused why) = None

-- what a reply gives to a name of this kind; a refusal gives nothing
abbrev pub given_in : Kind → Reply → Option Given
given_in kind.Session r = session_in r
given_in kind.Job r = job_in r
given_in (kind.Array begin end step) r = array_in begin step r
given_in kind.Reservation r = reserved_in r

-- a name keeps what it was given first; a script binds no name twice
abbrev pub bind_to : List ℕ → Option Given → List (List ℕ × Given) → List (List ℕ × Given)
bind_to name None names = names
bind_to name (Some g) names = if is_some (lookup (bytes_eq name) names) then names else names ++ (name, g) ∷ []

abbrev pub bind_by : Option (List ℕ × Kind) → Reply → List (List ℕ × Given) → List (List ℕ × Given)
bind_by None r names = names
bind_by (Some b) r names = bind_to b.0 (given_in b.1 r) names

-- the names after the reply to a line
abbrev pub names_after : Line → Reply → List (List ℕ × Given) → List (List ℕ × Given)
names_after l r names = bind_by (binds l) r names

-- the attempt of a job after a reply
abbrev pub attempt_after : ℕ → ℕ → Reply → ℕ
attempt_after job attempt reply.Unit = attempt
attempt_after job attempt (reply.Session session) = attempt
attempt_after job attempt (reply.Names names) = attempt
attempt_after job attempt (reply.Job other) = attempt
attempt_after job attempt (reply.Array array first count) = attempt
attempt_after job attempt (reply.Jobs numbers) = attempt
attempt_after job attempt (reply.State state) = attempt
attempt_after job attempt (reply.Info info) = attempt
attempt_after job attempt (reply.Reached other) = attempt
attempt_after job attempt (reply.Reserved reserved) = attempt
attempt_after job attempt (reply.Reservation info) = attempt
attempt_after job attempt (reply.Reservations numbers) = attempt
attempt_after job attempt (reply.Infos told) = attempt
attempt_after job attempt (reply.ReservationInfos told) = attempt
attempt_after job attempt (reply.Machine info) = attempt
attempt_after job attempt (reply.Callback number) = attempt
attempt_after job attempt (reply.Launch launch) = if launch.job.0 == job then launch.attempt else attempt
attempt_after job attempt (reply.Signal signal) = attempt
attempt_after job attempt (reply.Refused why) = attempt

abbrev pub attempt_from : ℕ → ℕ → List Reply → ℕ
attempt_from job attempt [] = attempt
attempt_from job attempt (r ∷ rs) = attempt_from job (attempt_after job attempt r) rs

-- the attempt of the last launch reply that named the job, and 0 where there was none
abbrev pub last_attempt : ℕ → List Reply → ℕ
last_attempt job replies = attempt_from job 0 replies
