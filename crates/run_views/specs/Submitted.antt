-- The jobs that a history submits, and the sessions that it submits them by: our profile.
use Rattle.std.specs.Prelude.{ℕ, zero, suc, ◌+◌, ◌++◌, ◌==◌, max, Bool, true, false, not, List, [], ◌∷◌, length, map, filter, Option, Some, None, is_some, if◌then◌else◌}
use Rattle.std.specs.List.{list_any}
use Rattle.std.specs.Str.{bytes_eq}
use Rattle.session_table.specs.Sessions.{first_free, session_name}
use Rattle.drmaa_types.specs.declared.identifiers.SessionId.{SessionId}
use Rattle.drmaa_model.specs.declared.calls.Call.{Call}
use Rattle.drmaa_model.specs.declared.calls.Call.TheVariants as call
use Rattle.drmaa_model.specs.declared.entries.Entry.{Entry}
use Rattle.drmaa_model.specs.declared.replies.Reply.{Reply}
use Rattle.drmaa_model.specs.declared.replies.Reply.TheVariants as reply
use Rattle.run_views.specs.declared.submissions.JobRange.{JobRange}
use Rattle.run_views.specs.declared.submissions.Submission.{Submission}

-- ---- jobs

-- the jobs whose numbers a reply hands out: one, or the members of an array
abbrev pub range_in : Reply → JobRange
range_in (reply.Job job) = record { first = job; count = 1 }
range_in (reply.Array array first count) = record { first = first; count = count }
range_in other = record { first = record { 0 = 0 }; count = 0 }

-- so many numbers from this one on
abbrev pub numbers_from : ℕ → ℕ → List ℕ
numbers_from first zero = []
numbers_from first (suc count) = first ∷ numbers_from (first + 1) count

abbrev pub numbers_of : JobRange → List ℕ
numbers_of jobs = numbers_from jobs.first.0 jobs.count

abbrev pub submission : ℕ → SessionId → Option (List ℕ) → ℕ → Submission
submission at session name job = record { job = job; session = session; name = name; submitted = at }

-- what a call and its reply submit at a moment
abbrev pub submitted_in : ℕ → Call → Reply → List Submission
submitted_in at (call.RunJob session template) answer = map (submission at session template.job_name) (numbers_of (range_in answer))
submitted_in at (call.RunBulk session template indices) answer = map (submission at session template.job_name) (numbers_of (range_in answer))
submitted_in at other answer = []

-- what entries submit, in order, where time has come to a moment before the first of them: it never falls
abbrev pub submitted_from : ℕ → List Entry → List Submission
submitted_from now [] = []
submitted_from now (entry ∷ later) =
    submitted_in (max now entry.at) entry.call entry.reply ++ submitted_from (max now entry.at) later

-- The jobs that a history submits, in order; their numbers are those of the replies.
abbrev pub submissions : List Entry → List Submission
submissions entries = submitted_from 0 entries

-- ---- sessions

-- the session number that a reply hands out
abbrev pub session_in : Reply → Option SessionId
session_in (reply.Session session) = Some session
session_in other = None

-- a name of a job session is in use
abbrev pub is_used : List (List ℕ) → List ℕ → Bool
is_used used name = list_any (bytes_eq name) used

-- the name of a session that is made without one, where these are in use: `session-N` with the least N from 1 that is not
abbrev pub unused_name : List (List ℕ) → List ℕ
unused_name used = session_name (first_free (λ n. is_used used (session_name n)) 1 (length used))

abbrev pub chosen_name : List (List ℕ) → Option (List ℕ) → List ℕ
chosen_name used None = unused_name used
chosen_name used (Some name) = name

-- the name under which a call makes or opens a job session
abbrev pub name_in : List (List ℕ) → Call → Option (List ℕ)
name_in used (call.CreateJobSession name) = Some (chosen_name used name)
name_in used (call.OpenJobSession name) = Some name
name_in used other = None

abbrev pub is_unit : Reply → Bool
is_unit reply.Unit = true
is_unit other = false

-- the names of job sessions that are in use after a call: one more where it has made a session, and one less where it has destroyed one
abbrev pub used_after : List (List ℕ) → Call → Reply → List (List ℕ)
used_after used (call.CreateJobSession name) answer = if is_some (session_in answer) then used ++ chosen_name used name ∷ [] else used
used_after used (call.DestroyJobSession name) answer = if is_unit answer then filter (λ (other : List ℕ). not (bytes_eq name other)) used else used
used_after used other answer = used

-- the name of a session number after a call that gave this name, where it gave one, for the number that its reply hands out
abbrev pub name_after : ℕ → Option SessionId → Option (List ℕ) → Option (List ℕ) → Option (List ℕ)
name_after session None given name = name
name_after session (Some other) None name = name
name_after session (Some other) (Some given) name = if other.0 == session then Some given else name

abbrev pub name_from : ℕ → List (List ℕ) → Option (List ℕ) → List Entry → Option (List ℕ)
name_from session used name [] = name
name_from session used name (entry ∷ later) =
    name_from session (used_after used entry.call entry.reply) (name_after session (session_in entry.reply) (name_in used entry.call) name) later

-- the name of the job session for which a session number was handed out
abbrev pub name_of_session : ℕ → List Entry → Option (List ℕ)
name_of_session session entries = name_from session [] None entries
