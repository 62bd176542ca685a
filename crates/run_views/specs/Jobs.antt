-- What is told of the jobs of a history: our profile.
use Rattle.std.specs.Prelude.{ℕ, ◌+◌, ◌-◌, ◌==◌, ◌&&◌, ◌||◌, nat_lt, Bool, true, false, List, filter, length, map, if◌then◌else◌}
use Rattle.std.specs.List.{list_any}
use Rattle.drmaa_types.specs.States.{is_state, is_waiting, is_started}
use Rattle.drmaa_types.specs.declared.changes.Change.{Change}
use Rattle.drmaa_types.specs.declared.infos.JobInfo.{JobInfo}
use Rattle.drmaa_types.specs.declared.refusals.Refusal.{Refusal}
use Rattle.drmaa_types.specs.declared.refusals.Refusal.TheVariants as refusal
use Rattle.drmaa_types.specs.declared.states.JobState.{JobState}
use Rattle.drmaa_types.specs.declared.states.JobState.TheVariants.{Done, Failed}
use Rattle.drmaa_model.specs.declared.calls.Call.{Call}
use Rattle.drmaa_model.specs.declared.calls.Call.TheVariants as call
use Rattle.drmaa_model.specs.declared.entries.Entry.{Entry}
use Rattle.drmaa_model.specs.declared.replies.Reply.{Reply}
use Rattle.drmaa_model.specs.declared.replies.Reply.TheVariants as reply
use Rattle.run_views.specs.declared.jobs.Verdict.{Verdict}
use Rattle.run_views.specs.declared.jobs.Verdict.TheVariants.{AllEnded, SomeFailed, SomeLeft}

-- ---- jobs by state

-- how many kept jobs are in a state
abbrev pub kept_in : JobState → List JobInfo → ℕ
kept_in state infos = length (filter (λ (info : JobInfo). is_state info.state state) infos)

-- how many jobs have come to a state; a job comes to DONE or FAILED once, and stays there until it is reaped
abbrev pub come_to : JobState → List Change → ℕ
come_to state changes = length (filter (λ (change : Change). is_state change.to state) changes)

-- how many jobs have been reaped: of those that have ended, all but the kept ones
abbrev pub reaped : List JobInfo → List Change → ℕ
reaped infos changes = (come_to Done changes + come_to Failed changes) - (kept_in Done infos + kept_in Failed infos)

-- a job is left: it waits, or is started
abbrev pub is_left : JobState → Bool
is_left state = is_waiting state || is_started state

abbrev pub left : List JobInfo → ℕ
left infos = length (filter (λ (info : JobInfo). is_left info.state) infos)

-- ---- refused calls

-- the number of a refusal: their order in the standard's list, from 1
abbrev pub refusal_number : Refusal → ℕ
refusal_number (refusal.DeniedByDrms at) = 1
refusal_number (refusal.TryLater served drawn) = 2
refusal_number refusal.Timeout = 3
refusal_number (refusal.InvalidArgument which) = 4
refusal_number refusal.InvalidSession = 5
refusal_number (refusal.InvalidState state) = 6
refusal_number (refusal.OutOfResource limit) = 7
refusal_number refusal.OutOfMemory = 8
refusal_number (refusal.UnsupportedAttribute attribute) = 9
refusal_number refusal.UnsupportedOperation = 10

-- the number of the refusal that a reply is; 0 where it is none
abbrev pub refused_for : Reply → ℕ
refused_for (reply.Refused why) = refusal_number why
refused_for other = 0

-- the number of the refusal that each call got, 0 where it got none
abbrev pub refusals : List Entry → List ℕ
refusals entries = map (λ (entry : Entry). refused_for entry.reply) entries

-- how many of these numbers are this one
abbrev pub how_many : ℕ → List ℕ → ℕ
how_many number numbers = length (filter (λ (n : ℕ). n == number) numbers)

abbrev pub is_submission : Call → Bool
is_submission (call.RunJob session template) = true
is_submission (call.RunBulk session template indices) = true
is_submission other = false

-- a submission that was refused
unfoldable pub is_unsubmitted : Call → Reply → Bool
is_unsubmitted c answer = is_submission c && nat_lt 0 (refused_for answer)

-- whether a submission was refused
abbrev pub has_unsubmitted : List Entry → Bool
has_unsubmitted entries = list_any (λ (entry : Entry). is_unsubmitted entry.call entry.reply) entries

-- What a script tests: whether a job FAILED; where none did, whether one is left or could not be submitted.
abbrev pub verdict : List JobInfo → List Change → List Entry → Verdict
verdict infos changes entries =
    if nat_lt 0 (come_to Failed changes) then SomeFailed
    else (if nat_lt 0 (left infos) || has_unsubmitted entries then SomeLeft else AllEnded)
