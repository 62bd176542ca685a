-- What a job asks of the scheduler, and how it goes on: GFD.231, section 8.1, and our profile.
use Rattle.std.specs.Prelude.{ℕ, ◌+◌, Bool, true, false, ◌&&◌, nat_le, List, Option, Some, None, if◌then◌else◌}
use Rattle.drmaa_types.specs.Moments.{greatest}
use Rattle.drmaa_types.specs.States.{after_exit, after_start_failure, has_terminated, is_started}
use Rattle.drmaa_types.specs.declared.queues.QueueSpec.{QueueSpec}
use Rattle.drmaa_types.specs.declared.moments.End.{End}
use Rattle.drmaa_types.specs.declared.moments.End.TheVariants.{At, Never}
use Rattle.drmaa_types.specs.declared.identifiers.ArrayId.{ArrayId}
use Rattle.drmaa_types.specs.declared.states.JobState.{JobState}
use Rattle.drmaa_types.specs.declared.states.JobState.TheVariants.{Queued, QueuedHeld, Running, Failed}
use Rattle.drmaa_types.specs.declared.states.Control.{Control}
use Rattle.drmaa_types.specs.declared.states.Control.TheVariants.{Suspend, Resume, Hold, Release, Terminate}
use Rattle.drmaa_types.specs.declared.states.SignalKind.{SignalKind}
use Rattle.drmaa_types.specs.declared.states.SignalKind.TheVariants as signal
use Rattle.drmaa_types.specs.declared.states.Note.{Note}
use Rattle.drmaa_types.specs.declared.states.Exit.{Exit}
use Rattle.drmaa_types.specs.declared.states.Note.TheVariants as note
use Rattle.job_template.specs.declared.templates.JobTemplate.{JobTemplate}
use Rattle.job_template.specs.Wants.{queue_of, min_slots, max_slots, priority, wallclock_limit}
use Rattle.drmaa_model.specs.declared.courses.Course.{Course}
use Rattle.drmaa_model.specs.declared.courses.Kill.{Kill}
use Rattle.drmaa_model.specs.declared.courses.Kill.TheVariants as kill
use Rattle.drmaa_model.specs.declared.courses.Phase.TheVariants.{Idle, Launching, Alive}
use Rattle.drmaa_model.specs.declared.rows.Wants.{Wants}

-- the array that a job is a member of, its index there, and how many members may hold slots at once
pub record Membership : Type 0 where
  pub array : Option ArrayId
  pub index : Option ℕ
  pub bound : Option ℕ

-- What a job asks for on a machine with these queues: what its template says, with the unset ones filled in, and its place in an array.
abbrev pub wants_of : List QueueSpec → JobTemplate → Membership → Wants
wants_of queues t m = record {
  min = min_slots t;
  max = max_slots t;
  priority = priority t;
  start = t.start_time;
  deadline = t.deadline_time;
  limit = wallclock_limit t;
  reservation = t.reservation_id;
  queue = queue_of queues t;
  array = m.array;
  index = m.index;
  bound = m.bound;
  rerunnable = t.rerunnable;
}

-- the end of something that begins at a moment and lasts so many seconds: never, where that is past the greatest moment
abbrev pub end_after : ℕ → ℕ → End
end_after moment seconds = if nat_le (moment + seconds) greatest then At (moment + seconds) else Never

-- the lesser of two ends; never is after every moment
abbrev pub lesser_end : End → End → End
lesser_end Never b = b
lesser_end (At a) Never = At a
lesser_end (At a) (At b) = if nat_le a b then At a else At b

abbrev pub optional_end : Option ℕ → End
optional_end None = Never
optional_end (Some moment) = At moment

-- the end that a limit of time sets to a launch at this moment
abbrev pub limit_end : ℕ → Option ℕ → End
limit_end moment None = Never
limit_end moment (Some seconds) = end_after moment seconds

-- The planned end of a launch: the lesser of its moment plus WALLCLOCK_TIME and deadlineTime.
abbrev pub planned_end : Wants → ℕ → End
planned_end wants moment = lesser_end (limit_end moment wants.limit) (optional_end wants.deadline)

-- the course of a job that is submitted: QUEUED, or QUEUED_HELD where submitAsHold is set
abbrev pub submitted_course : Bool → Course
submitted_course on_hold = record {
  state = if on_hold then QueuedHeld else Queued;
  phase = Idle;
  attempt = 0;
  held = 0;
  last_slots = None;
  kill = kill.No;
  planned = None;
  dispatched = None;
  finished = None;
  exit = None;
  note = note.None;
}

-- launched at a moment with so many slots, until its planned end
abbrev pub launched : ℕ → ℕ → End → Course → Course
launched moment slots planned course = record course {
  state = Running;
  phase = Launching;
  attempt = course.attempt + 1;
  held = slots;
  last_slots = Some slots;
  planned = Some planned;
  dispatched = Some moment;
}

-- whether a kill counts as asked: also one that could not be delivered
abbrev pub is_asked : Kill → Bool
is_asked kill.No = false
is_asked kill.Asked = true
is_asked kill.Failed = true

-- a run has ended: the job gives its slots back, and goes over to this state
abbrev pub ended : ℕ → JobState → Course → Course
ended moment state course = record course {
  state = state;
  phase = Idle;
  held = 0;
  planned = None;
  finished = if has_terminated state then Some moment else course.finished;
}

-- its process has ended by this exit
abbrev pub exited : ℕ → Exit → Bool → Course → Course
exited moment exit rerunnable course =
    record (ended moment (after_exit (Some exit) rerunnable (is_asked course.kill)) course) { exit = Some exit }

-- its process has ended, in a way that can't be learnt
abbrev pub lost : ℕ → Bool → Course → Course
lost moment rerunnable course =
    record (ended moment (after_exit None rerunnable (is_asked course.kill)) course) { note = note.ExitUnknown }

-- its process could not be started
abbrev pub unstarted : ℕ → Bool → Course → Course
unstarted moment rerunnable course =
    record (ended moment (after_start_failure course.attempt rerunnable (is_asked course.kill)) course) { note = note.StartFailed }

-- a signal could not be delivered: a kill that fails is marked, so that a terminate call may ask once more
abbrev pub signal_failed : SignalKind → Course → Course
signal_failed signal.Stop course = record course { note = note.SignalFailed }
signal_failed signal.Cont course = record course { note = note.SignalFailed }
signal_failed signal.Kill course = record course { note = note.SignalFailed; kill = kill.Failed }

-- its process has started
abbrev pub begun : Course → Course
begun course = record course { phase = Alive }

-- a job that waits ends, and why
abbrev pub failed : ℕ → Note → Course → Course
failed moment note course = record (ended moment Failed course) { note = note }

-- a started job is asked to end, and why
abbrev pub called : Note → Course → Course
called note course = record course { kill = kill.Asked; note = note }

-- no kill was asked
abbrev pub is_unasked : Kill → Bool
is_unasked kill.No = true
is_unasked kill.Asked = false
is_unasked kill.Failed = false

-- a call may ask for a kill: none was asked, or it could not be delivered
abbrev pub may_kill : Kill → Bool
may_kill kill.No = true
may_kill kill.Asked = false
may_kill kill.Failed = true

-- terminated by a call
abbrev pub terminated : ℕ → Course → Course
terminated moment course =
    if is_started course.state then (if may_kill course.kill then called note.Terminated course else course)
    else failed moment note.Terminated course

-- after a control call that leads to this state
abbrev pub controlled : ℕ → Control → JobState → Course → Course
controlled moment Suspend state course = record course { state = state }
controlled moment Resume state course = record course { state = state }
controlled moment Hold state course = record course { state = state }
controlled moment Release state course = record course { state = state }
controlled moment Terminate state course = terminated moment course

-- the signal that a control call asks for
abbrev pub asked_for : Control → Course → Option SignalKind
asked_for Suspend course = Some signal.Stop
asked_for Resume course = Some signal.Cont
asked_for Hold course = None
asked_for Release course = None
asked_for Terminate course = if is_started course.state && may_kill course.kill then Some signal.Kill else None
