-- The job state model: GFD.231, section 8.1; which edges this profile has is our profile.
use Rattle.std.specs.Prelude.{ℕ, Bool, not, ◌&&◌, ◌==◌, nat_le, List, [], ◌∷◌, Option, Some, None, if◌then◌else◌}
use Rattle.std.specs.List.{list_any}
use Rattle.std.specs.Map.{lookup}
use Rattle.drmaa_types.specs.declared.states.JobState.{JobState}
use Rattle.drmaa_types.specs.declared.states.JobState.TheVariants.{Undetermined, Queued, QueuedHeld, Running, Suspended, Requeued, RequeuedHeld, Done, Failed}
use Rattle.drmaa_types.specs.declared.states.Control.{Control}
use Rattle.drmaa_types.specs.declared.states.Control.TheVariants.{Suspend, Resume, Hold, Release, Terminate}
use Rattle.drmaa_types.specs.declared.states.Exit.{Exit}
use Rattle.drmaa_types.specs.declared.states.Exit.TheVariants.{Code, Signal}

-- each state's place in the list of states
abbrev pub state_number : JobState → ℕ
state_number Undetermined = 0
state_number Queued = 1
state_number QueuedHeld = 2
state_number Running = 3
state_number Suspended = 4
state_number Requeued = 5
state_number RequeuedHeld = 6
state_number Done = 7
state_number Failed = 8

-- whether two states are one
abbrev pub is_state : JobState → JobState → Bool
is_state s t = state_number s == state_number t

-- The edges: the states to which a job may go from each state. UNDETERMINED is never produced.
abbrev pub next_states : JobState → List JobState
next_states Undetermined = []
next_states Queued = QueuedHeld ∷ Running ∷ Failed ∷ []
next_states QueuedHeld = Queued ∷ Failed ∷ []
next_states Running = Suspended ∷ Requeued ∷ Done ∷ Failed ∷ []
next_states Suspended = Running ∷ Requeued ∷ Done ∷ Failed ∷ []
next_states Requeued = Running ∷ RequeuedHeld ∷ Failed ∷ []
next_states RequeuedHeld = Requeued ∷ Failed ∷ []
next_states Done = []
next_states Failed = []

-- whether a job may go from one state to another
abbrev pub may : JobState → JobState → Bool
may from to = list_any (is_state to) (next_states from)

-- a job waits to be launched
abbrev pub is_waiting : JobState → Bool
is_waiting s = list_any (is_state s) (Queued ∷ QueuedHeld ∷ Requeued ∷ RequeuedHeld ∷ [])

-- a job was launched and has not ended
abbrev pub is_started : JobState → Bool
is_started s = list_any (is_state s) (Running ∷ Suspended ∷ [])

-- for a wait: the job is past being queued for the first time
abbrev pub has_started : JobState → Bool
has_started s = not (list_any (is_state s) (Queued ∷ QueuedHeld ∷ []))

-- for a wait: the job has ended
abbrev pub has_terminated : JobState → Bool
has_terminated s = list_any (is_state s) (Done ∷ Failed ∷ [])

-- The calls that control a job (GFD.231, section 8.4): from which states each may be made, and to which it leads.
-- Terminating a started job leaves its state as it is, until its exit is reported.
abbrev pub control_moves : Control → List (JobState × JobState)
control_moves Hold = (Queued, QueuedHeld) ∷ (Requeued, RequeuedHeld) ∷ []
control_moves Release = (QueuedHeld, Queued) ∷ (RequeuedHeld, Requeued) ∷ []
control_moves Suspend = (Running, Suspended) ∷ []
control_moves Resume = (Suspended, Running) ∷ []
control_moves Terminate = (Queued, Failed) ∷ (QueuedHeld, Failed) ∷ (Requeued, Failed) ∷ (RequeuedHeld, Failed) ∷ (Running, Running) ∷ (Suspended, Suspended) ∷ []

-- the state after a control call, or none where the job's state does not permit it
abbrev pub after_control : JobState → Control → Option JobState
after_control s control = lookup (is_state s) (control_moves control)

-- The exit code with which a rerunnable job asks to be run again: our profile.
abbrev pub rerun_code : ℕ
rerun_code = 99

-- The state after an exit, none for one that could not be learnt; asked: a kill was asked before it.
abbrev pub after_exit : Option Exit → Bool → Bool → JobState
after_exit None rerunnable asked = Failed
after_exit (Some (Signal number)) rerunnable asked = Failed
after_exit (Some (Code code)) rerunnable asked =
    if asked then Failed else (if code == 0 then Done else (if (code == rerun_code) && rerunnable then Requeued else Failed))

-- The state after a start that failed. A rerunnable job is tried three times in all.
abbrev pub after_start_failure : ℕ → Bool → Bool → JobState
after_start_failure attempt rerunnable asked =
    if rerunnable && not asked && nat_le 1 attempt && nat_le attempt 2 then Requeued else Failed
