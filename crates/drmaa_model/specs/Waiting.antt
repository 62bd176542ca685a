-- Waits: GFD.231, Job and JobSession; the list and the look at the end of the timeout are our profile.
use Rattle.std.specs.Prelude.{ℕ, ◌+◌, Bool, false, ◌&&◌, ◌==◌, nat_le, min, List, find, Option}
use Rattle.std.specs.List.{list_any}
use Rattle.drmaa_types.specs.Moments.{greatest}
use Rattle.drmaa_types.specs.States.{has_started, has_terminated}
use Rattle.drmaa_types.specs.declared.moments.Timeout.{Timeout}
use Rattle.drmaa_types.specs.declared.moments.Timeout.TheVariants as timeout
use Rattle.drmaa_types.specs.declared.states.JobState.{JobState}
use Rattle.drmaa_types.specs.declared.states.WaitKind.{WaitKind}
use Rattle.drmaa_types.specs.declared.states.WaitKind.TheVariants as wait
use Rattle.drmaa_model.specs.declared.rows.Row.{Row}

-- the most jobs of one wait
abbrev pub most_waited : ℕ
most_waited = 10_000

-- the state that is waited for is reached
abbrev pub has_reached : WaitKind → JobState → Bool
has_reached wait.Started state = has_started state
has_reached wait.Terminated state = has_terminated state

abbrev pub is_reached_by : WaitKind → List Row → ℕ → Bool
is_reached_by kind rows job = list_any (λ (row : Row). (row.job.0 == job) && has_reached kind row.course.state) rows

-- the first listed job that has reached the state
abbrev pub first_reached : WaitKind → List Row → List ℕ → Option ℕ
first_reached kind rows jobs = find (is_reached_by kind rows) jobs

-- the timeout is over at a moment; one that would end after the greatest moment ends there
abbrev pub is_timed_out : ℕ → ℕ → Timeout → Bool
is_timed_out at begun (timeout.Seconds seconds) = nat_le (min (begun + seconds) greatest) at
is_timed_out at begun timeout.Infinite = false
