-- The laws of the state model, by cases on the states.
use Rattle.std.proofs.Common.{◌≡◌, ◌≢◌, ℕ, Bool, true, false, if◌then◌else◌, Option, Some, None, IsTrue, IsFalse, IfSome, refl, sym}
use mathlib.Core.Bool.{false≢true}
use Rattle.drmaa_types.specs.States.{may, is_started, has_started, has_terminated, after_control, after_exit, after_start_failure}
use Rattle.drmaa_types.specs.declared.states.JobState.{JobState}
use Rattle.drmaa_types.specs.declared.states.JobState.TheVariants.{Undetermined, Queued, QueuedHeld, Running, Suspended, Requeued, RequeuedHeld, Done, Failed}
use Rattle.drmaa_types.specs.declared.states.Control.{Control}
use Rattle.drmaa_types.specs.declared.states.Control.TheVariants.{Suspend, Resume, Hold, Release, Terminate}
use Rattle.drmaa_types.specs.declared.states.Exit.{Exit}
use Rattle.drmaa_types.specs.declared.states.Exit.TheVariants.{Code, Signal}

-- what holds of both choices holds of the one that is made
chosen : (P : JobState → Type 0) (b : Bool) (x y : JobState) → P x → P y → P (if b then x else y)
chosen P true x y of_x of_y = of_x
chosen P false x y of_x of_y = of_y

-- an exit leads to one of three states
exit_state : (P : JobState → Type 0) (exit : Option Exit) (rerunnable asked : Bool) → P Done → P Requeued → P Failed → P (after_exit exit rerunnable asked)
exit_state P None rerunnable asked done requeued failed = failed
exit_state P (Some (Signal number)) rerunnable asked done requeued failed = failed
exit_state P (Some (Code code)) rerunnable asked done requeued failed =
    chosen P _ _ _ failed (chosen P _ _ _ done (chosen P _ _ _ requeued failed))

-- so does a failed start, of two
start_state : (P : JobState → Type 0) (attempt : ℕ) (rerunnable asked : Bool) → P Requeued → P Failed → P (after_start_failure attempt rerunnable asked)
start_state P attempt rerunnable asked requeued failed = chosen P _ _ _ requeued failed

pub exits : (state : JobState) (exit : Option Exit) (rerunnable asked : Bool) → IsTrue (is_started state) → IsTrue (may state (after_exit exit rerunnable asked))
exits Running exit rerunnable asked started = exit_state (λ next. IsTrue (may Running next)) exit rerunnable asked refl refl refl
exits Suspended exit rerunnable asked started = exit_state (λ next. IsTrue (may Suspended next)) exit rerunnable asked refl refl refl
exits _ exit rerunnable asked started = absurd (false≢true started)

pub failed_starts : (state : JobState) (attempt : ℕ) (rerunnable asked : Bool) → IsTrue (is_started state) → IsTrue (may state (after_start_failure attempt rerunnable asked))
failed_starts Running attempt rerunnable asked started = start_state (λ next. IsTrue (may Running next)) attempt rerunnable asked refl refl
failed_starts Suspended attempt rerunnable asked started = start_state (λ next. IsTrue (may Suspended next)) attempt rerunnable asked refl refl
failed_starts _ attempt rerunnable asked started = absurd (false≢true started)

pub other_calls : (state : JobState) (control : Control) → control ≢ Terminate → IfSome (after_control state control) (λ next. IsTrue (may state next))
other_calls state Terminate other = absurd (other refl)
other_calls Queued Hold other = refl
other_calls Requeued Hold other = refl
other_calls QueuedHeld Release other = refl
other_calls RequeuedHeld Release other = refl
other_calls Running Suspend other = refl
other_calls Suspended Resume other = refl
other_calls _ _ other = tt

pub other_states : (state : JobState) (control : Control) → IsFalse (is_started state) → IfSome (after_control state control) (λ next. IsTrue (may state next))
other_states Queued Hold waits = refl
other_states Queued Terminate waits = refl
other_states QueuedHeld Release waits = refl
other_states QueuedHeld Terminate waits = refl
other_states Requeued Hold waits = refl
other_states Requeued Terminate waits = refl
other_states RequeuedHeld Release waits = refl
other_states RequeuedHeld Terminate waits = refl
other_states Running _ waits = absurd (false≢true (sym waits))
other_states Suspended _ waits = absurd (false≢true (sym waits))
other_states Undetermined Suspend waits = tt
other_states Undetermined Resume waits = tt
other_states Undetermined Hold waits = tt
other_states Undetermined Release waits = tt
other_states Undetermined Terminate waits = tt
other_states Done Suspend waits = tt
other_states Done Resume waits = tt
other_states Done Hold waits = tt
other_states Done Release waits = tt
other_states Done Terminate waits = tt
other_states Failed Suspend waits = tt
other_states Failed Resume waits = tt
other_states Failed Hold waits = tt
other_states Failed Release waits = tt
other_states Failed Terminate waits = tt
other_states _ _ waits = tt

pub terminating : (state : JobState) → IsTrue (is_started state) → after_control state Terminate ≡ Some state
terminating Running started = refl
terminating Suspended started = refl
terminating _ started = absurd (false≢true started)

pub keeps_started : (from to : JobState) → IsTrue (may from to) → IsTrue (has_started from) → IsTrue (has_started to)
keeps_started Queued to edge came = absurd (false≢true came)
keeps_started QueuedHeld to edge came = absurd (false≢true came)
keeps_started _ Queued edge came = absurd (false≢true edge)
keeps_started _ QueuedHeld edge came = absurd (false≢true edge)
keeps_started _ Undetermined edge came = refl
keeps_started _ Running edge came = refl
keeps_started _ Suspended edge came = refl
keeps_started _ Requeued edge came = refl
keeps_started _ RequeuedHeld edge came = refl
keeps_started _ Done edge came = refl
keeps_started _ Failed edge came = refl

pub keeps_terminated : (from to : JobState) → IsTrue (may from to) → IsTrue (has_terminated from) → IsTrue (has_terminated to)
keeps_terminated Done to edge came = absurd (false≢true edge)
keeps_terminated Failed to edge came = absurd (false≢true edge)
keeps_terminated _ to edge came = absurd (false≢true came)

pub ended_stays : (from to : JobState) → IsTrue (has_terminated from) → IsFalse (may from to)
ended_stays Done to ended = refl
ended_stays Failed to ended = refl
ended_stays _ to ended = absurd (false≢true ended)

pub never_undetermined : (from : JobState) → IsFalse (may from Undetermined)
never_undetermined Undetermined = refl
never_undetermined Queued = refl
never_undetermined QueuedHeld = refl
never_undetermined Running = refl
never_undetermined Suspended = refl
never_undetermined Requeued = refl
never_undetermined RequeuedHeld = refl
never_undetermined Done = refl
never_undetermined Failed = refl
