-- Control of jobs, signals, and jobs that are queued again.
use Rattle.std.specs.Prelude.{true, List, [], ◌∷◌}
use Rattle.job_template.specs.declared.templates.JobTemplate.{JobTemplate}
use Rattle.drmaa_types.specs.declared.refusals.Refusal.TheVariants.{InvalidArgument, InvalidState, UnsupportedOperation}
use Rattle.drmaa_types.specs.declared.refusals.Which.TheVariants as which
use Rattle.drmaa_types.specs.declared.states.Control.TheVariants.{Suspend, Hold, Release, Terminate}
use Rattle.drmaa_types.specs.declared.states.Exit.TheVariants.{Code, Signal}
use Rattle.drmaa_types.specs.declared.states.JobState.TheVariants.{Queued, Running, Suspended, Requeued, RequeuedHeld, Done, Failed}
use Rattle.drmaa_types.specs.declared.states.SignalKind.TheVariants as signal
use Rattle.drmaa_model.specs.declared.calls.Call.TheVariants as call
use Rattle.drmaa_model.specs.declared.entries.Entry.{Entry}
use Rattle.drmaa_model.specs.declared.replies.Reply.TheVariants as reply
use Rattle.model_rows.specs.Machines.{entry, job, plain, opened, run, controlled, has_state, launched, started, exited}

-- A job that runs is not held, one that is queued not released; one that is terminated runs until its end is reported.
abbrev pub asked_to_end : List Entry
asked_to_end =
    opened ∷ run plain 1 ∷ run plain 2 ∷ launched 1 1 1 ∷ started 1 ∷
    controlled 1 Hold (reply.Refused (InvalidState Running)) ∷
    controlled 2 Release (reply.Refused (InvalidState Queued)) ∷
    controlled 1 Terminate reply.Unit ∷
    controlled 1 Terminate reply.Unit ∷
    has_state 1 Running ∷
    entry 3 0 call.TakeSignal (reply.Signal (record { job = job 1; attempt = 1; kind = signal.Kill })) ∷ []

abbrev pub killed : List Entry
killed =
    entry 3 0 (call.SignalDone (job 1) 1 signal.Kill) reply.Unit ∷
    exited 1 1 (Signal 9) ∷
    has_state 1 Failed ∷ []

-- a job that is queued again where its exit asks for it
abbrev pub rerunnable : JobTemplate
rerunnable = record plain { rerunnable = true }

-- Exit code 99 queues a rerunnable job again, unless it was asked to end.
abbrev pub queued_again : List Entry
queued_again =
    opened ∷ run rerunnable 1 ∷ launched 1 1 1 ∷ exited 1 1 (Code 99) ∷ has_state 1 Requeued ∷
    controlled 1 Hold reply.Unit ∷ has_state 1 RequeuedHeld ∷ controlled 1 Release reply.Unit ∷
    launched 1 2 1 ∷ controlled 1 Terminate reply.Unit ∷ exited 1 2 (Code 99) ∷ has_state 1 Failed ∷ []

-- On a machine that can't suspend, a running job is not suspended; before its launch no end of it is reported.
abbrev pub not_suspended : List Entry
not_suspended =
    opened ∷ run plain 1 ∷
    entry 3 0 (call.Exited (job 1) 0 (Code 0)) (reply.Refused (InvalidState Queued)) ∷
    launched 1 1 1 ∷
    controlled 1 Suspend (reply.Refused UnsupportedOperation) ∷
    controlled 9 Suspend (reply.Refused (InvalidArgument which.Job)) ∷ []

-- the end of a suspended job takes its Stop signal with it
abbrev pub suspended : List Entry
suspended =
    opened ∷ run plain 1 ∷ launched 1 1 1 ∷ started 1 ∷
    controlled 1 Suspend reply.Unit ∷ has_state 1 Suspended ∷ exited 1 1 (Code 0) ∷ []

abbrev pub suspended_ended : List Entry
suspended_ended = has_state 1 Done ∷ []
