-- Arrays of jobs, and waits.
use Rattle.std.specs.Prelude.{ℕ, List, [], ◌∷◌, codes, Option, Some, None}
use Rattle.job_template.specs.declared.templates.JobTemplate.{JobTemplate}
use Rattle.drmaa_types.specs.declared.moments.Timeout.TheVariants.{Seconds}
use Rattle.drmaa_types.specs.declared.refusals.Refusal.TheVariants.{Timeout, InvalidArgument, InvalidState}
use Rattle.drmaa_types.specs.declared.refusals.Which.TheVariants as which
use Rattle.drmaa_types.specs.declared.states.Control.TheVariants.{Terminate}
use Rattle.drmaa_types.specs.declared.states.Exit.TheVariants.{Code}
use Rattle.drmaa_types.specs.declared.states.JobState.TheVariants.{Running, Failed}
use Rattle.drmaa_types.specs.declared.states.WaitKind.TheVariants.{Started, Terminated}
use Rattle.drmaa_model.specs.declared.calls.Call.{Call}
use Rattle.drmaa_model.specs.declared.calls.Call.TheVariants as call
use Rattle.drmaa_model.specs.declared.calls.Indices.{Indices}
use Rattle.drmaa_model.specs.declared.calls.Target.TheVariants as target
use Rattle.drmaa_model.specs.declared.entries.Entry.{Entry}
use Rattle.drmaa_model.specs.declared.replies.Reply.{Reply}
use Rattle.drmaa_model.specs.declared.replies.Reply.TheVariants as reply
use Rattle.model_rows.specs.Machines.{entry, session, job, array, plain, in_state, opened, run, launched, exited}

-- each member is told its index
abbrev pub indexed : JobTemplate
indexed = record plain { args = codes "$DRMAA2_INDEX$" ∷ [] }

abbrev pub indices : ℕ → ℕ → ℕ → Option ℕ → Indices
indices begin end step bound = record { begin = begin; end = end; step = step; bound = bound }

-- the launch of a member with this index, in decimal
abbrev pub member : ℕ → List ℕ → Reply
member number index = reply.Launch (record {
  job = job number;
  attempt = 1;
  slots = 1;
  words = [] ∷ [] ∷ [] ∷ [] ∷ codes "apart" ∷ codes "0" ∷ codes "true" ∷ index ∷ [];
})

-- What is done to an array is done to each member that permits it, and refused where none does.
abbrev pub whole_array : List Entry
whole_array =
    opened ∷
    entry 1 0 (call.RunBulk (session 1) plain (indices 3 2 1 None)) (reply.Refused (InvalidArgument which.Indices)) ∷
    entry 1 0 (call.RunBulk (session 1) plain (indices 1 3 1 (Some 0))) (reply.Refused (InvalidArgument which.MaxParallel)) ∷
    entry 1 0 (call.RunBulk (session 1) plain (indices 1 3 1 None)) (reply.Array (array 1) (job 1) 3) ∷
    entry 1 0 (call.Control (session 1) (target.Array (array 1)) Terminate) reply.Unit ∷
    entry 1 0 (call.Control (session 1) (target.Array (array 1)) Terminate) (reply.Refused (InvalidState Failed)) ∷
    entry 1 0 (call.Reap (session 1) (target.Array (array 1))) reply.Unit ∷
    entry 1 0 (call.GetJobArray (session 1) (array 1)) (reply.Refused (InvalidArgument which.Array)) ∷ []

-- a job that ended before it ran answers a wait for its start
abbrev pub never_ran : List Entry
never_ran =
    opened ∷
    entry 1 0 (call.RunJob (session 1) plain) (reply.Job (job 1)) ∷
    entry 1 0 (call.Control (session 1) (target.Job (job 1)) Terminate) reply.Unit ∷
    entry 1 0 (call.Wait (session 1) (1 ∷ []) Started 0 (Seconds 0)) (reply.Reached (job 1)) ∷ []

abbrev pub begun : ℕ → List ℕ → Entry
begun number index = entry 2 0 call.TakeLaunch (member number index)

-- The members with the indices 1, 5 and 9, of which two run at once.
abbrev pub two_at_once : List Entry
two_at_once =
    opened ∷
    entry 1 0 (call.RunBulk (session 1) indexed (indices 1 10 4 (Some 2))) (reply.Array (array 1) (job 1) 3) ∷
    begun 1 (codes "1") ∷ begun 2 (codes "5") ∷ []

abbrev pub then_the_third : List Entry
then_the_third =
    exited 1 1 (Code 0) ∷ begun 3 (codes "9") ∷
    entry 1 0 (call.GetJobArray (session 1) (array 1)) (reply.Jobs (1 ∷ 2 ∷ 3 ∷ [])) ∷
    entry 1 0 (call.GetJobs (session 1) (in_state Running)) (reply.Jobs (2 ∷ 3 ∷ [])) ∷ []

-- a look at 0 for the end of one of these jobs
abbrev pub waited : List ℕ → Reply → Entry
waited jobs told = entry 1 0 (call.Wait (session 1) jobs Terminated 0 (Seconds 0)) told

-- a wait from 0 on for the end of job 1, of 2 seconds
abbrev pub two_seconds : Call
two_seconds = call.Wait (session 1) (1 ∷ []) Terminated 0 (Seconds 2)

-- The first listed job that has ended is answered; where none has, the wait times out; a wait for nothing is refused.
abbrev pub two_ended : List Entry
two_ended =
    opened ∷ run plain 1 ∷ run plain 2 ∷ run plain 3 ∷ launched 1 1 1 ∷ launched 2 1 1 ∷ launched 3 1 1 ∷
    exited 2 1 (Code 0) ∷ exited 3 1 (Code 0) ∷
    waited (1 ∷ 2 ∷ 3 ∷ []) (reply.Reached (job 2)) ∷
    waited (1 ∷ []) (reply.Refused Timeout) ∷
    waited [] (reply.Refused (InvalidArgument which.Jobs)) ∷ []

-- two seconds later
abbrev pub timed_out : List Entry
timed_out = entry 1 2 two_seconds (reply.Refused Timeout) ∷ []
