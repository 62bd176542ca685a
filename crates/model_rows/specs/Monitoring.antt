-- Monitoring, and jobs whose session is destroyed.
use Rattle.std.specs.Prelude.{List, [], ◌∷◌, codes, Some, None}
use Rattle.drmaa_types.specs.declared.infos.JobInfo.{JobInfo}
use Rattle.drmaa_types.specs.declared.refusals.Refusal.TheVariants.{InvalidArgument, InvalidState}
use Rattle.drmaa_types.specs.declared.refusals.Which.TheVariants as which
use Rattle.drmaa_types.specs.declared.states.Exit.TheVariants.{Code}
use Rattle.drmaa_types.specs.declared.states.JobState.TheVariants.{Queued, Running}
use Rattle.drmaa_types.specs.declared.states.Note.TheVariants as note
use Rattle.drmaa_model.specs.declared.calls.Call.TheVariants as call
use Rattle.drmaa_model.specs.declared.calls.Target.TheVariants as target
use Rattle.drmaa_model.specs.declared.entries.Entry.{Entry}
use Rattle.drmaa_model.specs.declared.replies.Reply.TheVariants as reply
use Rattle.model_rows.specs.Machines.{entry, session, job, plain, in_state, opened, run, launched, exited}

abbrev pub running_info : JobInfo
running_info = record {
  job = job 1;
  session = Some (codes "s");
  name = None;
  array = None;
  index = None;
  state = Running;
  slots = Some 1;
  queue = codes "default";
  wallclock = Some 0;
  submitted = 0;
  dispatched = Some 0;
  finished = None;
  exit = None;
  note = note.None;
}

-- Monitoring is told of every job. The jobs of a destroyed session that have not ended stay, and monitoring may reap
-- them once they have.
abbrev pub monitored : List Entry
monitored =
    opened ∷ run plain 1 ∷ run plain 2 ∷ launched 1 1 1 ∷
    entry 1 0 call.OpenMonitoring (reply.Session (session 2)) ∷
    entry 1 0 (call.AllJobs (session 2) (in_state Running)) (reply.Infos (running_info ∷ [])) ∷
    entry 1 0 (call.AllQueues (session 2)) (reply.Names (codes "default" ∷ [])) ∷
    entry 1 0 (call.AllMachines (session 2)) (reply.Machine (record { name = codes "node1"; slots = 4; used = 1 })) ∷
    entry 1 0 (call.DestroyJobSession (codes "s")) reply.Unit ∷
    exited 1 1 (Code 0) ∷
    entry 1 0 (call.Reap (session 2) (target.Job (job 1))) reply.Unit ∷
    entry 1 0 (call.Reap (session 2) (target.Job (job 2))) (reply.Refused (InvalidState Queued)) ∷
    entry 1 0 (call.GetState (session 2) (job 1)) (reply.Refused (InvalidArgument which.Job)) ∷ []
