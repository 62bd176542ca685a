-- One job, sessions, slots, priorities and time.
use Rattle.std.specs.Prelude.{false, negsuc, pos, List, [], ◌∷◌, codes, Some, None}
use Rattle.job_template.specs.declared.templates.JobTemplate.{JobTemplate}
use Rattle.drmaa_types.specs.declared.infos.JobInfo.{JobInfo}
use Rattle.drmaa_types.specs.declared.refusals.Refusal.TheVariants.{InvalidArgument, InvalidSession}
use Rattle.drmaa_types.specs.declared.refusals.Which.TheVariants as which
use Rattle.drmaa_types.specs.declared.states.Exit.TheVariants.{Code}
use Rattle.drmaa_types.specs.declared.states.JobState.TheVariants.{Running, Done, Failed}
use Rattle.drmaa_types.specs.declared.states.Note.TheVariants as note
use Rattle.drmaa_types.specs.declared.states.SignalKind.TheVariants as signal
use Rattle.drmaa_model.specs.declared.calls.Call.TheVariants as call
use Rattle.drmaa_model.specs.declared.configs.Config.{Config}
use Rattle.drmaa_model.specs.declared.entries.Entry.{Entry}
use Rattle.drmaa_model.specs.declared.replies.Reply.TheVariants as reply
use Rattle.model_rows.specs.Machines.{node, entry, session, job, plain, wide, launch, opened, run, launched, started, exited}

-- one job from its submission to its end
abbrev pub one_job : List Entry
one_job =
    opened ∷
    entry 1 0 (call.RunJob (session 1) plain) (reply.Job (job 1)) ∷
    entry 2 0 call.TakeLaunch (launch 1 1 1) ∷
    entry 3 0 (call.Exited (job 1) 1 (Code 0)) reply.Unit ∷
    entry 1 0 (call.GetState (session 1) (job 1)) (reply.State Done) ∷ []

-- A name in use is refused; a destroyed session's name and number are gone; an unset name is the least unused one.
abbrev pub sessions : List Entry
sessions =
    opened ∷
    entry 1 0 (call.CreateJobSession (Some (codes "s"))) (reply.Refused (InvalidArgument which.SessionName)) ∷
    entry 1 0 (call.DestroyJobSession (codes "s")) reply.Unit ∷
    entry 1 0 (call.RunJob (session 1) plain) (reply.Refused InvalidSession) ∷
    entry 1 0 (call.OpenJobSession (codes "s")) (reply.Refused (InvalidArgument which.SessionName)) ∷
    entry 1 0 (call.CreateJobSession None) (reply.Session (session 2)) ∷
    entry 1 0 call.JobSessionNames (reply.Names (codes "session-1" ∷ [])) ∷
    entry 1 0 (call.CloseSession (session 2)) reply.Unit ∷
    entry 1 0 (call.CloseSession (session 2)) (reply.Refused InvalidSession) ∷ []

-- from 2 slots up to 9: the job gets all four
abbrev pub most_slots : List Entry
most_slots =
    opened ∷
    entry 1 0 (call.RunJob (session 1) (record plain { min_slots = Some 2; max_slots = Some 9 })) (reply.Job (job 1)) ∷
    entry 2 0 call.TakeLaunch (launch 1 1 4) ∷ []

-- one slot
abbrev pub one_slot : Config
one_slot = record node { slots = 1 }

abbrev pub too_wide : List Entry
too_wide = opened ∷ entry 1 0 (call.RunJob (session 1) (wide 2 plain)) (reply.Refused (InvalidArgument which.MinSlots)) ∷ []

-- a machine on which no job can be suspended
abbrev pub no_suspend : Config
no_suspend = record node { suspend = false }

-- The first job in order that fits is launched, and a job that does not fit waits.
abbrev pub first_that_fit : List Entry
first_that_fit = opened ∷ run (wide 3 plain) 1 ∷ run (wide 2 plain) 2 ∷ run (wide 1 plain) 3 ∷ launched 1 1 3 ∷ launched 3 1 1 ∷ []

abbrev pub then_the_other : List Entry
then_the_other = exited 1 1 (Code 0) ∷ launched 2 1 2 ∷ []

-- Job 2 has the greater priority.
abbrev pub by_priority : List Entry
by_priority =
    opened ∷ run (record plain { priority = Some (negsuc 0) }) 1 ∷ run (record plain { priority = Some (pos 3) }) 2 ∷ launched 2 1 1 ∷ []

-- a job that has to be launched before 5
abbrev pub urgent : JobTemplate
urgent = record plain { deadline_time = Some 5 }

abbrev pub late_info : JobInfo
late_info = record {
  job = job 1;
  session = Some (codes "s");
  name = None;
  array = None;
  index = None;
  state = Failed;
  slots = None;
  queue = codes "default";
  wallclock = None;
  submitted = 0;
  dispatched = None;
  finished = Some 5;
  exit = None;
  note = note.PastDeadline;
}

-- a job that waits at its deadline fails
abbrev pub past_deadline : List Entry
past_deadline = opened ∷ run urgent 1 ∷ entry 1 5 (call.GetInfo (session 1) (job 1)) (reply.Info late_info) ∷ []

-- A job that runs at the end of its limit of 3 seconds is asked to end, and runs on.
abbrev pub past_limit : List Entry
past_limit =
    opened ∷ run plain 1 ∷ launched 1 1 1 ∷ started 1 ∷
    entry 1 3 (call.GetState (session 1) (job 1)) (reply.State Running) ∷
    entry 3 3 call.TakeSignal (reply.Signal (record { job = job 1; attempt = 1; kind = signal.Kill })) ∷ []
