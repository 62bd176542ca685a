-- What a history tells of how far each of its jobs has come, whether it is kept or not: our profile.
use Rattle.std.specs.Prelude.{ℕ, ◌-◌, ◌++◌, ◌==◌, max, List, [], ◌∷◌, map, Option, Some, None, option_to_list, slice_get, if◌then◌else◌}
use Rattle.std.specs.Option.{option_map}
use Rattle.drmaa_types.specs.declared.changes.Change.{Change}
use Rattle.drmaa_types.specs.declared.states.JobState.TheVariants.{Undetermined}
use Rattle.drmaa_model.specs.declared.calls.Call.{Call}
use Rattle.drmaa_model.specs.declared.entries.Entry.{Entry}
use Rattle.drmaa_model.specs.declared.replies.Launch.{Launch as JobLaunch}
use Rattle.drmaa_model.specs.declared.replies.Reply.{Reply}
use Rattle.drmaa_model.specs.declared.replies.Reply.TheVariants as reply
use Rattle.run_views.specs.declared.runs.EndReport.{EndReport}
use Rattle.run_views.specs.declared.told.Happening.{Happening}
use Rattle.run_views.specs.declared.told.Happening.TheVariants.{Launch, End, Change as ChangeTo}
use Rattle.run_views.specs.declared.told.JobEvent.{JobEvent}
use Rattle.run_views.specs.declared.told.Told.{Told}
use Rattle.run_views.specs.Runs.{reported}

-- ---- what befalls jobs

abbrev pub launched : ℕ → JobLaunch → JobEvent
launched at launch = record { job = launch.job; what = Launch at launch.slots }

abbrev pub ended : EndReport → JobEvent
ended report = record { job = report.job; what = End report.end.how }

-- what a call and its reply tell at a moment: a launch, or an accepted report of an end
abbrev pub told_in : ℕ → Call → Reply → Option JobEvent
told_in at c (reply.Launch launch) = Some (launched at launch)
told_in at c reply.Unit = option_map ended (reported at c)
told_in at c other = None

-- what entries tell, in order, where time has come to a moment before the first of them: it never falls
abbrev pub told_from : ℕ → List Entry → List JobEvent
told_from now [] = []
told_from now (entry ∷ later) =
    option_to_list (told_in (max now entry.at) entry.call entry.reply) ++ told_from (max now entry.at) later

-- the machine's moment at each entry
abbrev pub moments_from : ℕ → List Entry → List ℕ
moments_from now [] = []
moments_from now (entry ∷ later) = max now entry.at ∷ moments_from (max now entry.at) later

-- a change, at the moment of its entry
abbrev pub changed : List ℕ → Change → JobEvent
changed moments change = record { job = change.job; what = ChangeTo (slice_get moments (change.entry - 1)) change.to }

-- what the entries and the changes of a history tell of jobs
abbrev pub job_events : List Entry → List Change → List JobEvent
job_events entries changes = told_from 0 entries ++ map (changed (moments_from 0 entries)) changes

-- ---- what is told of one job

abbrev pub nothing : Told
nothing = record { state = Undetermined; changed = None; launched = None; slots = None; ending = None }

abbrev pub after : Happening → Told → Told
after (Launch at slots) t = record t { launched = Some at; slots = Some slots }
after (End ending) t = record t { ending = Some ending }
after (ChangeTo at to) t = record t { state = to; changed = at }

-- what is told of a job after these events, of those that befall it the last of each kind
abbrev pub tale_from : ℕ → Told → List JobEvent → Told
tale_from job t [] = t
tale_from job t (event ∷ later) = tale_from job (if event.job.0 == job then after event.what t else t) later

abbrev pub tale_of : ℕ → List JobEvent → Told
tale_of job events = tale_from job nothing events
