-- The runs of a history: our profile.
use Rattle.std.specs.Prelude.{ℕ, ◌++◌, ◌&&◌, ◌==◌, max, List, [], ◌∷◌, Option, Some, None, option_to_list, if◌then◌else◌}
use Rattle.std.specs.Option.{option_map}
use Rattle.drmaa_model.specs.declared.calls.Call.{Call}
use Rattle.drmaa_model.specs.declared.calls.Call.TheVariants as call
use Rattle.drmaa_model.specs.declared.entries.Entry.{Entry}
use Rattle.drmaa_model.specs.declared.replies.Launch.{Launch}
use Rattle.drmaa_model.specs.declared.replies.Reply.{Reply}
use Rattle.drmaa_model.specs.declared.replies.Reply.TheVariants as reply
use Rattle.run_views.specs.declared.runs.EndReport.{EndReport}
use Rattle.run_views.specs.declared.runs.Ending.TheVariants.{Exited, Unknown, NotStarted}
use Rattle.run_views.specs.declared.runs.Run.{Run}
use Rattle.run_views.specs.declared.runs.RunEnd.{RunEnd}
use Rattle.run_views.specs.declared.runs.RunEvent.{RunEvent}
use Rattle.run_views.specs.declared.runs.RunEvent.TheVariants.{Launched, Ended}

-- ---- what one entry tells

-- the run that a launch begins
abbrev pub begun : ℕ → Launch → Run
begun at launch = record { job = launch.job; attempt = launch.attempt; launched = at; slots = launch.slots; words = launch.words; end = None }

-- the end of a run that a call reports
abbrev pub reported : ℕ → Call → Option EndReport
reported at (call.StartFailed job attempt) = Some (record { job = job; attempt = attempt; end = record { at = at; how = NotStarted } })
reported at (call.Exited job attempt exit) = Some (record { job = job; attempt = attempt; end = record { at = at; how = Exited exit } })
reported at (call.ExitUnknown job attempt) = Some (record { job = job; attempt = attempt; end = record { at = at; how = Unknown } })
reported at other = None

-- what a call and its reply tell at a moment: a launch begins a run, and an accepted report of an end ends one
abbrev pub event_in : ℕ → Call → Reply → Option RunEvent
event_in at c (reply.Launch launch) = Some (Launched (begun at launch))
event_in at c reply.Unit = option_map Ended (reported at c)
event_in at c other = None

-- What entries tell, in order, where time has come to a moment before the first of them: it never falls.
abbrev pub events_from : ℕ → List Entry → List RunEvent
events_from now [] = []
events_from now (entry ∷ later) =
    option_to_list (event_in (max now entry.at) entry.call entry.reply) ++ events_from (max now entry.at) later

-- ---- runs

-- the end that is first reported of this attempt of this job
abbrev pub end_among : ℕ → ℕ → List RunEvent → Option RunEnd
end_among job attempt [] = None
end_among job attempt (Launched run ∷ later) = end_among job attempt later
end_among job attempt (Ended report ∷ later) =
    if (report.job.0 == job) && (report.attempt == attempt) then Some report.end else end_among job attempt later

-- each run that begins, with the end that is reported of it later
abbrev pub paired : List RunEvent → List Run
paired [] = []
paired (Launched run ∷ later) = record run { end = end_among run.job.0 run.attempt later } ∷ paired later
paired (Ended report ∷ later) = paired later

-- The runs of a history, in the order of their launches.
abbrev pub runs_of : List Entry → List Run
runs_of entries = paired (events_from 0 entries)
