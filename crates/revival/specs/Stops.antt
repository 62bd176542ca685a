-- How the jobs end whose processes are gone, as they are in a new process of the scheduler: our profile.
use Rattle.std.specs.Prelude.{ℕ, Bool, ◌&&◌, List, map, filter, if◌then◌else◌}
use Rattle.drmaa_types.specs.States.{is_started, rerun_code}
use Rattle.drmaa_types.specs.declared.states.Exit.TheVariants.{Code}
use Rattle.drmaa_model.specs.declared.calls.Call.{Call}
use Rattle.drmaa_model.specs.declared.calls.Call.TheVariants as call
use Rattle.drmaa_model.specs.declared.entries.Entry.{Entry}
use Rattle.drmaa_model.specs.declared.replies.Reply.TheVariants as reply
use Rattle.drmaa_model.specs.declared.rows.Row.{Row}
use Rattle.drmaa_model.specs.Courses.{is_unasked}
use Rattle.drmaa_model.specs.World.{World}

-- a job is run again: it may be, and no kill of it was asked
abbrev pub reruns : Row → Bool
reruns row = row.wants.rerunnable && is_unasked row.course.kill

-- how the end of a started job is reported: with the exit code that asks to run it again, or else as one that can't be learnt
abbrev pub stop_call : Row → Call
stop_call row =
    if reruns row then call.Exited row.job row.course.attempt (Code rerun_code)
    else call.ExitUnknown row.job row.course.attempt

abbrev pub stop : ℕ → Row → Entry
stop moment row = record { caller = record { 0 = 0 }; at = moment; call = stop_call row; reply = reply.Unit }

-- the job was launched, and its end is not reported
abbrev pub is_started_row : Row → Bool
is_started_row row = is_started row.course.state

-- At the world's moment and by caller 0, one entry for each started job, by number, answered ok.
abbrev pub stops : World → List Entry
stops w = map (stop w.plan.moment) (filter is_started_row w.plan.rows)
