-- How much a call may add to the journal's size, beside its entry: our profile.
use Rattle.std.specs.Prelude.{ℕ, Bool, true, false, ◌&&◌, List, length, filter}
use Rattle.drmaa_types.specs.declared.states.Control.{Control}
use Rattle.drmaa_types.specs.declared.states.Control.TheVariants.{Suspend, Resume, Hold, Release, Terminate}
use Rattle.drmaa_model.specs.declared.calls.Call.{Call}
use Rattle.drmaa_model.specs.declared.calls.Call.TheVariants as call
use Rattle.drmaa_model.specs.declared.calls.Report.{Report}
use Rattle.drmaa_model.specs.declared.calls.Report.TheVariants as report
use Rattle.drmaa_model.specs.declared.calls.Target.{Target}
use Rattle.drmaa_model.specs.declared.rows.Row.{Row}
use Rattle.drmaa_model.specs.Controlling.{is_controlled}
use Rattle.drmaa_model.specs.Submitting.{index_count}
use Rattle.drmaa_model.specs.World.{World}

-- the report is one of a start or of an end
abbrev pub is_of_run : Report → Bool
is_of_run (report.Started job attempt) = true
is_of_run (report.StartFailed job attempt) = true
is_of_run (report.Exited job attempt exit) = true
is_of_run (report.ExitUnknown job attempt) = true
is_of_run (report.SignalDone job attempt kind) = false
is_of_run (report.SignalFailed job attempt kind) = false

-- a job that is controlled so has a change for which no room was promised
abbrev pub is_growing : Control → Bool
is_growing Suspend = true
is_growing Resume = true
is_growing Hold = true
is_growing Release = true
is_growing Terminate = false

-- the jobs on which such a call acts
abbrev pub grown : Target → Control → List Row → ℕ
grown t what rows = length (filter (λ (row : Row). is_growing what && is_controlled t what row) rows)

-- A job that is submitted is promised room for one change, and one that is launched for its reports. Any other call may add nothing:
-- that is what it is held to (`a_report_finds_room`).
abbrev pub growth : World → Call → ℕ
growth w (call.RunJob session t) = 1
growth w (call.RunBulk session t indices) = index_count indices
growth w (call.Control session meant what) = grown meant what w.plan.rows
growth w call.TakeLaunch = 4
growth w _ = 0
