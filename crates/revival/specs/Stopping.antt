-- What becomes of a world whose started jobs end, and how far they have ended, by number: our profile.
use Rattle.std.specs.Prelude.{◌≡◌, ℕ, ◌≤◌, Bool, false, not, ◌&&◌, nat_lt, List, [], ◌++◌, map, filter, Option, if◌then◌else◌}
use Rattle.std.specs.List.{AllByRecursion}
use Rattle.std.specs.Option.{option_map, option_map_or}
use Rattle.drmaa_types.specs.States.{is_started, rerun_code}
use Rattle.drmaa_types.specs.declared.identifiers.JobId.{JobId}
use Rattle.drmaa_types.specs.declared.states.Exit.TheVariants.{Code}
use Rattle.drmaa_model.specs.declared.calls.Call.{Call}
use Rattle.drmaa_model.specs.declared.calls.Call.TheVariants as call
use Rattle.drmaa_model.specs.declared.courses.Course.{Course}
use Rattle.drmaa_model.specs.declared.entries.Entry.{Entry}
use Rattle.drmaa_model.specs.declared.replies.Reply.TheVariants as reply
use Rattle.drmaa_model.specs.declared.rows.Row.{Row}
use Rattle.drmaa_model.specs.declared.rows.Started.{Started}
use Rattle.drmaa_model.specs.Courses.{exited, lost}
use Rattle.drmaa_model.specs.Events.{started_from, started_of}
use Rattle.drmaa_model.specs.Fit.{number_of}
use Rattle.drmaa_model.specs.History.{Ledger, IsLegal, now_of}
use Rattle.drmaa_model.specs.Rows.{row_of}
use Rattle.drmaa_model.specs.Size.{size}
use Rattle.drmaa_model.specs.Time.{advance}
use Rattle.drmaa_model.specs.World.{World}
use Rattle.revival.specs.Stops.{reruns, stop, is_started_row, stops}

-- ---- what becomes of the world

-- no job is started
abbrev pub NoneStarted : List Row → Type 0
NoneStarted rows = AllByRecursion (λ (row : Row). is_started_row row ≡ false) rows

-- this job was started
abbrev pub was_started : JobId → List Row → Bool
was_started job rows = option_map_or is_started_row (row_of job rows) false

-- What becomes of a world in which all started jobs have ended.
pub record Keeps (w v : World) : Type 0 where
  pub stopped : NoneStarted v.plan.rows
  pub orders : v.plan.orders ≡ []
  -- each other job is as it was, and no job comes or goes
  pub rows : (job : JobId) → was_started job w.plan.rows ≡ false → row_of job v.plan.rows ≡ row_of job w.plan.rows
  pub jobs : map number_of v.plan.rows ≡ map number_of w.plan.rows
  pub sessions : v.sessions ≡ w.sessions
  pub reservations : v.plan.reservations ≡ w.plan.reservations
  pub moment : v.plan.moment ≡ w.plan.moment
  pub small : size v ≤ size w

-- all started jobs have ended since a ledger
pub record IsStopped (first ledger : Ledger) : Type 0 where
  pub is : ledger ≡ record first { history = first.history ++ stops (now_of first) }
  pub legal : IsLegal ledger.config ledger.history
  pub keeps : Keeps (now_of first) (now_of ledger)

-- ---- how far they have ended

-- the course of a job whose end was reported
abbrev pub course_after_stop : ℕ → Row → Course
course_after_stop moment row =
    if reruns row then exited moment (Code rerun_code) row.wants.rerunnable row.course
    else lost moment row.wants.rerunnable row.course

-- a job that was started, of a number below this one
abbrev pub is_over_below : ℕ → Row → Bool
is_over_below number row = is_started row.course.state && nat_lt row.job.0 number

-- its end was reported
abbrev pub over_below : ℕ → ℕ → Row → Row
over_below number moment row = if is_over_below number row then record row { course = course_after_stop moment row } else row

-- the reports of these ends
abbrev pub stops_below : ℕ → World → List Entry
stops_below number w = map (stop w.plan.moment) (filter (is_over_below number) w.plan.rows)

-- The started jobs below this number have ended, and nothing else has changed.
pub record AreOver (number : ℕ) (w v : World) : Type 0 where
  pub rows : v.plan.rows ≡ map (over_below number w.plan.moment) w.plan.rows
  pub reservations : v.plan.reservations ≡ w.plan.reservations
  pub moment : v.plan.moment ≡ w.plan.moment
  pub sessions : v.sessions ≡ w.sessions
  pub small : size v ≤ size w

-- the report of its end, by what is told of a started job
abbrev pub told_call : Started → Call
told_call told =
    if told.rerunnable && not told.asked then call.Exited told.job told.attempt (Code rerun_code)
    else call.ExitUnknown told.job told.attempt

abbrev pub told_stop : ℕ → Started → Entry
told_stop moment told = record { caller = record { 0 = 0 }; at = moment; call = told_call told; reply = reply.Unit }

-- the machine tells so of the first started job of a number on, at a moment
abbrev pub Finds : ℕ → ℕ → Ledger → Option Started → Type 0
Finds at from ledger found = found ≡ option_map started_of (started_from from (advance (now_of ledger) at).plan.rows)

-- What was served since a ledger: these ends.
pub record IsStopping (number : ℕ) (first ledger : Ledger) : Type 0 where
  pub is : ledger ≡ record first { history = first.history ++ stops_below number (now_of first) }
  pub legal : IsLegal ledger.config ledger.history
  pub over : AreOver number (now_of first) (now_of ledger)
