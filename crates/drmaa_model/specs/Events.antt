-- The moments at which time may change something, and the jobs that are started: our profile.
use Rattle.std.specs.Prelude.{ℕ, suc, ◌-◌, Bool, false, ◌&&◌, ◌||◌, ◌==◌, nat_le, List, find, Option}
use Rattle.std.specs.List.{list_any}
use Rattle.std.specs.Option.{option_map_or}
use Rattle.drmaa_types.specs.Moments.{greatest}
use Rattle.drmaa_types.specs.States.{is_waiting, is_started}
use Rattle.drmaa_types.specs.declared.moments.End.{End}
use Rattle.drmaa_types.specs.declared.moments.End.TheVariants.{At, Never}
use Rattle.drmaa_model.specs.declared.reservations.Accepted.{Accepted}
use Rattle.drmaa_model.specs.declared.rows.Row.{Row}
use Rattle.drmaa_model.specs.declared.rows.Started.{Started}
use Rattle.drmaa_model.specs.Courses.{is_asked}
use Rattle.drmaa_model.specs.Load.{first_from}
use Rattle.drmaa_model.specs.Plan.{Plan}

-- ---- events

-- a moment, where one is set, is this one
abbrev pub is_set_to : ℕ → Option ℕ → Bool
is_set_to x set = option_map_or (λ (moment : ℕ). moment == x) set false

-- an end is at this moment
abbrev pub is_end_at : ℕ → End → Bool
is_end_at x (At end) = end == x
is_end_at x Never = false

-- this is the startTime or the deadlineTime of a job that waits
abbrev pub is_wanted_at : ℕ → Row → Bool
is_wanted_at x row = is_waiting row.course.state && (is_set_to x row.wants.start || is_set_to x row.wants.deadline)

-- this is that, or the planned end of a job that is started
abbrev pub is_row_event : ℕ → Row → Bool
is_row_event x row = is_wanted_at x row || option_map_or (is_end_at x) row.course.planned false

-- a reservation starts or ends at this moment
abbrev pub bounds_at : ℕ → Accepted → Bool
bounds_at x a = (a.from == x) || (a.until == x)

-- time may change something at this moment
abbrev pub is_event : Plan → ℕ → Bool
is_event p x = list_any (is_row_event x) p.rows || list_any (bounds_at x) p.reservations

-- the least moment after this one that meets a test
abbrev pub first_after : ℕ → (ℕ → Bool) → Option ℕ
first_after after test = first_from (suc after) (greatest - after) test

-- The least moment after this one at which time may change something.
abbrev pub next_event : Plan → ℕ → Option ℕ
next_event p after = first_after after (is_event p)

-- ---- started jobs

abbrev pub is_started_from : ℕ → Row → Bool
is_started_from number row = is_started row.course.state && nat_le number row.job.0

-- The started job of least number that is this one or above it; the jobs stand in order of number.
abbrev pub started_from : ℕ → List Row → Option Row
started_from number rows = find (is_started_from number) rows

-- what is told of it
abbrev pub started_of : Row → Started
started_of row = record { job = row.job; attempt = row.course.attempt; rerunnable = row.wants.rerunnable; asked = is_asked row.course.kill }
