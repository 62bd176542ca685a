-- Which jobs a filter lets through: GFD.231, JobInfo as a filter; the comparisons are our profile.
use Rattle.std.specs.Prelude.{ℕ, Bool, true, false, ◌&&◌, ◌==◌, nat_le, Option, Some, None}
use Rattle.std.specs.Option.{option_and_then}
use Rattle.std.specs.Str.{bytes_eq}
use Rattle.drmaa_types.specs.States.{is_state}
use Rattle.drmaa_types.specs.declared.filters.JobFilter.{JobFilter}
use Rattle.drmaa_types.specs.declared.identifiers.JobId.{JobId}
use Rattle.drmaa_types.specs.declared.infos.JobInfo.{JobInfo}
use Rattle.drmaa_types.specs.declared.states.Exit.{Exit}
use Rattle.drmaa_types.specs.declared.states.Exit.TheVariants.{Code, Signal}

-- the filter that lets every job through
abbrev pub all : JobFilter
all = record { job = None; name = None; state = None; slots = None; queue = None; status = None; wallclock = None; submitted = None; dispatched = None; finished = None }

-- An unset field lets everything through. A set one asks that the info has a value there, which agrees with it.
abbrev pub agrees : {A : Type 0} → (A → A → Bool) → Option A → Option A → Bool
agrees same None there = true
agrees same (Some wanted) None = false
agrees same (Some wanted) (Some value) = same wanted value

abbrev pub is_job : JobId → JobId → Bool
is_job a b = a.0 == b.0

abbrev pub is_number : ℕ → ℕ → Bool
is_number a b = a == b

-- the exit code, where the job ended by one
abbrev pub code_of : Exit → Option ℕ
code_of (Code code) = Some code
code_of (Signal number) = None

-- job, name and state are equal
abbrev pub matches_names : JobFilter → JobInfo → Bool
matches_names f info =
    agrees is_job f.job (Some info.job) && agrees bytes_eq f.name info.name && agrees is_state f.state (Some info.state)

-- slots, queue and exit code are equal
abbrev pub matches_counts : JobFilter → JobInfo → Bool
matches_counts f info =
    agrees is_number f.slots info.slots && agrees bytes_eq f.queue (Some info.queue) &&
    agrees is_number f.status (option_and_then code_of info.exit)

-- The wall-clock time is at least that wanted; the job was submitted, dispatched and finished at or after the moments wanted.
abbrev pub matches_times : JobFilter → JobInfo → Bool
matches_times f info =
    agrees nat_le f.wallclock info.wallclock && agrees nat_le f.submitted (Some info.submitted) &&
    agrees nat_le f.dispatched info.dispatched && agrees nat_le f.finished info.finished

-- every set field agrees
abbrev pub matches : JobFilter → JobInfo → Bool
matches f info = matches_names f info && matches_counts f info && matches_times f info
