-- Reported ends of runs, as a table by job and attempt.
use Rattle.std.specs.Prelude.{◌≡◌, ℕ, ◌&&◌, nat_eq, Bool, List, Option, Some, if◌then◌else◌}
use Rattle.std.specs.Map.{lookup}
use Rattle.run_views.specs.declared.runs.EndReport.{EndReport}
use Rattle.run_views.specs.declared.runs.RunEnd.{RunEnd}
use Rattle.run_views.specs.declared.runs.RunEvent.{RunEvent}
use Rattle.run_views.specs.Runs.{end_among}

abbrev pub is_key : ℕ → ℕ → ℕ × ℕ → Bool
is_key job attempt key = nat_eq job key.0 && nat_eq attempt key.1

-- the end of this attempt of this job
abbrev pub end_in : List ((ℕ × ℕ) × RunEnd) → ℕ → ℕ → Option RunEnd
end_in ends job attempt = lookup (is_key job attempt) ends

-- the ends are those before, and that of a report
abbrev pub Notes : List ((ℕ × ℕ) × RunEnd) → EndReport → List ((ℕ × ℕ) × RunEnd) → Type 0
Notes old report new = (job attempt : ℕ)
    → end_in new job attempt ≡ (if is_key report.job.0 report.attempt (job, attempt) then Some report.end else end_in old job attempt)

-- the ends are the first ones that these events tell
abbrev pub Shows : List ((ℕ × ℕ) × RunEnd) → List RunEvent → Type 0
Shows ends events = (job attempt : ℕ) → end_in ends job attempt ≡ end_among job attempt events
