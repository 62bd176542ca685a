-- Tables by number of what is told of jobs, and of the names of sessions.
use Rattle.std.specs.Prelude.{◌≡◌, ℕ, ◌==◌, nat_eq, List, Option, Some, if◌then◌else◌}
use Rattle.std.specs.Option.{unwrap_or}
use Rattle.std.specs.Map.{lookup}
use Rattle.drmaa_types.specs.declared.changes.Change.{Change}
use Rattle.drmaa_types.specs.declared.identifiers.SessionId.{SessionId}
use Rattle.drmaa_model.specs.declared.entries.Entry.{Entry}
use Rattle.run_views.specs.declared.submissions.Submission.{Submission}
use Rattle.run_views.specs.declared.told.JobEvent.{JobEvent}
use Rattle.run_views.specs.declared.told.Told.{Told}
use Rattle.run_views.specs.JobTexts.{reaped_row}
use Rattle.run_views.specs.Submitted.{name_after, name_of_session}
use Rattle.run_views.specs.Told.{nothing, after, tale_of, job_events}

-- ---- what is told of jobs

abbrev pub tale_in : List (ℕ × Told) → ℕ → Told
tale_in tales job = unwrap_or (lookup (nat_eq job) tales) nothing

-- the tales are those before, and an event has befallen its job
abbrev pub Hears : List (ℕ × Told) → JobEvent → List (ℕ × Told) → Type 0
Hears old event new = (job : ℕ) → tale_in new job ≡ (if event.job.0 == job then after event.what (tale_in old job) else tale_in old job)

-- the tales are what these events tell
abbrev pub ShowsTales : List (ℕ × Told) → List JobEvent → Type 0
ShowsTales tales events = (job : ℕ) → tale_in tales job ≡ tale_of job events

-- ---- names of sessions

abbrev pub name_in_table : List (ℕ × List ℕ) → ℕ → Option (List ℕ)
name_in_table names session = lookup (nat_eq session) names

-- the names are those before, and that of a session number
abbrev pub Names : List (ℕ × List ℕ) → ℕ → List ℕ → List (ℕ × List ℕ) → Type 0
Names old number name new = (session : ℕ) → name_in_table new session ≡ (if number == session then Some name else name_in_table old session)

-- the names are those before, and this one, where there is one, for this number
abbrev pub NamesIf : List (ℕ × List ℕ) → Option SessionId → Option (List ℕ) → List (ℕ × List ℕ) → Type 0
NamesIf old number name new = (session : ℕ) → name_in_table new session ≡ name_after session number name (name_in_table old session)

-- the names are those that these entries give
abbrev pub ShowsNames : List (ℕ × List ℕ) → List Entry → Type 0
ShowsNames names entries = (session : ℕ) → name_in_table names session ≡ name_of_session session entries

-- ---- both

pub record ShowsPast (tales : List (ℕ × Told)) (names : List (ℕ × List ℕ)) (entries : List Entry) (changes : List Change) : Type 0 where
  pub tales_are : ShowsTales tales (job_events entries changes)
  pub names_are : ShowsNames names entries

-- the row of a job that has been reaped, by these tables
abbrev pub row_by : ℕ → List (ℕ × Told) → List (ℕ × List ℕ) → Submission → List ℕ
row_by now tales names s = reaped_row now (name_in_table names s.session.0) (tale_in tales s.job) s
