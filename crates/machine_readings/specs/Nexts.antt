-- The job, or the reservation, that comes next from a number on, and those that come after it.
use Rattle.std.specs.Prelude.{◌≡◌, ℕ, ◌+◌, ◌<◌, ◌^◌, List, [], ◌∷◌, Option, Some, MatchOption}
use Rattle.std.specs.List.{AllByRecursion}
use Rattle.drmaa_model.specs.declared.reservations.Accepted.{Accepted}
use Rattle.drmaa_model.specs.declared.rows.Row.{Row}
use Rattle.drmaa_model.specs.Fit.{number_of, reservation_number}
use Rattle.drmaa_model.specs.Rows.{row_of}
use Rattle.scheduler_core.specs.declared.facts.RowFacts.{RowFacts}
use Rattle.scheduler_core.specs.Facts.{row_facts}
use Rattle.machine_readings.specs.Walks.{from_on}

-- the row that these facts are of is the first of those from the number on
pub record IsNextRow (rows : List Row) (from : ℕ) (facts : RowFacts) : Type 0 where
  pub row : Row
  pub facts_are : facts ≡ row_facts row
  pub found : row_of facts.job rows ≡ Some row
  pub split : from_on number_of from rows ≡ row ∷ from_on number_of (facts.job.0 + 1) rows
  pub small : facts.job.0 + 1 < 2 ^ 64

-- it is the next one, or there is none
abbrev pub AfterRow : List Row → ℕ → Option RowFacts → Type 0
AfterRow rows from o = MatchOption o (from_on number_of from rows ≡ []) (IsNextRow rows from)

-- it is the next one, or those from the number on all come after a last number
abbrev pub AfterRowThrough : List Row → ℕ → ℕ → Option RowFacts → Type 0
AfterRowThrough rows from last o = MatchOption o (AllByRecursion (λ (row : Row). last < row.job.0) (from_on number_of from rows)) (IsNextRow rows from)

-- the same of reservations
pub record IsNextAccepted (rs : List Accepted) (from : ℕ) (a : Accepted) : Type 0 where
  pub split : from_on reservation_number from rs ≡ a ∷ from_on reservation_number (a.reservation.0 + 1) rs
  pub small : a.reservation.0 + 1 < 2 ^ 64

abbrev pub AfterAccepted : List Accepted → ℕ → Option Accepted → Type 0
AfterAccepted rs from o = MatchOption o (from_on reservation_number from rs ≡ []) (IsNextAccepted rs from)
