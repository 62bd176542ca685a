-- Between which numbers all jobs stand that are asked for: our profile.
use Rattle.std.specs.Prelude.{◌≡◌, ◌≤◌, true, Bool, List, ℕ, ◌<◌, ◌++◌}
use Rattle.std.specs.List.{AllByRecursion}
use Rattle.drmaa_model.specs.declared.rows.Row.{Row}
use Rattle.plan_book.specs.declared.spans.NumberRange.{NumberRange}

-- the range has the numbers of all jobs that pass the test
abbrev pub HasNumbersOf : (Row → Bool) → List Row → NumberRange → Type 0
HasNumbersOf test rows range = AllByRecursion (λ (row : Row). test row ≡ true → (range.first ≤ row.job.0) × (row.job.0 ≤ range.last)) rows

-- these are the jobs, but for some at the front whose numbers are lower
pub record HasAllFrom (number : ℕ) (rows : List Row) (part : List Row) : Type 0 where
  pub front : List Row
  pub lower : AllByRecursion (λ (row : Row). row.job.0 < number) front
  pub parts : rows ≡ front ++ part
