-- The jobs among which all are on which time acts by a moment: our profile.
use Rattle.std.specs.Prelude.{◌≡◌, ℕ, List, ◌++◌}
use Rattle.std.specs.List.{AllByRecursion}
use Rattle.drmaa_model.specs.declared.rows.Row.{Row}
use Rattle.drmaa_model.specs.Plan.{Plan}
use Rattle.plan_book.specs.Book.{course_then}
use Rattle.plan_book.specs.Quiet.{block_of, IsOutside}
use Rattle.plan_book.specs.declared.rows.Places.{Places}

-- none of the jobs is of these blocks
abbrev pub AreOutside : Places → List Row → Type 0
AreOutside blocks rows = AllByRecursion (λ (row : Row). IsOutside blocks (block_of row.job.0)) rows

-- these are the jobs, but for some before and behind them of which none is of these blocks
pub record HasAllOf (blocks : Places) (rows : List Row) (part : List Row) : Type 0 where
  pub before : List Row
  pub behind : List Row
  pub none_before : AreOutside blocks before
  pub none_behind : AreOutside blocks behind
  pub parts : rows ≡ before ++ (part ++ behind)

-- each job has at the moment the course that it has now
abbrev pub AreStill : ℕ → Plan → List Row → Type 0
AreStill at p rows = AllByRecursion (λ (row : Row). course_then at p row ≡ row.course) rows

-- these are the plan's jobs, but for some before and behind them, each of which has at the moment the course that it has now
pub record HasAllDue (at : ℕ) (p : Plan) (part : List Row) : Type 0 where
  pub before : List Row
  pub behind : List Row
  pub still_before : AreStill at p before
  pub still_behind : AreStill at p behind
  pub parts : p.rows ≡ before ++ (part ++ behind)
