-- Jobs that are open, behind those at the front that are over: our profile.
use Rattle.std.specs.Prelude.{◌≡◌, Bool, true, false, not, ◌&&◌, ◌++◌, is_none, int_lt, ℤ, List}
use Rattle.std.specs.List.{AllByRecursion}
use Rattle.drmaa_types.specs.States.{is_waiting, is_started}
use Rattle.drmaa_model.specs.declared.rows.Row.{Row}

-- the job neither waits nor is started, and has no planned end
abbrev pub is_over : Row → Bool
is_over row = not (is_waiting row.course.state) && not (is_started row.course.state) && is_none row.course.planned

-- these are the jobs, but for some at the front that are all over
pub record AreOpen (rows : List Row) (rest : List Row) : Type 0 where
  pub front : List Row
  pub over : AllByRecursion (λ (row : Row). is_over row ≡ true) front
  pub parts : rows ≡ front ++ rest

-- no job has a greater priority
abbrev pub IsPriorityBound : List Row → ℤ → Type 0
IsPriorityBound rows greatest = AllByRecursion (λ (row : Row). int_lt greatest row.wants.priority ≡ false) rows
