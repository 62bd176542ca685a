-- The jobs among which all are that a call is for: our profile.
use Rattle.std.specs.Prelude.{◌≡◌, false, List, ◌++◌}
use Rattle.std.specs.List.{AllByRecursion}
use Rattle.drmaa_model.specs.declared.calls.Target.{Target}
use Rattle.drmaa_model.specs.declared.rows.Row.{Row}
use Rattle.drmaa_model.specs.Targets.{is_meant}
use Rattle.plan_book.specs.declared.meant.MeantRows.{MeantRows}
use Rattle.plan_book.specs.Blocks.{rows_in}

-- none of the jobs is meant
abbrev pub NoneMeant : Target → List Row → Type 0
NoneMeant t rows = AllByRecursion (λ (row : Row). is_meant t row ≡ false) rows

-- the rows of all parts
abbrev pub rows_of : MeantRows → List Row
rows_of meant = meant.alone.now ++ rows_in meant.blocks.now

-- these are the jobs, but for some before and behind them of which none is meant
pub record HasAllMeant (t : Target) (rows : List Row) (part : List Row) : Type 0 where
  pub before : List Row
  pub behind : List Row
  pub none_before : NoneMeant t before
  pub none_behind : NoneMeant t behind
  pub parts : rows ≡ before ++ (part ++ behind)
