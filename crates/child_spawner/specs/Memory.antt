-- What the spawner that starts nothing, and its children, are seen as: our profile.
use Rattle.std.specs.Prelude.{ℕ, Bool, List, Option, Some, None, if◌then◌else◌}
use Rattle.child_spawner.specs.declared.fates.Asked.{Asked}
use Rattle.child_spawner.specs.declared.fates.Fate.{Fate}
use Rattle.child_spawner.specs.Children.{Told}

-- a child: what it tells, and how many polls, signals and faults it counted
pub record Played : Type 0 where
  pub told : Told
  pub polls : ℕ
  pub signals : ℕ
  pub faults : ℕ

-- the spawner: the fates of its starts, the starts that are to fail, how many starts and faults it counted,
-- what was asked of it, and whether it tells that
pub record Staged : Type 0 where
  pub fates : List Fate
  pub failing : List ℕ
  pub starts : ℕ
  pub faults : ℕ
  pub asked : List Asked
  pub tells : Bool

-- the list asked, where it is told
abbrev pub told_list : Staged → Option (List Asked)
told_list s = if s.tells then Some s.asked else None
