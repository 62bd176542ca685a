-- Readers and writers that count their faults: our profile.
use Rattle.std.specs.Prelude.{ℕ, Bool}

-- what a `StdSource` is seen as: the reader under it, and how many faults there were
pub record Adapted (R : Type 0) : Type 0 where
  pub inner : R
  pub faults : ℕ

-- what a `StdSink` is seen as: the writer under it, how many faults there were, and whether it was finished after the last write
pub record AdaptedSink (W : Type 0) : Type 0 where
  pub inner : W
  pub faults : ℕ
  pub finished : Bool
