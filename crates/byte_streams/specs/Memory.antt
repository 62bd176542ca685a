-- Sources and sinks in memory, whose faults are named beforehand: our profile.
use Rattle.std.specs.Prelude.{ℕ, min, List, Bool}

-- what a `MemorySource` is seen as: the bytes left, the numbers of the reads that fail, counted from 1, and how many reads and faults there were
pub record Reading : Type 0 where
  pub left : List ℕ
  pub failing : List ℕ
  pub reads : ℕ
  pub faults : ℕ

-- what a `MemorySink` is seen as: the bytes written and how many it can take, the numbers of the writes that fail, counted from 1, whether finishing fails, whether it was finished after the last write, and how many writes and faults there were
pub record Writing : Type 0 where
  pub written : List ℕ
  pub capacity : ℕ
  pub failing : List ℕ
  pub finish_fails : Bool
  pub finished : Bool
  pub writes : ℕ
  pub faults : ℕ

-- How many bytes one call moves: what was asked for, at most 64 and at most what there is.
abbrev pub moved_length : ℕ → ℕ → ℕ
moved_length asked there = min asked (min 64 there)
