-- What the two tables inside are seen as: their rows in order, and how many more fit without taking memory.
use Rattle.std.specs.Prelude.{ℕ, List}
use Rattle.session_table.specs.Sessions.{NamedSession, ValidNumber}

pub record NamedRows : Type 0 where
  pub rows : List NamedSession
  pub spare : ℕ

pub record NumberRows : Type 0 where
  pub rows : List ValidNumber
  pub spare : ℕ
