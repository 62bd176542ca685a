-- What contracts see of a machine.
use Rattle.std.specs.Prelude.{ℕ}
use Rattle.drmaa_model.specs.History.{Ledger}

pub record View : Type 0 where
  -- what it was made with, and what it has served
  pub ledger : Ledger
  -- how many entries and changes more it has room for
  pub spare : ℕ
