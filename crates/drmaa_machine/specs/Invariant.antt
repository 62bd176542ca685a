-- What every machine keeps.
use Rattle.std.specs.Prelude.{◌≡◌, ◌≤◌}
use Rattle.drmaa_types.specs.Moments.{greatest}
use Rattle.drmaa_model.specs.History.{Ledger, IsLegal, replay}
use Rattle.machine_readings.specs.declared.store.Store.{Store}
use Rattle.machine_readings.specs.Stores.{world_of, IsStore}

-- what a store was made with, and what it has served
abbrev pub ledger_of : Store → Ledger
ledger_of s = record { config = s.config; history = s.history.items }

-- Its entries are legal, and its store is of the world that they lead to.
pub record IsMachine (s : Store) : Type 0 where
  pub store : IsStore s
  pub legal : IsLegal s.config s.history.items
  pub replayed : world_of s ≡ replay s.config s.history.items
  pub moment : s.core.plan.moment ≤ greatest
