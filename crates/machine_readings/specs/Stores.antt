-- The world that a store is of, and what every store keeps.
use Rattle.std.specs.Prelude.{◌+◌, ◌≤◌, ℕ, vec_len, vec_capacity}
use Rattle.drmaa_model.specs.Consistent.{IsConsistent}
use Rattle.drmaa_model.specs.Size.{size}
use Rattle.drmaa_model.specs.Time.{advance}
use Rattle.drmaa_model.specs.World.{World}
use Rattle.scheduler_core.specs.Facts.{reports_to_come}
use Rattle.machine_readings.specs.declared.store.Store.{Store}

-- The world of a store. The one place that knows how it is kept.
abbrev pub world_of : Store → World
world_of s = record {
  config = s.config;
  plan = s.core.plan;
  sessions = s.sessions;
  entries = s.entries;
  registrations = s.registrations;
}

-- the world that has come to a moment
abbrev pub world_at : ℕ → Store → World
world_at at s = advance (world_of s) at

-- What every store keeps: its world is consistent, and there is memory for the entries of the reports that are to come.
pub record IsStore (s : Store) : Type 0 where
  pub consistent : IsConsistent (world_of s)
  pub within : size (world_of s) ≤ s.config.journal
  pub journal : s.config.journal ≤ 4_000_000
  pub room : vec_len s.history + reports_to_come s.core.plan.rows ≤ vec_capacity s.history
