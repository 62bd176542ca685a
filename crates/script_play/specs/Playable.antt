-- Which scripts can be played.
use Rattle.std.specs.Prelude.{◌≡◌, ◌≤◌, true, length}
use Rattle.drmaa_types.specs.Queues.{are_queues}
use Rattle.script_text.specs.declared.scripts.Script.{Script}

-- A machine can be made by the script's configuration, and its callers can be numbered.
pub record IsPlayable (s : Script) : Type 0 where
  pub least_slots : 1 ≤ s.config.slots
  pub most_slots : s.config.slots ≤ 65_535
  pub least_journal : 1 ≤ s.config.journal
  pub most_journal : s.config.journal ≤ 4_000_000
  pub queues : are_queues s.config.slots s.config.queues ≡ true
  pub few : length s.clients ≤ 32
