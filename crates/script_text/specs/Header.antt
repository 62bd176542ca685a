-- The first lines of a script: `machine SLOTS TEXT suspend` or `machine SLOTS TEXT nosuspend`, and `queue TEXT LIMIT` for each queue.
-- Our profile.
use Rattle.std.specs.Prelude.{ℕ, ◌^◌, ◌&&◌, nat_le, Bool, true, false, List, ◌++◌, length, codes}
use Rattle.drmaa_types.specs.declared.queues.QueueSpec.{QueueSpec}
use Rattle.drmaa_model.specs.declared.configs.Config.{Config}
use Rattle.text_codec.specs.Formats.{Format, behind, number, pair, one_of, checked}
use Rattle.text_codec.specs.Quotes.{text}
use Rattle.text_codec.specs.Queues.{queue}
use Rattle.script_text.specs.declared.header.TheConstants.{SUSPENDS}

-- whether jobs can be suspended
abbrev pub suspend_word : Bool → List ℕ
suspend_word true = codes "suspend"
suspend_word false = codes "nosuspend"

unfoldable pub suspend : Format Bool
suspend = one_of suspend_word SUSPENDS

-- from 1 to 65,535 slots, and a name of 1 to 255 bytes
abbrev pub is_machine : ℕ → List ℕ → Bool
is_machine slots name = nat_le 1 slots && (nat_le slots 65_535 && (nat_le 1 (length name) && nat_le (length name) 255))

unfoldable pub header : Format (ℕ × (List ℕ × Bool))
header = checked (λ m. is_machine m.0 m.1.0) (behind (codes "machine ") (pair (number (2 ^ 32)) (pair text suspend)))

-- the line of a queue
abbrev pub queue_text : QueueSpec → List ℕ
queue_text q = codes "queue " ++ queue.spell q

-- the configuration of a machine with these queues; a journal has at most 4,000,000
abbrev pub config_of : ℕ × (List ℕ × Bool) → List QueueSpec → Config
config_of m queues = record { slots = m.0; name = m.1.0; suspend = m.1.1; journal = 4_000_000; queues = queues }
