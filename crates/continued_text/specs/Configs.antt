-- Whether a script may still come to the machine and the queues of a journal: our profile.
use Rattle.std.specs.Prelude.{◌==◌, ◌&&◌, not, Bool, true, false, List, [], ◌∷◌, length}
use Rattle.std.specs.Str.{bytes_eq}
use Rattle.drmaa_types.specs.declared.queues.QueueSpec.{QueueSpec}
use Rattle.drmaa_model.specs.declared.configs.Config.{Config}

-- one name and one limit
abbrev pub is_same_queue : QueueSpec → QueueSpec → Bool
is_same_queue p q = bytes_eq p.name q.name && (p.limit == q.limit)

-- these queues are the first of those
abbrev pub are_first : List QueueSpec → List QueueSpec → Bool
are_first [] qs = true
are_first (p ∷ ps) [] = false
are_first (p ∷ ps) (q ∷ qs) = is_same_queue p q && are_first ps qs

-- both are true, or neither
abbrev pub is_same_answer : Bool → Bool → Bool
is_same_answer true b = b
is_same_answer false b = not b

-- the machines are one, their queues apart
abbrev pub is_same_machine : Config → Config → Bool
is_same_machine c d = (c.slots == d.slots) && bytes_eq c.name d.name && is_same_answer c.suspend d.suspend && (c.journal == d.journal)

-- the first machine is the second with the first of its queues
abbrev pub is_begun : Config → Config → Bool
is_begun c d = is_same_machine c d && are_first c.queues d.queues

-- the machines have as many queues
abbrev pub has_all_queues : Config → Config → Bool
has_all_queues c d = length c.queues == length d.queues
