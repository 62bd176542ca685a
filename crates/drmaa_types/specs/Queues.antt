-- The queues of a machine: GFD.231 has them by name; limits and their order are our profile.
use Rattle.std.specs.Prelude.{ℕ, suc, ◌-◌, Bool, true, not, ◌==◌, ◌&&◌, nat_le, List, [], ◌∷◌, Option, None, length, slice_get, if◌then◌else◌}
use Rattle.std.specs.List.{list_all, list_any, position}
use Rattle.std.specs.Option.{option_map}
use Rattle.std.specs.Str.{bytes_eq}
use Rattle.drmaa_types.specs.declared.queues.QueueSpec.{QueueSpec}

-- the queue at a place, counted from 1
unfoldable pub queue_at : ℕ → List QueueSpec → Option QueueSpec
queue_at place queues = if place == 0 then None else slice_get queues (place - 1)

-- a queue has this name
abbrev pub is_named : List ℕ → QueueSpec → Bool
is_named name queue = bytes_eq name queue.name

-- the place of the queue of this name
abbrev pub place_of : List ℕ → List QueueSpec → Option ℕ
place_of name queues = option_map suc (position (is_named name) queues)

-- a queue of a machine with so many slots
abbrev pub is_queue : ℕ → QueueSpec → Bool
is_queue slots queue =
    nat_le 1 (length queue.name) && nat_le (length queue.name) 255 && (nat_le 1 queue.limit && nat_le queue.limit slots)

-- no name stands twice
abbrev pub are_distinct : List QueueSpec → Bool
are_distinct [] = true
are_distinct (first ∷ others) = not (list_any (is_named first.name) others) && are_distinct others

abbrev pub most_queues : ℕ
most_queues = 16

-- The queues that a machine with so many slots may have.
abbrev pub are_queues : ℕ → List QueueSpec → Bool
are_queues slots queues = nat_le (length queues) most_queues && list_all (is_queue slots) queues && are_distinct queues
