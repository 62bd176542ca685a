-- What groups of jobs have in use, as it is kept beside the jobs: our profile.
use Rattle.std.specs.Prelude.{◌≡◌, ℕ, ◌+◌, true, false, ◌==◌, List, sum_by, Option, if◌then◌else◌}
use Rattle.std.specs.BTreeMap as tree
use Rattle.std.specs.BTreeMap.{BTreeMap}
use Rattle.std.specs.Option.{option_map_or, unwrap_or}
use Rattle.std.specs.Ordering.{nat_cmp}
use Rattle.drmaa_model.specs.declared.rows.Row.{Row}
use Rattle.drmaa_model.specs.Load.{held_in_queue, held_inside, holds_in}
use Rattle.plan_book.specs.declared.usage.GroupUsage.{GroupUsage}
use Rattle.plan_book.specs.declared.usage.Usage.{Usage}

-- what a group has in use: nothing where it is not named
abbrev pub used_by : BTreeMap ℕ ℕ → ℕ → ℕ
used_by used group = unwrap_or (tree.get nat_cmp used group) 0

-- where all is known, each group has in use what its jobs have
abbrev pub IsUsed : (ℕ → Row → ℕ) → List Row → GroupUsage → Type 0
IsUsed part rows usage = usage.is_whole ≡ true → (group : ℕ) → used_by usage.used group ≡ sum_by (part group) rows

-- by the array's number, 1 for a member that holds slots
abbrev pub in_array_of : ℕ → Row → ℕ
in_array_of array row = holds_in (record { 0 = array }) row

-- by the reservation's number, the slots of a job that names it
abbrev pub in_reservation_of : ℕ → Row → ℕ
in_reservation_of number row = held_inside (record { 0 = number }) row

-- what is kept is what these jobs have in use
pub record AreUsed (rows : List Row) (usage : Usage) : Type 0 where
  pub arrays : IsUsed in_array_of rows usage.arrays
  pub queues : IsUsed held_in_queue rows usage.queues
  pub reservations : IsUsed in_reservation_of rows usage.reservations

-- ---- one job has other slots

-- the job with so many slots
abbrev pub holding : ℕ → Row → Row
holding slots row = record row { course = record row.course { held = slots } }

-- so much of the one group
abbrev pub part_of : Option ℕ → ℕ → ℕ → ℕ
part_of group n other = if option_map_or (λ (own : ℕ). own == other) group false then n else 0

-- what a job has in use of each group is exchanged
abbrev pub Exchanges : (ℕ → ℕ) → (ℕ → ℕ) → GroupUsage → GroupUsage → Type 0
Exchanges before after old new = new.is_whole ≡ true → (old.is_whole ≡ true) × ((group : ℕ) → used_by new.used group + before group ≡ used_by old.used group + after group)

-- a job is as it was before, and then as it is after
pub record Passes (before after : Row) (old new : Usage) : Type 0 where
  pub arrays : Exchanges (λ n. in_array_of n before) (λ n. in_array_of n after) old.arrays new.arrays
  pub queues : Exchanges (λ n. held_in_queue n before) (λ n. held_in_queue n after) old.queues new.queues
  pub reservations : Exchanges (λ n. in_reservation_of n before) (λ n. in_reservation_of n after) old.reservations new.reservations
