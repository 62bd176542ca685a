-- What a `MemoryCallback` is seen as: our profile.
use Rattle.std.specs.Prelude.{ℕ, nat_lt, nat_le, List, [], ◌∷◌, ◌++◌, Option, Some, None, if◌then◌else◌}
use Rattle.drmaa_types.specs.Readings.{counted_on}
use Rattle.drmaa_types.specs.declared.changes.Notification.{Notification}

-- how many notifications a `MemoryCallback` keeps
abbrev pub capacity : ℕ
capacity = 4096

-- a `MemoryCallback`: the number of calls, and the notifications that it keeps
pub record Gathered : Type 0 where
  pub calls : ℕ
  pub items : List Notification

-- its list, which it tells as long as no call was beyond the capacity
abbrev pub told_list : Gathered → Option (List Notification)
told_list gathered = if nat_le gathered.calls capacity then Some gathered.items else None

-- one call more: beyond the capacity it is counted alone
abbrev pub with_call : Gathered → Notification → Gathered
with_call gathered n = record {
  calls = counted_on gathered.calls;
  items = if nat_lt gathered.calls capacity then gathered.items ++ n ∷ [] else gathered.items;
}
