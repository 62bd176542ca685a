-- What a callback heard: GFD.231, notifications; that a callback may tell it, and how it counts, is our profile.
use Rattle.std.specs.Prelude.{◌≡◌, ℕ, zero, suc, List, ◌++◌, length, slice_get, Option, Some, None}
use Rattle.drmaa_types.specs.Readings.{counted_on}
use Rattle.drmaa_types.specs.declared.changes.Notification.{Notification}

-- Where a callback tells its list after it heard these notifications, it told it before, and they stand at its end.
abbrev pub Hears : Option (List Notification) → List Notification → Option (List Notification) → Type 0
Hears before heard None = Unit {0}
Hears (Some before) heard (Some after) = after ≡ before ++ heard
Hears None heard (Some after) = ⊥

-- a count after so many more calls
abbrev pub count_after : ℕ → ℕ → ℕ
count_after count zero = count
count_after count (suc calls) = counted_on (count_after count calls)

-- the item with this number, counted from 1, of a list that is told
abbrev pub heard_item : Option (List Notification) → ℕ → Option Notification
heard_item None n = None
heard_item (Some heard) zero = None
heard_item (Some heard) (suc n) = slice_get heard n

-- Between two states of a callback it heard these notifications, in order, each once, and nothing else.
pub record HasHeard {B : Type 0} (counted : B → ℕ) (told : B → Option (List Notification)) (before after : B) (heard : List Notification) : Type 0 where
  pub number : counted after ≡ count_after (counted before) (length heard)
  pub list : Hears (told before) heard (told after)
