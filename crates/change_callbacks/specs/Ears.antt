-- Callbacks with places, and what each is to hear: GFD.231, notifications; places are our profile.
use Rattle.std.specs.Prelude.{◌≡◌, ℕ, ◌-◌, ◌<◌, List, [], map, drop, take, length, sum_by, slice_index_or, replicate, Option, Some, None}
use Rattle.drmaa_types.specs.Notifications.{notification_of}
use Rattle.drmaa_types.specs.declared.changes.Change.{Change}
use Rattle.drmaa_types.specs.declared.changes.Notification.{Notification}
use Rattle.change_callbacks.specs.Hearing.{HasHeard}

-- The callbacks as they were when the ears were made and as they are, in the caller's order; the places of the numbers
-- from 1 to 64, counted in changes from 0; and the changes that were handed over so far.
pub record Listening (B : Type 0) : Type 0 where
  pub begun : List B
  pub callbacks : List B
  pub places : List (Option ℕ)
  pub handed : List Change

-- ears of these callbacks: no number has a place, and nothing was handed over
abbrev pub silent : {B : Type 0} → List B → Listening B
silent callbacks = record { begun = callbacks; callbacks = callbacks; places = replicate 64 None; handed = [] }

-- the place at an index: the callback with number n stands at index n - 1
abbrev pub place_at : List (Option ℕ) → ℕ → Option ℕ
place_at places i = slice_index_or places i None

-- of all changes, those that stand at a place or later
abbrev pub from_place : List Change → Option ℕ → List Change
from_place changes None = []
from_place changes (Some place) = drop place changes

-- of a batch whose first change has the place `from`, those that stand at a place or later
abbrev pub due : ℕ → List Change → Option ℕ → List Change
due from batch None = []
due from batch (Some place) = drop (place - from) batch

-- what is heard of these changes
abbrev pub notifications : List Change → List Notification
notifications changes = map notification_of changes

-- Between the two lists each callback heard what is the share of its place, which may be none.
pub record EachHeard {B : Type 0} (counted : B → ℕ) (told : B → Option (List Notification)) (share : Option ℕ → List Change) (places : List (Option ℕ)) (before after : List B) : Type 0 where
  pub as_many : length after ≡ length before
  pub each : (i : ℕ) (d : B) → i < length before
      → HasHeard counted told (slice_index_or before i d) (slice_index_or after i d) (notifications (share (place_at places i)))

-- What each callback heard since the ears were made is exactly the changes from its place up to the number handed.
abbrev pub HaveHeard : {B : Type 0} → (B → ℕ) → (B → Option (List Notification)) → Listening B → Type 0
HaveHeard counted told ears = EachHeard counted told (from_place ears.handed) ears.places ears.begun ears.callbacks

-- how many calls a batch makes: for each callback with a place one for each change that stands there or later
abbrev pub calls_for : {B : Type 0} → Listening B → ℕ → List Change → ℕ
calls_for ears from batch = sum_by (λ place. length (due from batch place)) (take (length ears.callbacks) ears.places)
