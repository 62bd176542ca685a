-- What a callback hears of a history: GFD.231, notifications; from where on is our profile.
use Rattle.std.specs.Prelude.{ℕ, Bool, false, ◌==◌, List, [], ◌∷◌, length, map, drop, Option, Some, None, if◌then◌else◌}
use Rattle.std.specs.Option.{option_map_or}
use Rattle.drmaa_types.specs.Notifications.{notification_of}
use Rattle.drmaa_types.specs.declared.changes.Notification.{Notification}
use Rattle.drmaa_model.specs.declared.configs.Config.{Config}
use Rattle.drmaa_model.specs.declared.entries.Entry.{Entry}
use Rattle.drmaa_model.specs.declared.replies.Reply.{Reply}
use Rattle.drmaa_model.specs.declared.replies.Reply.TheVariants as reply
use Rattle.drmaa_model.specs.History.{replay, after_entry}
use Rattle.drmaa_model.specs.World.{World, opening_world}

-- the reply registers the callback of this number
abbrev pub registers : ℕ → Reply → Bool
registers n (reply.Callback number) = number == n
registers n _ = false

-- the number of changes right after the entry that registers the callback, if there is one
abbrev pub place_from : World → ℕ → List Entry → Option ℕ
place_from w n [] = None
place_from w n (entry ∷ entries) =
    if registers n entry.reply then Some (length (after_entry w entry).plan.changes) else place_from (after_entry w entry) n entries

-- The changes from the callback's place on, in order, each as a notification. It hears nothing where it was not registered.
abbrev pub heard : Config → List Entry → ℕ → List Notification
heard config history n =
    option_map_or (λ (place : ℕ). map notification_of (drop place (replay config history).plan.changes))
    (place_from (opening_world config) n history) []
