-- What the end of a run by launcher and reaper leaves.
use Rattle.std.specs.Prelude.{◌≡◌, ◌⊎◌, ℕ, List, Option, Some, None, slice_set}
use Rattle.child_spawner.specs.declared.fates.Asked.{Asked}
use Rattle.child_spawner.specs.declared.fates.Fate.{Fate}
use Rattle.child_spawner.specs.Children.{Told}
use Rattle.drmaa_types.specs.Readings.{Readings}
use Rattle.drmaa_types.specs.declared.refusals.Refusal.TheVariants.{OutOfResource}
use Rattle.drmaa_types.specs.declared.refusals.Limit.TheVariants as limit
use Rattle.drmaa_model.specs.declared.configs.Config.{Config}
use Rattle.turn_lock.specs.Histories.{BeginsWith}
use Rattle.turn_lock.specs.Tokens.{Named, BelongsTo}
use Rattle.block_play.specs.declared.stops.Stopped.{Stopped}
use Rattle.block_play.specs.declared.stops.Stopped.TheVariants as stopped
use Rattle.call_history.specs.Clients.{Seat, seen_of, mine_of, number_of, retired_of}
use Rattle.attendant.specs.declared.pairs.Pair.{Pair}
use Rattle.attendant.specs.declared.reaper.Held.{Held}
use Rattle.attendant.specs.declared.reaper.Hand.{Hand}
use Rattle.attendant.specs.Acts.{own_acts}
use Rattle.attendant.specs.Posts.{IsStillAt}
use Rattle.attendant.specs.Outside.{Tends, Attending, IsHeldUp}
use Rattle.attendant.specs.Pairs.{launcher_at, reaping_at, HasSettled}

-- Launcher and reaper ended the run, where it was not stopped before: then this is why it is, or else the machine is settled.
pub record HasEnded {C T : Type 0} (given : C → Readings) (least : C → ℕ) (told : T → Option Told) (shared : Named Config) (p q : Pair C)
    (asked asked_after : Option (List Asked)) (fate fate_after : ℕ → Fate) (at at_after : ℕ → Option (Held T)) (hand hand_after : Option Hand) (before after : Option Stopped) : Type 0 where
  pub launcher : IsStillAt (launcher_at given least shared p) (launcher_at given least shared q)
  pub reaping : IsStillAt (reaping_at given least shared p) (reaping_at given least shared q)
  pub attending : Attending told asked asked_after fate fate_after (own_acts p.launcher) (own_acts q.launcher) (own_acts p.reaping) (own_acts q.reaping) at at_after hand hand_after (after ≡ None)
  pub whole : after ≡ None → (before ≡ None) × HasSettled given least shared q
  pub full : (size : ℕ) → after ≡ Some (stopped.Full size)
      → (before ≡ Some (stopped.Full size)) ⊎ ((before ≡ None) × IsHeldUp (launcher_at given least shared p) (launcher_at given least shared q)
      (reaping_at given least shared p) (reaping_at given least shared q) (Tends (own_acts p.launcher) (own_acts p.reaping) at hand) (OutOfResource (limit.Journal size)))

-- The pair is back, and the opener has seen what each of them had.
pub record AreReleased {C : Type 0} (shared : Named Config) (o p : Seat) (pair : Pair C) : Type 0 where
  pub opener : BelongsTo shared p
  pub retired : retired_of p ≡ slice_set (slice_set (retired_of o) (number_of pair.launcher) (Some (mine_of pair.launcher))) (number_of pair.reaping) (Some (mine_of pair.reaping))
  pub begins : BeginsWith (seen_of p) (seen_of o)
  pub launcher : BeginsWith (seen_of p) (seen_of pair.launcher)
  pub reaping : BeginsWith (seen_of p) (seen_of pair.reaping)
