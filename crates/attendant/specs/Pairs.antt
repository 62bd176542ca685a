-- What the work of launcher and reaper as a pair leaves. Our profile.
use Rattle.std.specs.Prelude.{ℕ, List, Option, IfErr, IsOk, Result}
use Rattle.drmaa_types.specs.Readings.{Readings}
use Rattle.drmaa_types.specs.declared.refusals.Refusal.{Refusal}
use Rattle.child_spawner.specs.declared.fates.Asked.{Asked}
use Rattle.child_spawner.specs.declared.fates.Fate.{Fate}
use Rattle.child_spawner.specs.Children.{Told}
use Rattle.drmaa_model.specs.declared.configs.Config.{Config}
use Rattle.turn_lock.specs.Histories.{BeginsWith}
use Rattle.turn_lock.specs.Tokens.{Named, IsFree}
use Rattle.call_history.specs.Clients.{seen_of}
use Rattle.call_history.specs.Clocks.{dial}
use Rattle.attendant.specs.declared.pairs.Pair.{Pair}
use Rattle.attendant.specs.declared.reaper.Held.{Held}
use Rattle.attendant.specs.declared.reaper.Hand.{Hand}
use Rattle.attendant.specs.Acts.{own_acts}
use Rattle.attendant.specs.Posts.{Post, IsStillAt}
use Rattle.attendant.specs.Outside.{Tends, Attending, IsHeldUp, EndsSettled}

-- the two posts of a pair at one machine
module _ {C : Type 0} (given : C → Readings) (least : C → ℕ) (shared : Named Config) where
  abbrev pub launcher_at : Pair C → Post
  launcher_at p = record { shared = shared; client = p.launcher; clock = dial (given p.launcher_clock) (least p.launcher_clock) }

  abbrev pub reaping_at : Pair C → Post
  reaping_at p = record { shared = shared; client = p.reaping; clock = dial (given p.reaping_clock) (least p.reaping_clock) }

-- both clients are of this machine, and hold no turn
pub record ArePlaced {C : Type 0} (shared : Named Config) (p : Pair C) : Type 0 where
  pub launcher : IsFree shared p.launcher
  pub reaping : IsFree shared p.reaping

-- Launcher and reaper worked, and ended so.
pub record HasAttended {C T : Type 0} (given : C → Readings) (least : C → ℕ) (told : T → Option Told) (shared : Named Config) (p q : Pair C)
    (asked asked_after : Option (List Asked)) (fate fate_after : ℕ → Fate) (at at_after : ℕ → Option (Held T)) (hand hand_after : Option Hand) (ended : Result (Unit {0}) Refusal) : Type 0 where
  pub launcher : IsStillAt (launcher_at given least shared p) (launcher_at given least shared q)
  pub reaping : IsStillAt (reaping_at given least shared p) (reaping_at given least shared q)
  pub attending : Attending told asked asked_after fate fate_after (own_acts p.launcher) (own_acts q.launcher) (own_acts p.reaping) (own_acts q.reaping) at at_after hand hand_after (IsOk ended)
  pub held_up : IfErr ended (IsHeldUp (launcher_at given least shared p) (launcher_at given least shared q) (reaping_at given least shared p) (reaping_at given least shared q)
      (Tends (own_acts p.launcher) (own_acts p.reaping) at hand))

-- The launcher's last reading was that of a look which said that the machine is settled, after all that the reaper's client has seen.
pub record HasSettled {C : Type 0} (given : C → Readings) (least : C → ℕ) (shared : Named Config) (p : Pair C) : Type 0 where
  pub settled : EndsSettled shared.fixed (launcher_at given least shared p)
  pub begins : BeginsWith (seen_of p.launcher) (seen_of p.reaping)
