-- What the work of launcher and reaper leaves.
use Rattle.std.specs.Prelude.{ℕ, List, Option, IfErr, IsOk, Result}
use Rattle.child_spawner.specs.declared.fates.Asked.{Asked}
use Rattle.child_spawner.specs.declared.fates.Fate.{Fate}
use Rattle.child_spawner.specs.Children.{Told}
use Rattle.drmaa_types.specs.declared.refusals.Refusal.{Refusal}
use Rattle.drmaa_types.specs.Readings.{Readings}
use Rattle.drmaa_model.specs.declared.configs.Config.{Config}
use Rattle.turn_lock.specs.Tokens.{Named}
use Rattle.attendant.specs.declared.pairs.Pair.{Pair}
use Rattle.attendant.specs.declared.reaper.Held.{Held}
use Rattle.attendant.specs.declared.reaper.Hand.{Hand}
use Rattle.attendant.specs.Acts.{own_acts}
use Rattle.attendant.specs.Posts.{IsStillAt}
use Rattle.attendant.specs.Outside.{Attending}
use Rattle.attendant.specs.Pairs.{launcher_at, reaping_at, HasSettled}
use Rattle.drmaa.specs.Closed.{IsShort}

-- Launcher and reaper went on alone, where they were not refused before: they are refused for want of memory or by a full journal, or
-- the machine is settled.
pub record HasEnded {C T : Type 0} (given : C → Readings) (least : C → ℕ) (told : T → Option Told) (shared : Named Config) (p q : Pair C)
    (asked asked_after : Option (List Asked)) (fate fate_after : ℕ → Fate) (at at_after : ℕ → Option (Held T)) (hand hand_after : Option Hand) (before after : Result (Unit {0}) Refusal) : Type 0 where
  pub launcher : IsStillAt (launcher_at given least shared p) (launcher_at given least shared q)
  pub reaping : IsStillAt (reaping_at given least shared p) (reaping_at given least shared q)
  pub attending : Attending told asked asked_after fate fate_after (own_acts p.launcher) (own_acts q.launcher) (own_acts p.reaping) (own_acts q.reaping) at at_after hand hand_after (IsOk after)
  pub whole : IsOk after → IsOk before × HasSettled given least shared q
  pub short : IfErr before IsShort → IfErr after IsShort
