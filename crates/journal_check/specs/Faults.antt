-- The first entry of a history that is no step: our profile.
use Rattle.std.specs.Prelude.{◌≡◌, ℕ, ◌+◌, nat_le, List, ◌∷◌, ◌++◌, length, Option, Some, None, if◌then◌else◌}
use Rattle.drmaa_model.specs.declared.configs.Config.{Config}
use Rattle.drmaa_model.specs.declared.entries.Entry.{Entry}
use Rattle.drmaa_model.specs.declared.replies.Reply.{Reply}
use Rattle.drmaa_model.specs.Effects.{StepAnswer, gives, nothing, not_yet}
use Rattle.drmaa_model.specs.History.{IsLegal, replay}
use Rattle.drmaa_model.specs.Size.{size}
use Rattle.drmaa_model.specs.Steps.{answer, IsStep}
use Rattle.drmaa_model.specs.World.{World}

-- the reply of an answer; None where it makes no entry, or where the journal would pass this size
abbrev pub told_within : ℕ → StepAnswer → Option Reply
told_within most (gives reply next) = if nat_le (size next) most then Some reply else None
told_within most nothing = None
told_within most not_yet = None

-- the reply of the machine at the place of an entry
abbrev pub machine_reply : World → Entry → Option Reply
machine_reply w entry = told_within w.config.journal (answer w entry.at entry.call)

-- The entry is no step from this world; the reply that it has, and the reply of the machine at its place.
pub record IsFault (w : World) (entry : Entry) (given : Reply) (machine : Option Reply) : Type 0 where
  pub no_step : (next : World) → ¬ (IsStep w entry next)
  pub given_is : given ≡ entry.reply
  pub machine_is : machine ≡ machine_reply w entry

-- The entry with this number, counted from 1, is no step, and those before it are.
pub record FirstFault (config : Config) (entries : List Entry) (number : ℕ) (given : Reply) (machine : Option Reply) : Type 0 where
  pub front : List Entry
  pub entry : Entry
  pub back : List Entry
  pub placed : entries ≡ front ++ entry ∷ back
  pub numbered : number ≡ length front + 1
  pub legal : IsLegal config front
  pub fault : IsFault (replay config front) entry given machine
