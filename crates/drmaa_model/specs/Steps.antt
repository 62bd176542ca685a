-- One step of the machine: our profile.
use Rattle.std.specs.Prelude.{◌≡◌, ℕ, ◌≤◌}
use Rattle.std.specs.Option.{option_map_or}
use Rattle.drmaa_types.specs.declared.refusals.Refusal.{Refusal}
use Rattle.drmaa_model.specs.declared.calls.Call.{Call}
use Rattle.drmaa_model.specs.declared.entries.Entry.{Entry}
use Rattle.drmaa_model.specs.declared.replies.Reply.TheVariants.{Refused}
use Rattle.drmaa_model.specs.Effects.{StepAnswer, gives, makes, effect}
use Rattle.drmaa_model.specs.Refusals.{refusal}
use Rattle.drmaa_model.specs.Size.{size}
use Rattle.drmaa_model.specs.Time.{advance}
use Rattle.drmaa_model.specs.World.{World}

-- What a call comes to that is made at a moment, in the world that has come to that moment: its refusal, or else its effect.
abbrev pub answer_now : ℕ → World → Call → StepAnswer
answer_now at w call = option_map_or (λ (why : Refusal). makes (Refused why) w) (refusal w call) (effect at w call)

-- what a call comes to that is made at this moment
abbrev pub answer : World → ℕ → Call → StepAnswer
answer w at call = answer_now at (advance w at) call

-- The entry is a step from one world to the next. The caller makes no difference to the answer.
pub record IsStep (w : World) (entry : Entry) (next : World) : Type 0 where
  pub answered : answer w entry.at entry.call ≡ gives entry.reply next
  pub within : size next ≤ w.config.journal
