-- What callbacks that are back have heard.
use Rattle.std.proofs.Common.{◌≡◌, ℕ, List, [], refl, sym, subst, Option}
use Rattle.drmaa_types.specs.declared.changes.Notification.{Notification}
use Rattle.drmaa_model.specs.declared.configs.Config.{Config}
use Rattle.drmaa_model.specs.declared.entries.Entry.{Entry}
use Rattle.change_callbacks.specs.Ears.{Listening, HaveHeard}
use Rattle.change_callbacks.specs.HearingLaws.{HasHeard-none}
use Rattle.script_play.specs.CallbackLaws.{current-heard-after, front-heard-after, unheard-front}
use Rattle.script_play.specs.Callbacks.{AreCurrentAfter, HearFront, HearHistoryAfter, HaveFrontAfter, HearFrontAfter}
use Rattle.script_play.specs.View.{Start}
use Rattle.script_commands.specs.Registers.{AreReturned}

module _ {B : Type 0} (counted : B → ℕ) (told : B → Option (List Notification)) where
  -- they are the same
  pub returned_same : (bs : List B) → AreReturned counted told bs bs
  returned_same bs = record { as_many = refl; each = λ i d inside. record { notifications = []; heard = HasHeard-none _ } }

  -- each heard what the ears have, since they were made
  pub returned_heard : (ears : Listening B) (before after : List B) → HaveHeard counted told ears → ears.begun ≡ before → after ≡ ears.callbacks → AreReturned counted told before after
  returned_heard ears before after heard begun is =
      subst (λ (bs : List B). AreReturned counted told bs after) begun
      (subst (λ (bs : List B). AreReturned counted told ears.begun bs) (sym is) (record { as_many = heard.as_many; each = λ i d inside. record { notifications = _; heard = heard.each i d inside } }))

  -- each heard all of a history, where the ears have that
  pub hear_current : (earlier : ℕ) (config : Config) (history : List Entry) (ears : Listening B) (before after : List B) → AreCurrentAfter counted told earlier (record { config = config; history = history }) ears → ears.begun ≡ before → after ≡ ears.callbacks
      → HearHistoryAfter counted told earlier config history before after
  hear_current earlier config history ears before after current begun is =
      subst (λ (bs : List B). HearHistoryAfter counted told earlier config history bs after) begun
      (subst (λ (bs : List B). HearHistoryAfter counted told earlier config history ears.begun bs) (sym is) (current-heard-after earlier config history ears current))

  -- each heard all of a beginning, where the ears have that
  pub hear_front : (config : Config) (start : Start) (added : List Entry) (ears : Listening B) (before after : List B) → HaveFrontAfter counted told config start added ears → ears.begun ≡ before → after ≡ ears.callbacks
      → HearFrontAfter counted told config start added before after
  hear_front config start added ears before after have begun is =
      subst (λ (bs : List B). HearFrontAfter counted told config start added bs after) begun
      (subst (λ (bs : List B). HearFrontAfter counted told config start added ears.begun bs) (sym is) (front-heard-after config start added ears have))

  -- they are the same, and heard nothing
  pub same_front : (config : Config) (history : List Entry) (before after : List B) → after ≡ before → HearFront counted told config history before after
  same_front config history before after is = subst (λ (bs : List B). HearFront counted told config history before bs) (sym is) (unheard-front config history before)
