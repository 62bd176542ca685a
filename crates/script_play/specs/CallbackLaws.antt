-- Laws of what callbacks heard, whose ears have all of a history or of a beginning of it.
use Rattle.std.specs.Prelude.{◌≡◌, ℕ, ◌+◌, ◌<◌, ◌≤◌, nat_le, true, false, List, [], ◌++◌, slice_index_or, Option, None, refl, if◌then◌else◌}
use Rattle.std.proofs.Common.{sym, ap, ◌∙◌, subst, append-nil, arith, inl, inr}
use Rattle.std.proofs.lemmas.Bool.{leb-true}
use Rattle.std.proofs.lemmas.Bool.Decides.{leb_tells}
use Rattle.drmaa_types.specs.declared.changes.Change.{Change}
use Rattle.drmaa_types.specs.declared.changes.Notification.{Notification}
use Rattle.drmaa_model.specs.declared.configs.Config.{Config}
use Rattle.drmaa_model.specs.declared.entries.Entry.{Entry}
use Rattle.drmaa_model.specs.Heard.{heard}
use Rattle.drmaa_model.specs.History.{Ledger}
use Rattle.text_codec.specs.StepLaws.{true_false}
use Rattle.change_callbacks.specs.Ears.{Listening, from_place, notifications, place_at}
use Rattle.change_callbacks.specs.Hearing.{HasHeard}
use Rattle.change_callbacks.specs.HearingLaws.{HasHeard-none}
use Rattle.change_callbacks.specs.PlaceLaws.{heard-all, heard-is}
use Rattle.change_callbacks.specs.Places.{changes_of, place_of}
use Rattle.script_play.specs.Callbacks.{AreCurrent, HearHistory, HaveFront, HearFront, AreCurrentAfter, HearHistoryAfter, HaveFrontAfter, HearFrontAfter, place_since, heard_since}
use Rattle.script_play.specs.View.{Start}

-- which of two values a number decides for
pub le-false : (n m : ℕ) → nat_le n m ≡ false → m < n
le-false n m is = elim (leb_tells n m) [
  | inl within ↦ absurd (true_false (sym within.0 ∙ is))
  | inr above ↦ above.1
]

pub choice-else : {A : Type 0} (n m : ℕ) (a b : A) → m < n → (if nat_le n m then a else b) ≡ b
choice-else n m a b above =
    (elim (nat_le n m) as (λ t. nat_le n m ≡ t → (if t then a else b) ≡ b) [
      | true ↦ λ is. absurd (let within : n ≤ m = leb-true n m is in omega (arith, within, above))
      | false ↦ λ is. refl
    ]) refl

-- what is heard from the place of a number
since-heard : (earlier : ℕ) (config : Config) (history : List Entry) (n : ℕ)
    → notifications (from_place (changes_of config history) (place_since earlier config history n)) ≡ heard_since earlier config history n
since-heard earlier config history n =
    elim (nat_le n earlier) as (λ t. notifications (from_place (changes_of config history) (if t then None else place_of config history n)) ≡ (if t then [] else heard config history n)) [
      | true ↦ refl
      | false ↦ heard-is config history n
    ]

module _ {B : Type 0} {counted : B → ℕ} {told : B → Option (List Notification)} where
  -- where the ears have all of a history, each callback heard what it has for its number
  pub current-heard : (config : Config) (history : List Entry) (ears : Listening B) → AreCurrent counted told (record { config = config; history = history }) ears
      → HearHistory counted told config history ears.begun ears.callbacks
  current-heard config history ears current =
      let all = heard-all config history ears current.handed current.heard in
      record { as_many = all.as_many; each = λ i d inside. all.each i d inside (current.places.each i) }

  -- and where they have all of a beginning, what that has
  pub front-heard : (config : Config) (history : List Entry) (ears : Listening B) → HaveFront counted told config history ears → HearFront counted told config history ears.begun ears.callbacks
  front-heard config history ears have = record { front = have.front; rest = have.rest; whole = have.whole; heard = current-heard config have.front ears have.current }

  -- a history is a beginning of itself
  pub current-front : (config : Config) (history : List Entry) (ears : Listening B) → AreCurrent counted told (record { config = config; history = history }) ears → HaveFront counted told config history ears
  current-front config history ears current = record { front = history; rest = []; whole = sym (append-nil history); current = current }

  -- callbacks that are as they were heard what the empty beginning has for them, which is nothing
  pub unheard-front : (config : Config) (history : List Entry) (callbacks : List B) → HearFront counted told config history callbacks callbacks
  unheard-front config history callbacks = record {
    front = [];
    rest = history;
    whole = refl;
    heard = record { as_many = refl; each = λ i d inside. HasHeard-none (slice_index_or callbacks i d) };
  }

  -- ---- behind callbacks of an earlier run

  -- where the ears have all of a history, each callback heard what it has for its number
  pub current-heard-after : (earlier : ℕ) (config : Config) (history : List Entry) (ears : Listening B) → AreCurrentAfter counted told earlier (record { config = config; history = history }) ears
      → HearHistoryAfter counted told earlier config history ears.begun ears.callbacks
  current-heard-after earlier config history ears current = record {
    as_many = current.heard.as_many;
    each = λ i d inside.
        subst (HasHeard counted told (slice_index_or ears.begun i d) (slice_index_or ears.callbacks i d))
        (ap (λ (xs : List Change). notifications (from_place xs (place_at ears.places i))) current.handed
        ∙ ap (λ (o : Option ℕ). notifications (from_place (changes_of config history) o)) (current.places.each i)
        ∙ since-heard earlier config history (i + 1))
        (current.heard.each i d inside);
  }

  -- and where they have all of the entries before a play and of a beginning of those that it adds, what these have
  pub front-heard-after : (config : Config) (start : Start) (added : List Entry) (ears : Listening B) → HaveFrontAfter counted told config start added ears → HearFrontAfter counted told config start added ears.begun ears.callbacks
  front-heard-after config start added ears have = record {
    front = have.front;
    rest = have.rest;
    whole = have.whole;
    heard = current-heard-after start.callbacks config (start.entries ++ have.front) ears have.current;
  }

  -- all entries that a play adds are a beginning of them
  pub current-front-after : (config : Config) (start : Start) (added : List Entry) (ears : Listening B) → AreCurrentAfter counted told start.callbacks (record { config = config; history = start.entries ++ added }) ears
      → HaveFrontAfter counted told config start added ears
  current-front-after config start added ears current = record { front = added; rest = []; whole = sym (append-nil added); current = current }

  -- behind none, each has the place of its number
  pub current-after-none : (ledger : Ledger) (ears : Listening B) → AreCurrentAfter counted told 0 ledger ears → AreCurrent counted told ledger ears
  current-after-none ledger ears current = record {
    places = record { as_many = current.places.as_many; each = λ i. current.places.each i ∙ choice-else (i + 1) 0 None (place_of ledger.config ledger.history (i + 1)) (omega arith) };
    handed = current.handed;
    heard = current.heard;
  }

  -- and heard what the history has for it
  pub heard-after-none : (config : Config) (history : List Entry) (before after : List B) → HearHistoryAfter counted told 0 config history before after → HearHistory counted told config history before after
  heard-after-none config history before after h = record {
    as_many = h.as_many;
    each = λ i d inside. subst (HasHeard counted told (slice_index_or before i d) (slice_index_or after i d)) (choice-else (i + 1) 0 [] (heard config history (i + 1)) (omega arith)) (h.each i d inside);
  }

  pub front-after-none : (config : Config) (added : List Entry) (before after : List B) → HearFrontAfter counted told config (record { entries = []; callbacks = 0 }) added before after → HearFront counted told config added before after
  front-after-none config added before after h = record { front = h.front; rest = h.rest; whole = h.whole; heard = heard-after-none config h.front before after h.heard }
