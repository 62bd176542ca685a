-- Laws of places: what stands from a place on is what a history has for its callback, and how many calls a batch makes.
use Rattle.std.specs.Prelude.{◌≡◌, ℕ, ◌+◌, ◌-◌, ◌<◌, ◌≤◌, ◌^◌, List, [], ◌++◌, length, map, drop, take, slice_index_or, Option, Some, None, refl}
use Rattle.std.specs.Option.{option_map_or}
use Rattle.std.proofs.Common.{sym, ap, ◌∙◌, subst, arith, ⊎_elim}
use Rattle.std.proofs.lemmas.Bool.{cases_lt}
use Rattle.std.proofs.lemmas.List.{drop_all, drop-append-le}
use Rattle.std.proofs.Math.Nat.{sub-eq-zero_of_le}
use Rattle.std.proofs.Math.Seq.{drop-append-add, take-append_seam}
use Rattle.drmaa_types.specs.Notifications.{notification_of}
use Rattle.drmaa_types.specs.declared.changes.Change.{Change}
use Rattle.drmaa_types.specs.declared.changes.Notification.{Notification}
use Rattle.drmaa_model.specs.declared.configs.Config.{Config}
use Rattle.drmaa_model.specs.declared.entries.Entry.{Entry}
use Rattle.drmaa_model.specs.Consistent.{IsConsistent}
use Rattle.drmaa_model.specs.Heard.{heard}
use Rattle.drmaa_model.specs.History.{IsLegal}
use Rattle.drmaa_model.specs.HistoryLaws.{legal-keeps}
use Rattle.drmaa_model.specs.StepLaws.{step-consistent, step-config, opening-consistent}
use Rattle.drmaa_model.specs.World.{World}
use Rattle.turn_lock.specs.Histories.{BeginsWith}
use Rattle.change_callbacks.specs.Ears.{Listening, place_at, from_place, due, notifications, EachHeard, HaveHeard}
use Rattle.change_callbacks.specs.Hearing.{HasHeard}
use Rattle.change_callbacks.specs.Places.{changes_of, place_of, AreCountable, HaveHeardAll}

-- the changes from its place on are what a history has for a callback
pub heard-is : (config : Config) (history : List Entry) (n : ℕ) → notifications (from_place (changes_of config history) (place_of config history n)) ≡ heard config history n
heard-is config history n =
    elim (place_of config history n) as (λ o. notifications (from_place (changes_of config history) o)
    ≡ option_map_or (λ (place : ℕ). map notification_of (drop place (changes_of config history))) o []) [
      | None ↦ refl
      | Some place ↦ refl
    ]

-- a list that begins with another begins with as many of its items
pub first-ones : (whole front : List Change) → BeginsWith whole front → take (length front) whole ≡ front
first-ones whole front b = ap (take (length front)) b.whole ∙ take-append_seam front b.rest

module _ {B : Type 0} {counted : B → ℕ} {told : B → Option (List Notification)} where
  -- where the changes handed over are the first ones of a list, that is what was heard from each place on
  pub heard-first : (ears : Listening B) (whole : List Change) → BeginsWith whole ears.handed → HaveHeard counted told ears
      → EachHeard counted told (from_place (take (length ears.handed) whole)) ears.places ears.begun ears.callbacks
  heard-first ears whole b h = subst (λ (xs : List Change). EachHeard counted told (from_place xs) ears.places ears.begun ears.callbacks) (sym (first-ones whole ears.handed b)) h

  -- where all changes of a history were handed over, each callback that has its place in the history heard all that the history has for it
  pub heard-all : (config : Config) (history : List Entry) (ears : Listening B) → ears.handed ≡ changes_of config history → HaveHeard counted told ears
      → HaveHeardAll counted told config history ears.places ears.begun ears.callbacks
  heard-all config history ears whole h = record {
    as_many = h.as_many;
    each = λ i d inside own.
        subst (HasHeard counted told (slice_index_or ears.begun i d) (slice_index_or ears.callbacks i d))
        (ap (λ (xs : List Change). notifications (from_place xs (place_at ears.places i))) whole
        ∙ ap (λ o. notifications (from_place (changes_of config history) o)) own
        ∙ heard-is config history (i + 1))
        (h.each i d inside);
  }

-- ---- a journal size bounds them

-- a history of a machine whose journal size is a number of 64 bits has no more changes than such a number tells
changes-few : (config : Config) (history : List Entry) → IsLegal config history → length (changes_of config history) ≤ config.journal
changes-few config history legal =
    (legal-keeps config (λ (w : World). IsConsistent w × (w.config ≡ config) × (length w.plan.changes ≤ config.journal)) (opening-consistent config, refl, omega arith)
    (λ w entry next both step.
    let within = step.within in
    let same = ap (λ (c : Config). c.journal) both.1 in
    (step-consistent w entry next both.0 step, step-config w entry next both.0 step ∙ both.1, omega (arith, within, same))) history legal).2

-- so a number of 64 bits tells how many changes there are
pub countable : (config : Config) (history : List Entry) → IsLegal config history → config.journal < 2 ^ 64 → AreCountable config history
countable config history legal small = (let few = changes-few config history legal in omega (arith, few, small))

drop-append : (n : ℕ) (xs ys : List Change) → drop n (xs ++ ys) ≡ drop n xs ++ drop (n - length xs) ys
drop-append n xs ys = ⊎_elim
    (λ (past : length xs < n). ap (λ k. drop k (xs ++ ys)) (let e : n ≡ length xs + (n - length xs) = omega (arith, past) in e)
    ∙ drop-append-add xs ys (n - length xs)
    ∙ sym (ap (λ zs. zs ++ drop (n - length xs) ys) (drop_all n xs (omega (arith, past)))))
    (λ (within : n ≤ length xs). drop-append-le n xs ys within ∙ ap (λ k. drop n xs ++ drop k ys) (sym (sub-eq-zero_of_le within)))
    (cases_lt (length xs) n)

-- what stands from a place on is what stood there before a batch, and what is due of the batch
pub from_place-append : (xs ys : List Change) (place : Option ℕ) → from_place (xs ++ ys) place ≡ from_place xs place ++ due (length xs) ys place
from_place-append xs ys None = refl
from_place-append xs ys (Some place) = drop-append place xs ys
