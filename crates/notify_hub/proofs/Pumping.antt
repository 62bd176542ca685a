-- How ears go on from batch to batch of a history's changes.
use Rattle.std.proofs.Common.{◌≡◌, ℕ, ◌+◌, ◌-◌, ◌<◌, ◌≤◌, ◌^◌, List, ◌++◌, length, drop, take, refl, sym, ap, ◌∙◌, subst, arith, Option}
use Rattle.std.specs.Prelude.{min}
use Rattle.std.proofs.lemmas.List.{length-append}
use Rattle.drmaa_types.specs.declared.changes.Change.{Change}
use Rattle.drmaa_types.specs.declared.changes.Notification.{Notification}
use Rattle.drmaa_model.specs.declared.configs.Config.{Config}
use Rattle.drmaa_model.specs.declared.entries.Entry.{Entry}
use Rattle.drmaa_model.specs.History.{IsLegal}
use Rattle.turn_lock.specs.Histories.{BeginsWith}
use Rattle.change_callbacks.specs.Ears.{Listening, HaveHeard, EachHeard, due, calls_for}
use Rattle.notify_hub.specs.Hubs.{calls_made}
use Rattle.change_callbacks.specs.Places.{changes_of, AreCountable}
use Rattle.notify_hub.proofs.Calls.{calls, calls-more, IsNextOf, next-of}
use Rattle.notify_hub.proofs.Growing.{changes-begin, begins-changes, begins-length}

-- what was handed over since the first ears, after what was seen
pub record Handing {B : Type 0} (counted : B → ℕ) (told : B → Option (List Notification)) (config : Config) (first now : Listening B) (seen : List Entry) (handed made : ℕ) : Type 0 where
  pub handed_is : handed ≡ length now.handed
  pub begins : BeginsWith (changes_of config seen) now.handed
  pub same : now ≡ record first { callbacks = now.callbacks; handed = now.handed }
  pub heard : HaveHeard counted told first → HaveHeard counted told now
  pub least : calls_made first ≤ calls_made now
  pub made_is : made ≡ min (calls_made now - calls_made first) (2 ^ 64 - 1)

-- what `Ears::hand` says
pub record IsHanded {B : Type 0} (counted : B → ℕ) (told : B → Option (List Notification)) (old new : Listening B) (from : ℕ) (batch : List Change) (calls : ℕ) : Type 0 where
  pub handed : new ≡ record old { callbacks = new.callbacks; handed = old.handed ++ batch }
  pub hears : EachHeard counted told (due from batch) old.places old.callbacks new.callbacks
  pub heard : HaveHeard counted told old → HaveHeard counted told new
  pub answer : calls ≡ calls_for old from batch

module _ {B : Type 0} {counted : B → ℕ} {told : B → Option (List Notification)} where
  pub handing-first : (config : Config) (ears : Listening B) (seen : List Entry) (handed : ℕ) → handed ≡ length ears.handed → BeginsWith (changes_of config seen) ears.handed
      → Handing counted told config ears ears seen handed 0
  handing-first config ears seen handed is begins = record {
    handed_is = is;
    begins = begins;
    same = refl;
    heard = λ h. h;
    least = omega arith;
    made_is = omega arith;
  }

  -- a slice that is the batch was handed over
  pub as-batch : (old new : Listening B) (from made : ℕ) (slice batch : List Change) → slice ≡ batch → new ≡ record old { callbacks = new.callbacks; handed = old.handed ++ slice }
      → EachHeard counted told (due from slice) old.places old.callbacks new.callbacks → (HaveHeard counted told old → HaveHeard counted told new) → made ≡ calls_for old from slice
      → IsHanded counted told old new from batch made
  as-batch old new from made slice batch is handed hears heard answer = subst (λ (b : List Change). IsHanded counted told old new from b made) is (record {
    handed = handed;
    hears = hears;
    heard = heard;
    answer = answer;
  })

  -- the calls that were made in all
  calls-handed : (old new : Listening B) (from made : ℕ) (batch : List Change) → IsHanded counted told old new from batch made → from ≡ length old.handed → calls_made new ≡ calls_made old + made
  calls-handed old new from made batch h is =
      ap (λ (e : Listening B). calls e.handed (take (length new.callbacks) e.places)) h.handed
      ∙ ap (λ n. calls (old.handed ++ batch) (take n old.places)) h.hears.as_many
      ∙ calls-more old.handed batch (take (length old.callbacks) old.places)
      ∙ ap (λ n. calls_made old + n) (ap (λ n. calls_for old n batch) (sym is) ∙ sym h.answer)

  pub handing-step : (config : Config) (first old new : Listening B) (seen later : List Entry) (handed made more : ℕ) (batch : List Change) → Handing counted told config first old seen handed made
      → IsLegal config later → BeginsWith later seen → batch ≡ take 64 (drop handed (changes_of config later)) → IsHanded counted told old new handed batch more
      → Handing counted told config first new later (handed + length batch) (min (made + more) (2 ^ 64 - 1))
  handing-step config first old new seen later handed made more batch s legal b batch_is h =
      let whole : List Change = changes_of config later in
      let begun : BeginsWith whole old.handed = begins-changes old.handed (changes_of config seen) whole s.begins (changes-begin config seen later legal b) in
      let next : IsNextOf whole old.handed batch = next-of whole old.handed batch begun (batch_is ∙ ap (λ n. take 64 (drop n whole)) s.handed_is) in
      let own : new.handed ≡ old.handed ++ batch = ap (λ (e : Listening B). e.handed) h.handed in
      let size = ap length own in
      let sum = length-append old.handed batch in
      let count = s.handed_is in
      let in_all = calls-handed old new handed more batch h s.handed_is in
      let least = s.least in
      let made_is = s.made_is in
      record {
        handed_is = omega (arith, size, sum, count);
        begins = subst (λ (xs : List Change). BeginsWith whole xs) (sym own) next.begins;
        same = h.handed ∙ (ap (λ (e : Listening B). record e { callbacks = new.callbacks; handed = old.handed ++ batch }) s.same
            ∙ ap (λ (xs : List Change). record first { callbacks = new.callbacks; handed = xs }) (sym own));
        heard = λ k. h.heard (s.heard k);
        least = omega (arith, in_all, least);
        made_is = omega (arith, in_all, least, made_is);
      }

  -- a batch that is not full was the last one
  pub handing-all : (config : Config) (first old new : Listening B) (seen later : List Entry) (handed made more : ℕ) (batch : List Change) → Handing counted told config first old seen handed made
      → IsLegal config later → BeginsWith later seen → batch ≡ take 64 (drop handed (changes_of config later)) → IsHanded counted told old new handed batch more → length batch < 64
      → new.handed ≡ changes_of config later
  handing-all config first old new seen later handed made more batch s legal b batch_is h few =
      let whole : List Change = changes_of config later in
      let begun : BeginsWith whole old.handed = begins-changes old.handed (changes_of config seen) whole s.begins (changes-begin config seen later legal b) in
      let next : IsNextOf whole old.handed batch = next-of whole old.handed batch begun (batch_is ∙ ap (λ n. take 64 (drop n whole)) s.handed_is) in
      ap (λ (e : Listening B). e.handed) h.handed ∙ next.short few

  -- where a batch is not handed over, there are more changes than a number of 64 bits tells
  pub handing-none : (config : Config) (first old : Listening B) (seen later : List Entry) (handed made : ℕ) (batch : List Change) → Handing counted told config first old seen handed made
      → IsLegal config later → BeginsWith later seen → batch ≡ take 64 (drop handed (changes_of config later)) → (handed + length batch < 2 ^ 64 → ⊥) → AreCountable config later → ⊥
  handing-none config first old seen later handed made batch s legal b batch_is high few =
      let whole : List Change = changes_of config later in
      let begun : BeginsWith whole old.handed = begins-changes old.handed (changes_of config seen) whole s.begins (changes-begin config seen later legal b) in
      let next : IsNextOf whole old.handed batch = next-of whole old.handed batch begun (batch_is ∙ ap (λ n. take 64 (drop n whole)) s.handed_is) in
      let most = begins-length (old.handed ++ batch) whole next.begins in
      let sum = length-append old.handed batch in
      let count = s.handed_is in
      high (omega (arith, most, sum, count, few))

  -- what is seen later begins with what was handed over too
  pub handing-later : (config : Config) (first now : Listening B) (seen later : List Entry) (handed made : ℕ) → Handing counted told config first now seen handed made → IsLegal config later → BeginsWith later seen
      → Handing counted told config first now later handed made
  handing-later config first now seen later handed made s legal b = record {
    handed_is = s.handed_is;
    begins = begins-changes now.handed (changes_of config seen) (changes_of config later) s.begins (changes-begin config seen later legal b);
    same = s.same;
    heard = s.heard;
    least = s.least;
    made_is = s.made_is;
  }
