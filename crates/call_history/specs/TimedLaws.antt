-- Entries go on to be timed by the clock that their caller reads.
use Rattle.std.specs.Prelude.{◌≡◌, ℕ, List, [], ◌∷◌, ◌++◌, Option, Some, None, Result, Ok, Err, IfOk, IfErr}
use Rattle.std.proofs.Common.{refl, sym, ap, subst, ◌∙◌, append_assoc, append-nil}
use Rattle.drmaa_types.specs.Readings.{Readings}
use Rattle.drmaa_model.specs.declared.calls.Call.{Call}
use Rattle.drmaa_model.specs.declared.calls.Call.TheVariants as call
use Rattle.drmaa_model.specs.declared.configs.Config.{Config}
use Rattle.drmaa_model.specs.declared.entries.Entry.{Entry}
use Rattle.drmaa_model.specs.declared.faults.NoEntry.{NoEntry}
use Rattle.drmaa_model.specs.declared.looks.Answer.{Answer}
use Rattle.drmaa_model.specs.declared.looks.Question.{Question}
use Rattle.drmaa_model.specs.declared.replies.Reply.{Reply}
use Rattle.drmaa_model.specs.RecordedCalls.{recorded}
use Rattle.call_history.specs.Calls.{entry_by, IsServed, IsUnserved, IsLookedAt}
use Rattle.call_history.specs.Clients.{Seat, mine_of, number_of}
use Rattle.call_history.specs.Clocks.{Dial, HasGiven, Gives}
use Rattle.call_history.specs.ClockLaws.{gives-one}
use Rattle.call_history.specs.Timed.{begun_in, moments_in, moments_of, StandsIn, HaveStood, StaysTimed}

-- a call that is kept has begun when it began
pub begun-recorded : (c : Call) → begun_in (recorded c) ≡ begun_in c
begun-recorded (call.Wait session jobs kind begun timeout) = refl
begun-recorded _ = refl

-- ---- moments among readings

pub stands-behind : (ms xs rs : List ℕ) → StandsIn ms rs → StandsIn ms (xs ++ rs)
stands-behind [] xs rs s = tt
stands-behind (m ∷ ms) xs rs (front, back, is, rest) = (xs ++ front, back, ap (λ (l : List ℕ). xs ++ l) is ∙ sym (append_assoc xs front (m ∷ back)), rest)

-- two stretches of moments, each among its own readings
pub stands-both : (ms ns rs more : List ℕ) → StandsIn ms rs → StandsIn ns more → StandsIn (ms ++ ns) (rs ++ more)
stands-both [] ns rs more s t = stands-behind ns rs more t
stands-both (m ∷ ms) ns rs more (front, back, is, rest) t =
    (front, back ++ more, ap (λ (l : List ℕ). l ++ more) is ∙ append_assoc front (m ∷ back) more, stands-both ms ns back more rest t)

-- all of some readings stand among them
pub stands-all : (ms : List ℕ) → StandsIn ms ms
stands-all [] = tt
stands-all (m ∷ ms) = ([], ms, refl, stands-all ms)

-- the moments of two lists of entries
pub moments-both : (es added : List Entry) → moments_of (es ++ added) ≡ moments_of es ++ moments_of added
moments-both [] added = refl
moments-both (e ∷ es) added = ap (λ (l : List ℕ). moments_in e ++ l) (moments-both es added) ∙ sym (append_assoc (moments_in e) (moments_of es) (moments_of added))

stood-added : (before after : Option (List ℕ)) (readings : List ℕ) (es added : List Entry) → HasGiven before readings after → StandsIn (moments_of added) readings
    → HaveStood es before → HaveStood (es ++ added) after
stood-added before None readings es added given stands stood = tt
stood-added None (Some now) readings es added given stands stood = absurd given
stood-added (Some had) (Some now) readings es added given stands stood =
    subst (λ (l : List ℕ). StandsIn (moments_of (es ++ added)) l) (sym given)
    (subst (λ (ms : List ℕ). StandsIn ms (had ++ readings)) (sym (moments-both es added)) (stands-both (moments_of es) (moments_of added) had readings stood stands))

-- more entries, whose moments stand among what the clock gave since
pub timed-added : (before after : Readings) (readings : List ℕ) (es added : List Entry) → Gives before readings after → StandsIn (moments_of added) readings
    → StaysTimed es before (es ++ added) after
timed-added before after readings es added gives stands = λ caller t. record {
  caller = gives.caller ∙ t.caller;
  moments = stood-added before.told after.told readings es added gives.told stands t.moments;
}

-- one entry more
pub timed-more : (before after : Readings) (es : List Entry) (e : Entry) (readings : List ℕ) → Gives before readings after → StandsIn (moments_in e) readings
    → StaysTimed es before (es ++ e ∷ []) after
timed-more before after es e readings gives stands =
    timed-added before after readings es (e ∷ []) gives (subst (λ (ms : List ℕ). StandsIn ms readings) (sym (append-nil (moments_in e))) stands)

-- no entry more
pub timed-still : (before after : Readings) (es : List Entry) (readings : List ℕ) → Gives before readings after → StaysTimed es before es after
timed-still before after es readings gives =
    subst (λ (l : List Entry). StaysTimed es before l after) (append-nil es) (timed-added before after readings es [] gives tt)

-- ---- calls

one-moment : (number at : ℕ) (asked : Call) (reply : Reply) → begun_in asked ≡ [] → StandsIn (moments_in (entry_by number at asked reply)) (at ∷ [])
one-moment number at asked reply none =
    subst (λ (ms : List ℕ). StandsIn ms (at ∷ [])) (sym (ap (λ (l : List ℕ). l ++ at ∷ []) (begun-recorded asked ∙ none))) (stands-all (at ∷ []))

pub timed-served : (before after : Dial) (old new : Seat) (asked : Call) (reply : Reply) → begun_in asked ≡ [] → IsServed before old asked reply after new
    → StaysTimed (mine_of old) before.given (mine_of new) after.given
timed-served before after old new asked reply none is =
    let e = entry_by (number_of old) is.at asked reply in
    subst (λ (es : List Entry). StaysTimed (mine_of old) before.given es after.given) (sym is.made.mine)
    (timed-more before.given after.given (mine_of old) e (is.at ∷ []) (gives-one before.given is.at after.given is.read.told) (one-moment (number_of old) is.at asked reply none))

pub timed-unserved : (config : Config) (before after : Dial) (old new : Seat) (asked : Call) (why : NoEntry) → IsUnserved config before old asked why after new
    → StaysTimed (mine_of old) before.given (mine_of new) after.given
timed-unserved config before after old new asked why is =
    subst (λ (es : List Entry). StaysTimed (mine_of old) before.given es after.given) (sym is.more.mine)
    (timed-still before.given after.given (mine_of old) (is.at ∷ []) (gives-one before.given is.at after.given is.read.told))

pub timed-look : (config : Config) (before after : Dial) (old new : Seat) (question : Question) (answer : Answer) → IsLookedAt config before old question answer after new
    → StaysTimed (mine_of old) before.given (mine_of new) after.given
timed-look config before after old new question answer is =
    subst (λ (es : List Entry). StaysTimed (mine_of old) before.given es after.given) (sym is.more.mine)
    (timed-still before.given after.given (mine_of old) (is.at ∷ []) (gives-one before.given is.at after.given is.read.told))

-- a call that no wait is, however it ends
pub timed-call : (config : Config) (before after : Dial) (old new : Seat) (asked : Call) (result : Result Reply NoEntry) → begun_in asked ≡ []
    → IfOk result (λ reply. IsServed before old asked reply after new) → IfErr result (λ why. IsUnserved config before old asked why after new)
    → StaysTimed (mine_of old) before.given (mine_of new) after.given
timed-call config before after old new asked (Ok reply) none good bad = timed-served before after old new asked reply none good
timed-call config before after old new asked (Err why) none good bad = timed-unserved config before after old new asked why bad
