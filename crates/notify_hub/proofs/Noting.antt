-- How a hub keeps its places where what was seen goes on, and how a new number gets its place.
use Rattle.std.proofs.Common.{◌≡◌, ℕ, ◌+◌, ◌-◌, ◌<◌, ◌≤◌, zero, suc, ◌⊎◌, inl, inr, List, [], ◌∷◌, ◌++◌, length, refl, sym, ap, ◌∙◌, subst, arith, Option, Some, None, slice_set, IfSome, append_assoc}
use Rattle.std.specs.Prelude.{IfNone, replicate}
use Rattle.std.proofs.lemmas.List.{length-set, length-replicate}
use Rattle.drmaa_types.specs.declared.refusals.Refusal.{Refusal}
use Rattle.drmaa_model.specs.declared.calls.Call.{Call}
use Rattle.drmaa_model.specs.declared.calls.Call.TheVariants as call
use Rattle.drmaa_model.specs.declared.configs.Config.{Config}
use Rattle.drmaa_model.specs.declared.entries.Entry.{Entry}
use Rattle.drmaa_model.specs.declared.faults.NoEntry.{NoEntry}
use Rattle.drmaa_model.specs.declared.replies.Reply.{Reply}
use Rattle.drmaa_model.specs.declared.replies.Reply.TheVariants as reply
use Rattle.drmaa_model.specs.History.{IsLegal}
use Rattle.drmaa_model.specs.HistoryLaws.{legal-prefix}
use Rattle.drmaa_model.specs.World.{opening_world}
use Rattle.turn_lock.specs.Histories.{BeginsWith}
use Rattle.turn_lock.specs.Tokens.{Named, BelongsTo}
use Rattle.call_history.specs.Calls.{entry_by, IsServed, IsUnserved}
use Rattle.call_history.specs.ClientLaws.{more-both, makes-both}
use Rattle.call_history.specs.Clients.{Seat, seen_of, number_of, SeesMore, Makes}
use Rattle.call_history.specs.Clocks.{Dial}
use Rattle.change_callbacks.specs.Ears.{Listening, place_at, silent}
use Rattle.notify_hub.specs.Hubs.{noted, IsNoteOf, MayBe, FollowsNote, IsHub, with_place, IsRegistered, IsUnregistered}
use Rattle.notify_hub.specs.Hubs.IsUnregistered.{by_entry, by_fault}
use Rattle.change_callbacks.specs.PlacedLaws.{none-there}
use Rattle.change_callbacks.specs.Places.{changes_of, place_of, registrations_of, Follows, AreCountable}
use Rattle.notify_hub.specs.Registered.{IsNew, IsCounted}
use Rattle.notify_hub.proofs.Growing.{changes-begin, begins-changes, begins-length}
use Rattle.change_callbacks.specs.RegisterLaws.{place-stays, placed-among}
use Rattle.notify_hub.proofs.Registrations.{fewer-begins}

pub begins-nothing : (l : List Entry) → BeginsWith l []
begins-nothing l = record { rest = l; whole = refl }

pub begins-same : (a b c : List Entry) → c ≡ b → BeginsWith b a → BeginsWith c a
begins-same a b c is h = record { rest = h.rest; whole = is ∙ h.whole }

pub begins-on : (a b c : List Entry) → BeginsWith b a → BeginsWith c b → BeginsWith c a
begins-on a b c f s = record { rest = f.rest ++ s.rest; whole = s.whole ∙ (ap (λ (l : List Entry). l ++ s.rest) f.whole ∙ append_assoc a f.rest s.rest) }

place-on : (config : Config) (old new : List Entry) (n place : ℕ) → BeginsWith new old → place_of config old n ≡ Some place → place_of config new n ≡ Some place
place-on config old new n place b is = ap (λ (h : List Entry). place_of config h n) b.whole ∙ place-stays (opening_world config) n place old b.rest is

-- the configuration of a note of this machine is the machine's
pub may-be : (shared : Named Config) (note : Option Seat) → IsNoteOf shared note → MayBe shared.fixed note
may-be shared None own = tt
may-be shared (Some note) own = own.fixed_is

some-config : (a b : Config) → Some a ≡ Some b → a ≡ b
some-config a b e = cc

set-or : (ps : List (Option ℕ)) (k i : ℕ) (x : Option ℕ) (q : ℕ) → place_at (slice_set ps k x) i ≡ Some q → ((i ≡ k) × (x ≡ Some q)) ⊎ (place_at ps i ≡ Some q)
set-or [] k i x q is = inr is
set-or (p ∷ ps) zero zero x q is = inl (refl, is)
set-or (p ∷ ps) zero (suc i) x q is = inr is
set-or (p ∷ ps) (suc k) zero x q is = inr is
set-or (p ∷ ps) (suc k) (suc i) x q is = elim (set-or ps k i x q is) [ inl e ↦ inl (ap suc e.0, e.1) | inr e ↦ inr e ]

module _ {B : Type 0} where
  -- ears that follow a history follow one that goes on from it
  pub follows-on : (config : Config) (old new : List Entry) (ears : Listening B) → Follows config old ears → IsLegal config new → BeginsWith new old → Follows config new ears
  follows-on config old new ears f legal b = record {
    legal = legal;
    as_many = f.as_many;
    places = λ i place is. place-on config old new (i + 1) place b (f.places i place is);
    handed = begins-changes ears.handed (changes_of config old) (changes_of config new) f.handed (changes-begin config old new legal b);
  }

  -- a note of what was seen is what ears follow that follow this
  pub follows-note : (shared : Named Config) (ears : Listening B) (note : Option Seat) (seat : Seat) → note ≡ Some seat → BelongsTo shared seat → Follows shared.fixed (seen_of seat) ears → FollowsNote ears note
  follows-note shared ears left seat is own f = λ config may.
      let told : seat.view.fixed ≡ Some config = subst (MayBe config) is may in
      let same : shared.fixed ≡ config = some-config shared.fixed config (sym own.fixed_is ∙ told) in
      subst (λ (o : Option Seat). Follows config (noted o) ears) (sym is) (subst (λ (k : Config). Follows k (seen_of seat) ears) same f)

  -- ears that a hub keeps follow what was seen since
  pub hub-follows : (shared : Named Config) (ears : Listening B) (note : Option Seat) (handed : ℕ) (seen : List Entry) → IsHub ears note handed → IsNoteOf shared note → BeginsWith seen (noted note)
      → IsLegal shared.fixed seen → Follows shared.fixed seen ears
  hub-follows shared ears note handed seen k own b legal = follows-on shared.fixed (noted note) seen ears (k.follows shared.fixed (may-be shared note own)) legal b

  -- so the changes handed over are no more than those of what was seen since
  pub hub-ahead : (shared : Named Config) (ears : Listening B) (note : Option Seat) (handed : ℕ) (seen : List Entry) → IsHub ears note handed → IsNoteOf shared note → BeginsWith seen (noted note)
      → IsLegal shared.fixed seen → handed ≤ length (changes_of shared.fixed seen)
  hub-ahead shared ears note handed seen k own b legal =
      let f = hub-follows shared ears note handed seen k own b legal in
      let most = begins-length ears.handed (changes_of shared.fixed seen) f.handed in
      let count = k.counted in
      omega (arith, most, count)

  -- a new number gets its place
  pub follows-placed : (config : Config) (seen : List Entry) (ears : Listening B) (n place : ℕ) → 1 ≤ n → place_of config seen n ≡ Some place → Follows config seen ears
      → Follows config seen (with_place ears n (Some place))
  follows-placed config seen ears n place low is f = record {
    legal = f.legal;
    as_many = length-set ears.places (n - 1) (Some place) ∙ f.as_many;
    places = λ i q at. elim (set-or ears.places (n - 1) i (Some place) q at) [
      | inl e ↦
          (let same : i + 1 ≡ n = (let k = e.0 in omega (arith, k, low)) in
          ap (place_of config seen) same ∙ is ∙ e.1)
      | inr e ↦ f.places i q e
    ];
    handed = f.handed;
  }

  -- it had none
  pub hub-unplaced : (config : Config) (old mid : List Entry) (ears : Listening B) (n : ℕ) → Follows config old ears → BeginsWith mid old → IsLegal config mid → registrations_of config mid < n
      → place_at ears.places (n - 1) ≡ None
  hub-unplaced config old mid ears n f b legal unknown =
      (elim (place_at ears.places (n - 1)) as (λ o. place_at ears.places (n - 1) ≡ o → o ≡ None) [
        | None ↦ λ e. refl
        | Some q ↦ λ e.
            (let among = placed-among (opening_world config) (n - 1 + 1) q old f.legal (f.places (n - 1) q e) in
            let within = among.within in
            let more = fewer-begins config old mid legal b in
            absurd (omega (arith, within, more, unknown)))
      ]) refl

-- ---- relative to what the client had seen before it learnt

module _ (old mid new : Seat) (more : SeesMore old mid) (same : number_of mid ≡ number_of old) where
  served-both : (before after : Dial) (asked : Call) (r : Reply) → IsServed before mid asked r after new → IsServed before old asked r after new
  served-both before after asked r s = record {
    at = s.at;
    read = s.read;
    made = makes-both old mid new more same (entry_by (number_of old) s.at asked r) (subst (λ (n : ℕ). Makes mid (entry_by n s.at asked r) new) same s.made);
  }

  unserved-both : (config : Config) (before after : Dial) (asked : Call) (why : NoEntry) → IsUnserved config before mid asked why after new → IsUnserved config before old asked why after new
  unserved-both config before after asked why u = record { at = u.at; read = u.read; more = more-both old mid new more same u.more; reason = u.reason }

  pub unregistered-both : (config : Config) (before after : Dial) (why : Refusal) → IsUnregistered config before mid why after new → IsUnregistered config before old why after new
  unregistered-both config before after why (by_entry full s most) = by_entry full (served-both before after call.Register (reply.Refused why) s) most
  unregistered-both config before after why (by_fault f is u) = by_fault f is (unserved-both config before after call.Register f u)

  pub registered-both : (config : Config) (before read after : Dial) (n : ℕ) (last : Seat) → IsServed before mid call.Register (reply.Callback n) read new → IsNew config (seen_of mid) n (seen_of new) → SeesMore new last
      → read.least ≤ after.least → IsRegistered config before old n after last
  registered-both config before read after n last s new_is looked rises = record {
    read = read;
    seat = new;
    entry = served-both before read call.Register (reply.Callback n) s;
    number = new_is.number;
    most = new_is.most;
    looked = looked;
    rises = rises;
  }

-- a note of the client changes nothing of it
pub unregistered-at : (config : Config) (before after : Dial) (why : Refusal) (old new last : Seat) → last ≡ new → IsUnregistered config before old why after new → IsUnregistered config before old why after last
unregistered-at config before after why old new last is u = subst (λ (s : Seat). IsUnregistered config before old why after s) (sym is) u

-- the place that was counted is that of the number in what was seen
pub place-seen : (config : Config) (old mid seen : List Entry) (n place : ℕ) → IsNew config old n mid → BeginsWith seen mid → place ≡ length (changes_of config mid) → place_of config seen n ≡ Some place
place-seen config old mid seen n place is b counted = place-on config mid seen n place b (is.place ∙ ap Some (sym counted))

low-number : (config : Config) (old mid : List Entry) (n : ℕ) → IsNew config old n mid → 1 ≤ n
low-number config old mid n is = (let unknown = is.unknown in omega (arith, unknown))

pub number-within : (config : Config) (old mid : List Entry) (n : ℕ) → IsNew config old n mid → (1 ≤ n) × (n ≤ 64)
number-within config old mid n is = (low-number config old mid n is, is.most)

-- what was seen before a legal history is legal
pub legal-begins : (config : Config) (old new : List Entry) → IsLegal config new → BeginsWith new old → IsLegal config old
legal-begins config old new legal b = legal-prefix config old b.rest (subst (IsLegal config) b.whole legal)

module _ {B : Type 0} where
  -- a place that was counted is not behind what was handed over
  pub place-ahead : (config : Config) (ears : Listening B) (mid seen : List Entry) (place : Option ℕ) → Follows config mid ears → IsCounted config (length (changes_of config mid)) seen place
      → IfSome place (λ p. length ears.handed ≤ p)
  place-ahead config ears mid seen None f c = tt
  place-ahead config ears mid seen (Some p) f c = (let most = begins-length ears.handed (changes_of config mid) f.handed in omega (arith, most, c))

  -- the ears with the place, or without, follow what was seen
  pub placed-follows : (config : Config) (ears after : Listening B) (old mid seen : List Entry) (n : ℕ) (place : Option ℕ) → IsNew config old n mid → BeginsWith seen mid → Follows config seen ears
      → IsCounted config (length (changes_of config mid)) seen place → IfSome place (λ p. after ≡ with_place ears n (Some p)) → IfNone place (after ≡ ears) → Follows config seen after
  placed-follows config ears after old mid seen n None is b f c some none = subst (Follows config seen) (sym none) f
  placed-follows config ears after old mid seen n (Some p) is b f c some none =
      subst (Follows config seen) (sym some) (follows-placed config seen ears n p (low-number config old mid n is) (place-seen config old mid seen n p is b c) f)

  -- it is the place of the number's entry
  pub placed-is : (config : Config) (ears after : Listening B) (old mid seen : List Entry) (n : ℕ) (place : Option ℕ) → IsNew config old n mid → BeginsWith seen mid
      → IsCounted config (length (changes_of config mid)) seen place → IfSome place (λ p. after ≡ with_place ears n (Some p)) → AreCountable config seen → after ≡ with_place ears n (place_of config seen n)
  placed-is config ears after old mid seen n None is b c some few = absurd (c few)
  placed-is config ears after old mid seen n (Some p) is b c some few = some ∙ ap (with_place ears n) (sym (place-seen config old mid seen n p is b c))

  -- and so much was handed over as before
  pub placed-handed : (ears after : Listening B) (n : ℕ) (place : Option ℕ) → IfSome place (λ p. after ≡ with_place ears n (Some p)) → IfNone place (after ≡ ears) → after.handed ≡ ears.handed
  placed-handed ears after n None some none = ap (λ (e : Listening B). e.handed) none
  placed-handed ears after n (Some p) some none = ap (λ (e : Listening B). e.handed) some

lacks : (o : Option ℕ) (p : ℕ) → o ≡ None → o ≡ Some p → ⊥
lacks o p a b = cc

-- ears that nothing was done with follow every note
pub hub-silent : {B : Type 0} (callbacks : List B) (ears : Listening B) → ears ≡ silent callbacks → IsHub ears None 0
hub-silent {B} callbacks ears is = subst (λ (e : Listening B). IsHub e None 0) (sym is) (record {
  counted = refl;
  follows = λ config may. record {
    legal = tt;
    as_many = length-replicate {A = Option ℕ} 64 None;
    places = λ i place at. absurd (lacks (place_at (replicate 64 None) i) place (none-there 64 i) at);
    handed = record { rest = []; whole = refl };
  };
})
