-- From what all clients leave to the one history.
use Rattle.std.proofs.Common.{◌≡◌, ℕ, zero, suc, ◌+◌, ◌-◌, ◌<◌, ◌≤◌, ◌⊎◌, inl, inr, ⊎_elim, true, List, [], ◌∷◌, length, slice_index_or, Option, Some, None, refl, sym, ap, ◌∙◌, subst, arith}
use Rattle.std.specs.Prelude.{IfSome, IsSome, Result, IsOk}
use Rattle.std.proofs.lemmas.Bool.{cases_lt}
use Rattle.child_spawner.specs.declared.fates.Asked.{Asked}
use Rattle.child_spawner.specs.declared.fates.Fate.{Fate}
use Rattle.child_spawner.specs.Children.{Told}
use Rattle.drmaa_types.specs.declared.changes.Notification.{Notification}
use Rattle.drmaa_types.specs.declared.refusals.Refusal.{Refusal}
use Rattle.drmaa_model.specs.declared.configs.Config.{Config}
use Rattle.drmaa_model.specs.declared.entries.Entry.{Entry}
use Rattle.drmaa_model.specs.declared.looks.Answer.TheVariants as answer
use Rattle.drmaa_model.specs.Consistent.{IsConsistent}
use Rattle.drmaa_model.specs.Fit.{IsFit}
use Rattle.drmaa_model.specs.History.{IsLegal, replay}
use Rattle.drmaa_model.specs.NextLaunch.{settled}
use Rattle.drmaa_model.specs.Plan.{Plan}
use Rattle.drmaa_model.specs.SettledLaws.{IsQuiet}
use Rattle.drmaa_model.specs.Time.{advance, advance_plan}
use Rattle.turn_lock.specs.Histories.{BeginsWith}
use Rattle.turn_lock.specs.Tokens.{Named}
use Rattle.call_history.specs.declared.desks.Desk.{Desk}
use Rattle.call_history.specs.Callers.{calls_of}
use Rattle.call_history.specs.Clients.{Seat, seen_of, mine_of, number_of, retired_of}
use Rattle.call_history.specs.ClientLaws.{begins-itself, begins-both}
use Rattle.attendant.specs.declared.reaper.Held.{Held}
use Rattle.attendant.specs.declared.reaper.Hand.{Hand}
use Rattle.attendant.specs.Acts.{acts_of, Each, is_launched}
use Rattle.attendant.specs.Runs.{is_ended}
use Rattle.attendant.specs.Outside.{Keeps, AgreesOf, IsLaunchersEntry, IsReapersEntry}
use Rattle.attendant.specs.Whole.{AgreesWithOutside, AreAlone}
use Rattle.change_callbacks.specs.Ears.{HaveHeard, place_at}
use Rattle.notify_hub.specs.Hubs.{Following, MayBe, noted}
use Rattle.change_callbacks.specs.Places.{Follows, HavePlaces, changes_of, place_of}
use Rattle.change_callbacks.specs.Places as places
use Rattle.beside_clients.specs.Starts.{AreAsked}
use Rattle.beside_clients.proofs.Beginnings.{calls-begin, begins-shorter, nothing-after}
use Rattle.beside_clients.proofs.Outside.{IsClosed, may-note, asked-of, outside-of}
use Rattle.drmaa.specs.Closed.{RegistersFrom, IsHistory, IsAtRest, AsksAsClient, AllAskAsClients, HaveHeardAll}
use Rattle.drmaa.specs.Crews.{IsKnown, IsLeft}
use Rattle.drmaa.specs.Works.{caller_at, HaveMade}
use Rattle.drmaa.proofs.Callers.{by-caller, works-aside, none-aside, registers-aside}
use Rattle.drmaa.proofs.Places.{filled}

-- what is true of every legal history
pub record Laws (config : Config) : Type 0 where
  pub consistent : (history : List Entry) → IsLegal config history → IsConsistent (replay config history)
  pub quiet : (entry at : ℕ) (p : Plan) → IsFit p → settled (advance_plan entry at p) ≡ true → IsQuiet p

-- the numbers that these entries register have their places
registered-there : (n : ℕ) (es : List Entry) (ps : List (Option ℕ)) → RegistersFrom (n + 1) es → HavePlaces es ps → (i : ℕ) → i < length es → IsSome (place_at ps (n + i))
registered-there n [] ps all have i h = absurd (omega arith)
registered-there n (e ∷ es) ps all have zero h =
    let here : IsSome (place_at ps (n + 1 - 1)) = have.0 all.0 (n + 1) all.1 in
    subst (λ (k : ℕ). IsSome (place_at ps k)) (let k : n + 1 - 1 ≡ n + 0 = omega arith in k) here
registered-there n (e ∷ es) ps all have (suc i) h =
    subst (λ (k : ℕ). IsSome (place_at ps k)) (let k : (n + 1) + i ≡ n + suc i = omega arith in k) (registered-there (n + 1) es ps all.2 have.1 i (omega arith))

registered-at : (es : List Entry) (ps : List (Option ℕ)) → RegistersFrom 1 es → HavePlaces es ps → (i : ℕ) → i < length es → IsSome (place_at ps i)
registered-at es ps all have i h = subst (λ (k : ℕ). IsSome (place_at ps k)) (let k : 0 + i ≡ i = omega arith in k) (registered-there 0 es ps all have i h)

-- a place that is there is that of its number
some-place : {B : Type 0} (config : Config) (history : List Entry) (hub : Following B) → Follows config history hub.ears → (i : ℕ) → (o : Option ℕ) → place_at hub.ears.places i ≡ o → IsSome o → o ≡ place_of config history (i + 1)
some-place config history hub f i None at is = absurd (cc)
some-place config history hub f i (Some p) at is = sym (f.places i p at)

module _ {B C T : Type 0} (counted : B → ℕ) (told : B → Option (List Notification)) (tells : T → Option Told) (Does : List (Desk C) → Type 0) (shared : Named Config) (p : Seat) (clients : ℕ)
    (asked asked2 : Option (List Asked)) (fate : ℕ → Fate) (first hub : Following B) (count : ℕ) (ended : Result (Unit {0}) Refusal)
    (x : IsLeft counted told tells Does shared p clients asked asked2 fate first hub count ended) where
  module _ (some : 1 ≤ clients) (history : List Entry) (laws : Laws shared.fixed) (closed : IsClosed shared.fixed p history) where
    -- ---- the entries of each caller

    of-launcher : calls_of history 1 ≡ mine_of x.launcher.client
    of-launcher = closed.lists 1 (mine_of x.launcher.client) x.back.launcher_back

    of-reaper : calls_of history 2 ≡ mine_of x.reaping
    of-reaper = closed.lists 2 (mine_of x.reaping) x.back.reaping_back

    of-hub : calls_of history 3 ≡ mine_of x.hub_seat
    of-hub = closed.lists 3 (mine_of x.hub_seat) x.back.hub_seat_back

    of-others : (k : ℕ) → clients + 2 < k → calls_of history k ≡ []
    of-others k above = closed.strangers k (let n = x.back.count in omega arith)

    -- ---- what stands in beginnings

    enough : (top : List Entry) (k n : ℕ) (seen own : List Entry) → BeginsWith top seen → calls_of history k ≡ own → own ≡ calls_of seen n → n ≡ k → length (calls_of history k) ≤ length (calls_of top k)
    enough top k n seen own b all knows is =
        let same : calls_of history k ≡ calls_of seen k = all ∙ (knows ∙ ap (λ (m : ℕ). calls_of seen m) is) in
        let e = ap length same in
        let h = begins-shorter (calls_of top k) (calls_of seen k) (calls-begin top seen k b) in
        omega arith

    -- of each of the work's clients
    enough-of : (top : List Entry) (k : ℕ) → BeginsWith top (seen_of x.launcher.client) → ((k < 4) × (0 < k) → ⊥) → (k < length (retired_of p)) ⊎ (length (retired_of p) ≤ k) → length (calls_of history k) ≤ length (calls_of top k)
    enough-of top k launched not (inl below) =
        let f = filled (retired_of p) k x.back.none_out below in
        ⊎_elim (λ (a : (k < 4) × (0 < k)). absurd (not a))
        (λ (a : IsKnown (seen_of x.launcher.client) k f.own). enough top k k a.seen f.own (begins-both a.seen (seen_of x.launcher.client) top a.begins launched) (closed.lists k f.own f.is) a.own_is refl)
        (x.back.known k f.own f.is)
    enough-of top k launched not (inr beyond) = let e = ap length (closed.strangers k beyond) in omega arith

    -- what the launcher's client and the reaper's have seen is all
    all-within : (top : List Entry) → BeginsWith history top → BeginsWith top (seen_of x.launcher.client) → BeginsWith top (seen_of x.reaping) → history ≡ top
    all-within top within launched reaped = nothing-after history top within
        (by-caller (λ k. length (calls_of history k) ≤ length (calls_of top k))
        (enough-of top 0 launched (λ a. absurd (let h = a.1 in omega arith)) (cases_lt 0 (length (retired_of p))))
        (enough top 1 (number_of x.launcher.client) (seen_of x.launcher.client) (mine_of x.launcher.client) launched of-launcher x.launcher_knows x.launcher_is)
        (enough top 2 (number_of x.reaping) (seen_of x.reaping) (mine_of x.reaping) reaped of-reaper x.reaping_knows x.reaping_is)
        (enough top 3 (number_of x.early) (seen_of x.early) (mine_of x.early) (begins-both (seen_of x.early) (seen_of x.launcher.client) top x.from_early launched) (of-hub ∙ x.hub_seat_mine) x.early_knows x.early_is)
        (λ k above. enough-of top k launched (λ a. absurd (let h = a.0 in omega arith)) (cases_lt k (length (retired_of p)))))

    -- ---- the history

    launches : Each IsLaunchersEntry (acts_of (calls_of history 1))
    launches = subst (λ (es : List Entry). Each IsLaunchersEntry (acts_of es)) (sym of-launcher) x.tends.launches

    reports : Each IsReapersEntry (acts_of (calls_of history 2))
    reports = subst (λ (es : List Entry). Each IsReapersEntry (acts_of es)) (sym of-reaper) x.tends.reports

    numbers : RegistersFrom 1 (calls_of history 3)
    numbers = subst (RegistersFrom 1) (sym of-hub) x.numbers

    pub is-history : IsHistory shared.fixed count clients history
    is-history = record {
      legal = closed.legal;
      launcher = launches;
      reaper = reports;
      ended = λ job attempt ends. subst (λ (es : List Entry). is_launched job attempt (acts_of es) ≡ true) (sym of-launcher)
          (x.tends.ended job attempt (subst (λ (es : List Entry). is_ended job attempt (acts_of es) ≡ true) of-reaper ends));
      hub = numbers;
      callbacks_are = ap length of-hub ∙ x.as_many;
      strangers = of-others;
    }

    pub have-made : HaveMade clients history x.desks
    have-made i d below = record {
      number = x.back.numbers i d below;
      mine = sym (closed.lists (number_of (slice_index_or x.desks i d).client) (mine_of (slice_index_or x.desks i d).client) (x.back.back i d below));
    }

    -- ---- at rest

    launcher-known : BeginsWith history (seen_of x.launcher.client)
    launcher-known = begins-both (seen_of x.launcher.client) (seen_of p) history x.back.launcher_known closed.seen

    pub at-rest : IsOk ended → IsAtRest shared.fixed history
    at-rest ok =
        let same : history ≡ seen_of x.launcher.client = all-within (seen_of x.launcher.client) launcher-known (begins-itself (seen_of x.launcher.client)) (x.begins ok) in
        let l = (x.settled ok).look in
        let said : answer.Settled true ≡ answer.Settled (settled (advance (replay shared.fixed (seen_of x.launcher.client)) l.at).plan) = l.told in
        let here : settled (advance (replay shared.fixed (seen_of x.launcher.client)) l.at).plan ≡ true = cc in
        let now : settled (advance (replay shared.fixed history) l.at).plan ≡ true = subst (λ (es : List Entry). settled (advance (replay shared.fixed es) l.at).plan ≡ true) (sym same) here in
        record {
          quiet = laws.quiet ((replay shared.fixed history).entries + 1) l.at (replay shared.fixed history).plan (laws.consistent history closed.legal).fit now;
          at = l.at;
          settled_is = now;
        }

    -- ---- the outside

    pub are-asked : asked ≡ Some [] → IfSome asked2 (AreAsked (acts_of (calls_of history 1)))
    are-asked none = asked-of tells fate history 1 2 x.launcher.client x.reaping x.at x.hand of-launcher of-reaper asked2 (x.keeps none)

    -- a client of the work, or nobody's number
    aside-at : AllAskAsClients clients history → (n : ℕ) → (n < clients) ⊎ (clients ≤ n) → AsksAsClient (calls_of history (caller_at n))
    aside-at aside n (inl below) = aside n below
    aside-at aside zero (inr beyond) = absurd (let s = some in omega arith)
    aside-at aside (suc n) (inr beyond) = none-aside (calls_of history (n + 4)) (of-others (n + 4) (omega arith))

    aside-behind : AllAskAsClients clients history → (k : ℕ) → 3 < k → AsksAsClient (calls_of history k)
    aside-behind aside (suc (suc (suc (suc n)))) above =
        subst (λ (k : ℕ). AsksAsClient (calls_of history k)) (let z : n + 4 ≡ suc (suc (suc (suc n))) = omega arith in z) (aside-at aside (suc n) (cases_lt (suc n) clients))
    aside-behind aside (suc (suc (suc zero))) above = absurd (omega arith)
    aside-behind aside (suc (suc zero)) above = absurd (omega arith)
    aside-behind aside (suc zero) above = absurd (omega arith)
    aside-behind aside zero above = absurd (omega arith)

    alone-all : AllAskAsClients clients history → AreAlone 1 2 (acts_of history)
    alone-all aside = works-aside history (aside 0 some) launches reports (registers-aside 1 (calls_of history 3) numbers) (aside-behind aside)

    pub outside-agrees : ((starts : List Asked) (at : ℕ → Option (Held T)) (hand : Option Hand) → AreAlone 1 2 (acts_of history) → Keeps tells (Some starts) fate (acts_of (calls_of history 1)) (acts_of (calls_of history 2)) at hand
        → AgreesOf (Some starts) fate (acts_of (calls_of history 1)) (acts_of (calls_of history 2)) → AgreesWithOutside starts fate (acts_of history))
        → asked ≡ Some [] → IsOk ended → AllAskAsClients clients history → IfSome asked2 (λ starts. AgreesWithOutside starts fate (acts_of history))
    outside-agrees law none ok aside =
        outside-of tells fate history 1 2 x.launcher.client x.reaping x.at x.hand of-launcher of-reaper (λ starts. law starts x.at x.hand) (alone-all aside) asked2 (x.keeps none) (x.agrees ok none)

    -- ---- the callbacks

    pub have-heard : (before after : List B) → first.ears.begun ≡ before → count ≡ length before → HaveHeard counted told first.ears
        → ((config : Config) → MayBe config hub.note → HaveHeard counted told hub.ears → hub.ears.handed ≡ changes_of config (noted hub.note) → places.HaveHeardAll counted told config (noted hub.note) hub.ears.places hub.ears.begun after)
        → HaveHeardAll counted told shared.fixed history before after
    have-heard before after begun_is count_is silence taken =
        let top : history ≡ seen_of x.hub_seat = all-within (seen_of x.hub_seat) (begins-both (seen_of x.hub_seat) (seen_of p) history x.back.hub_seat_known closed.seen) x.from_launcher x.from_reaping in
        let f = x.follows in
        let may : MayBe shared.fixed hub.note = may-note shared hub.note f.note.own in
        let at : noted hub.note ≡ history = f.note.seen_is ∙ sym top in
        let follows : Follows shared.fixed history hub.ears = subst (λ (h : List Entry). Follows shared.fixed h hub.ears) at (f.follows shared.fixed may) in
        let handed : hub.ears.handed ≡ changes_of shared.fixed (noted hub.note) = f.handed ∙ ap (λ (h : List Entry). changes_of shared.fixed h) (sym f.note.seen_is) in
        let all : places.HaveHeardAll counted told shared.fixed history hub.ears.places before after =
        subst (λ (l : List B). places.HaveHeardAll counted told shared.fixed history hub.ears.places l after) (x.begun ∙ begun_is)
        (subst (λ (h : List Entry). places.HaveHeardAll counted told shared.fixed h hub.ears.places hub.ears.begun after) at (taken shared.fixed may (x.heard silence) handed)) in
        record {
          as_many = all.as_many;
          each = λ i d below. all.each i d below
              (some-place shared.fixed history hub follows i (place_at hub.ears.places i) refl (registered-at (mine_of x.hub_seat) hub.ears.places x.numbers x.places i (let m = x.as_many in let c = count_is in omega arith)));
        }
