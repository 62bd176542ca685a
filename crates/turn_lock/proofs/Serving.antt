-- The pass in turn raises the length and serves the next ticket; and what is left when the lock is closed.
use Rattle.std.proofs.Common.{◌≡◌, ◌≢◌, ⊎_elim, ℕ, ◌+◌, ◌%◌, ◌^◌, ◌<◌, ◌≤◌, Bool, true, false, List, [], ◌∷◌, ◌++◌, length, get_or, set, refl, sym, ap, ◌∙◌, subst, arith, le_refl, length-append}
use Rattle.std.specs.Prelude.{Option, Some, None}
use Rattle.std.proofs.Math.Nat.{mod-eq_of_lt}
use mathlib.Core.Option.{none, some, some-injective, some-ne-none}
use mathlib.Core.Option as maybe
use mathlib.Core.Logic.{dite}
use native.Mathlib.Decide.{ℕ_discrete}
use lib.ListN.{get_elem?}
use Rattle.atomic_table.specs.Table.{State, Me, keeps, gives, put_back, Allows, Final, Seen}
use Rattle.drmaa_types.specs.declared.chronicles.ChronicleEntry.{ChronicleEntry}
use Rattle.turn_lock.specs.declared.views.View.{View}
use Rattle.turn_lock.specs.declared.views.Kind.{Kind}
use Rattle.turn_lock.specs.declared.views.Stage.{Stage}
use Rattle.turn_lock.specs.declared.views.Kind.TheVariants.{Spent, Note, Opener, Caller}
use Rattle.turn_lock.specs.declared.views.Stage.TheVariants.{Turn}
use Rattle.turn_lock.specs.Histories.{of, BeginsWith, IsLegalSoFar, left_of}
use Rattle.turn_lock.specs.Views.{acted, left}
use Rattle.turn_lock.specs.Rule.{greatest, last_ticket, Scene, InTurn, AtStage, StandsAs, Stands, HasTicket, HasTurn, Lies, LockRule, LockHolds}
use Rattle.turn_lock.specs.Plays.{in_hand, Raises, Serves, HasLeft}
use Rattle.turn_lock.proofs.Histories.{begins_refl, begins_trans, begins_along, begins_append, beginning_of, of-other, none_left}
use Rattle.turn_lock.proofs.Scenes.{Moves, legal_of, in_turn, as_caller, as_opener, stands_caller, all_after, sits_after}

module _ {Ask Answer Fixed V : Type 0} (entries : V → List (ChronicleEntry Ask Answer)) (fixed_of : V → Fixed) (legal : Fixed → List (ChronicleEntry Ask Answer) → Type 0) (fixed : Fixed) where
  -- the value in the pass's hand has one entry more, the pass's own
  pub raises : (slots id : ℕ) (m : Me (Option V) (View Ask Answer Fixed)) (t : ℕ) (e : ChronicleEntry Ask Answer) → m.0.kind ≡ Caller → m.0.stage ≡ Turn t
      → in_hand entries m.1 ≡ m.0.seen ++ e ∷ [] → e.caller.0 ≡ m.0.number → length (in_hand entries m.1) < 2 ^ 64 → legal fixed (in_hand entries m.1)
      → Allows (LockHolds entries fixed_of legal fixed) slots id m 0 (λ n. (n + 1) % 2 ^ 64) (λ n w. Raises entries m w)
  raises slots id m t e caller stage adds mine fits sound s law wide at _ =
      let x : Scene Ask Answer = law.0 in
      let r : LockRule entries fixed_of legal fixed s x = law.1 in
      let v : View Ask Answer Fixed = m.0 in
      let new : List (ChronicleEntry Ask Answer) = in_hand entries m.1 in
      let own : List (ChronicleEntry Ask Answer) = of new v.number in
      let w : View Ask Answer Fixed = acted new own v in
      let n : ℕ = get_or s.words 0 0 in
      let is : n ≡ length x.history = ap (λ (ws : List ℕ). get_or ws 0 0) r.words in
      let so = as_caller fixed x id v (r.each id v at) caller in
      let turn : InTurn x id t v.seen = in_turn fixed x id v t (r.each id v at) stage in
      let adds' : new ≡ x.history ++ e ∷ [] = adds ∙ ap (λ (l : List (ChronicleEntry Ask Answer)). l ++ e ∷ []) turn.whole in
      let goes : BeginsWith new x.history = begins_along (x.history ++ e ∷ []) new x.history x.history (sym adds') refl (begins_append x.history (e ∷ [])) in
      let sees : BeginsWith new v.seen = begins_trans new x.history v.seen goes so.0.seen in
      let long : length new ≡ length x.history + 1 = ap (λ (l : List (ChronicleEntry Ask Answer)). length l) adds' ∙ length-append x.history (e ∷ []) in
      let plus : n + 1 ≡ length new = omega arith in
      let count : (n + 1) % 2 ^ 64 ≡ length new = ap (λ (k : ℕ). k % 2 ^ 64) plus ∙ mod-eq_of_lt fits in
      let owned : x.owner x.served ≡ id = ap x.owner (sym turn.next) ∙ turn.owned in
      let others : (k : ℕ) → k ≢ v.number → of new k ≡ of x.history k = λ k ne. ap (λ (l : List (ChronicleEntry Ask Answer)). of l k) adds' ∙ of-other x.history e k (λ q. ne (sym q ∙ mine)) in
      let y : Scene Ask Answer = record { history = new; drawn = x.drawn; served = x.served; taken = x.taken; owner = x.owner; holder = x.holder; retired = x.retired } in
      let m' : Moves x y id id = record {
        grows = goes;
        served = le_refl x.served;
        drawn = le_refl x.drawn;
        waits = λ k a _ _. a;
        owner = λ k _. refl;
        turn = λ _ ne. absurd (ne owned);
        given = le_refl (length x.retired);
        holder = λ k _. refl;
        own = λ k _ ne. others k (λ q. ne (ap x.holder q ∙ so.1.held));
        out = λ k _ _. refl;
        lists = λ _. refl;
      } in
      let here : Stands fixed y id w = stands_caller fixed y id w caller
      record { fixed_is = so.0.fixed_is; seen = begins_refl new; before = begins_trans new v.seen v.before sees so.0.before; learnt = begins_trans new v.seen v.learnt sees so.0.learnt; low = so.0.low; high = so.0.high }
      record {
        given = so.1.given;
        held = so.1.held;
        out = so.1.out;
        mine = refl;
        own = refl;
        stage = subst (λ (st : Stage). AtStage y id new st) (sym stage) record { next = turn.next; drawn = turn.drawn; owned = turn.owned; taken = turn.taken; whole = refl };
      } in
      let away : s.homes ≡ none ∷ [] = subst (λ (b : Bool). Lies entries fixed_of fixed s.homes x.history b) turn.taken r.home in (
        w,
        keeps,
        tt,
        (
          y,
          record {
            words = ap (λ (ws : List ℕ). set ws 0 ((n + 1) % 2 ^ 64)) r.words ∙ ap (λ (k : ℕ). k ∷ x.drawn ∷ x.served ∷ []) count;
            order = r.order;
            served = r.served;
            drawn = r.drawn;
            home = subst (λ (b : Bool). Lies entries fixed_of fixed s.homes new b) (sym turn.taken) away;
            turn = λ h. sits_after (HasTurn x.served) (HasTurn x.served) s.views id v w at (λ p. p) (λ u p. p) (x.owner x.served) (r.turn h);
            tickets = λ k a b c. sits_after (HasTicket k) (HasTicket k) s.views id v w at (λ p. p) (λ u p. p) (x.owner k) (r.tickets k a b c);
            gone = λ k l q. others k (λ is'. cc (q, ap (λ (i : ℕ). get_or x.retired i None) is', so.1.out)) ∙ r.gone k l q;
            strangers = λ k h. others k (λ is'. let g : v.number < length x.retired = so.1.given in omega arith) ∙ r.strangers k h;
            beginnings = λ start b. ⊎_elim (λ old. r.beginnings start old)
                (λ all. subst (λ (l : List (ChronicleEntry Ask Answer)). IsLegalSoFar (legal fixed) l) (adds' ∙ sym all) record { holds = λ _. sound })
                (beginning_of x.history e start b.rest (sym adds' ∙ b.whole));
            each = all_after fixed x y s.views id w m' here r.each;
          },
        ),
        refl,
      )

  -- the value is in the pass's hand with the whole history: it goes home, and the next ticket is served
  pub serves : (slots id : ℕ) (m : Me (Option V) (View Ask Answer Fixed)) (t k : ℕ) (value : V) → m.0.kind ≡ Caller → m.0.stage ≡ Turn t
      → m.1 ≡ (0, Some value) ∷ [] → entries value ≡ m.0.seen → fixed_of value ≡ fixed → (t ≡ last_ticket → k ≡ 0) → (t ≢ last_ticket → k ≡ 1)
      → Allows (LockHolds entries fixed_of legal fixed) slots id m 2 (λ n. (n + k) % 2 ^ 64) (λ n w. Serves legal m w)
  serves slots id m t k value caller stage holds whole same zero_at one_at s law wide at _ =
      let x : Scene Ask Answer = law.0 in
      let r : LockRule entries fixed_of legal fixed s x = law.1 in
      let v : View Ask Answer Fixed = m.0 in
      let w : View Ask Answer Fixed = left v in
      let n : ℕ = get_or s.words 2 0 in
      let is : n ≡ x.served = ap (λ (ws : List ℕ). get_or ws 2 0) r.words in
      let so = as_caller fixed x id v (r.each id v at) caller in
      let turn : InTurn x id t v.seen = in_turn fixed x id v t (r.each id v at) stage in
      let room : x.served < greatest = r.served in
      let next : t ≡ x.served = turn.next in
      let below : t < x.drawn = turn.drawn in
      let small : x.served + k < greatest = dite (ℕ_discrete t last_ticket) (λ e. let z : k ≡ 0 = zero_at e in omega arith) (λ ne. let o : k ≡ 1 = one_at ne in omega arith) in
      let least : k ≤ 1 = dite (ℕ_discrete t last_ticket) (λ e. let z : k ≡ 0 = zero_at e in omega arith) (λ ne. let o : k ≡ 1 = one_at ne in omega arith) in
      let plus : n + k ≡ x.served + k = omega arith in
      let fits : x.served + k < 2 ^ 64 = omega arith in
      let count : (n + k) % 2 ^ 64 ≡ x.served + k = ap (λ (i : ℕ). i % 2 ^ 64) plus ∙ mod-eq_of_lt fits in
      let owned : x.owner x.served ≡ id = ap x.owner (sym turn.next) ∙ turn.owned in
      let y : Scene Ask Answer = record { history = x.history; drawn = x.drawn; served = x.served + k; taken = false; owner = x.owner; holder = x.holder; retired = x.retired } in
      let m' : Moves x y id id = record {
        grows = begins_refl x.history;
        served = omega arith;
        drawn = le_refl x.drawn;
        waits = λ i a b ne. let d : i ≢ x.served = λ q. ne (ap x.owner q ∙ owned) in omega arith;
        owner = λ i _. refl;
        turn = λ _ ne. absurd (ne owned);
        given = le_refl (length x.retired);
        holder = λ i _. refl;
        own = λ i _ _. refl;
        out = λ i _ _. refl;
        lists = λ _. refl;
      } in
      let low : v.low ≤ x.served = so.0.low in
      let here : Stands fixed y id w = stands_caller fixed y id w caller
      record { fixed_is = so.0.fixed_is; seen = so.0.seen; before = so.0.before; learnt = so.0.learnt; low = omega arith; high = so.0.high }
      record { given = so.1.given; held = so.1.held; out = so.1.out; mine = so.1.mine; own = so.1.own; stage = tt } in
      let away : s.homes ≡ none ∷ [] = subst (λ (b : Bool). Lies entries fixed_of fixed s.homes x.history b) turn.taken r.home in (
        w,
        gives,
        tt,
        (
          y,
          record {
            words = ap (λ (ws : List ℕ). set ws 2 ((n + k) % 2 ^ 64)) r.words ∙ ap (λ (i : ℕ). length x.history ∷ x.drawn ∷ i ∷ []) count;
            order = omega arith;
            served = small;
            drawn = r.drawn;
            home = record { value = value; there = ap (λ (c : List (ℕ × Option V)). put_back s.homes c) holds ∙ ap (λ (hs : List (maybe.Option (Option V))). set hs 0 (some (Some value))) away; whole = whole ∙ turn.whole; same = same };
            turn = λ h. absurd (cc h);
            tickets = λ i a b c. sits_after (HasTicket i) (HasTicket i) s.views id v w at
                (λ p. let eq : i ≡ t = ⊎_elim (λ q. absurd (cc (q, stage))) (λ q. cc (q, stage)) p in absurd (dite (ℕ_discrete t last_ticket) (λ q. c (eq ∙ q)) (λ ne. let o : k ≡ 1 = one_at ne in omega arith)))
                (λ u p. p) (x.owner i) (r.tickets i (omega arith) b c);
            gone = r.gone;
            strangers = r.strangers;
            beginnings = r.beginnings;
            each = all_after fixed x y s.views id w m' here r.each;
          },
        ),
        record { after = refl; sees = legal_of fixed x id v legal r.beginnings (r.each id v at) },
      )

  nobody : (x : Scene Ask Answer) (i t : ℕ) (v : View Ask Answer Fixed) → left_of x.retired ≡ 0 → (k : Kind) → StandsAs fixed x i v k → v.stage ≡ Turn t → ⊥
  nobody x i t v back Spent h e = cc (e, h.idle)
  nobody x i t v back Note h e = cc (e, h.1.idle)
  nobody x i t v back Opener h e = cc (e, h.1.idle)
  nobody x i t v back Caller h e = none_left x.retired v.number h.1.given back h.1.out

  all_back : (s : State (Option V) (View Ask Answer Fixed)) (x : Scene Ask Answer) (r : LockRule entries fixed_of legal fixed s x) → left_of x.retired ≡ 0 → (b : Bool) → x.taken ≡ b → x.taken ≡ false
  all_back s x r back true e = let t = r.turn e in absurd (nobody x (x.owner x.served) x.served t.view back t.view.kind (r.each (x.owner x.served) t.view t.at) t.has)
  all_back s x r back false e = e

  pub closes : (id : ℕ) (v : View Ask Answer Fixed) (ws : List ℕ) (xs : List (Option V)) → v.kind ≡ Opener → left_of v.retired ≡ 0 → Final (Seen (LockHolds entries fixed_of legal fixed) id v) ws xs
      → (value : V) × (get_elem? xs 0 ≡ some (Some value)) × HasLeft entries fixed_of legal fixed v value
  closes id v ws xs is back final =
      let s : State (Option V) (View Ask Answer Fixed) = final.0 in
      let x : Scene Ask Answer = final.1.0.0 in
      let r : LockRule entries fixed_of legal fixed s x = final.1.0.1 in
      let so = as_opener fixed x id v (r.each id v final.1.1) is in
      let back' : left_of x.retired ≡ 0 = ap (λ (l : List (Option (List (ChronicleEntry Ask Answer)))). left_of l) (sym so.1.lists) ∙ back in
      let free = all_back s x r back' x.taken refl in
      let h : Lies entries fixed_of fixed s.homes x.history false = subst (λ (b : Bool). Lies entries fixed_of fixed s.homes x.history b) free r.home in (
        h.value,
        final.4 0 (Some h.value) (ap (λ (hs : List (maybe.Option (Option V))). get_elem? hs 0) h.there),
        record {
          goes_on = begins_along x.history (entries h.value) v.seen v.seen (sym h.whole) refl so.0.seen;
          retired = λ n own e. ap (λ (l : List (ChronicleEntry Ask Answer)). of l n) h.whole ∙ r.gone n own (ap (λ (l : List (Option (List (ChronicleEntry Ask Answer)))). get_or l n None) (sym so.1.lists) ∙ e);
          strangers = λ n le. ap (λ (l : List (ChronicleEntry Ask Answer)). of l n) h.whole ∙ r.strangers n (let same : length v.retired ≡ length x.retired = ap (λ (l : List (Option (List (ChronicleEntry Ask Answer)))). length l) so.1.lists in omega arith);
          same = h.same;
          is_legal = subst (λ (l : List (ChronicleEntry Ask Answer)). IsLegalSoFar (legal fixed) l) (sym h.whole) (r.beginnings x.history (begins_refl x.history));
        },
      )
