-- Looks, draws and the coming of a turn keep the rule.
use Rattle.std.proofs.Common.{◌≡◌, ◌≢◌, inl, inr, ⊎_elim, ℕ, ◌+◌, ◌<◌, ◌≤◌, eqb, Bool, true, false, List, [], ◌∷◌, length, get_or, set, refl, sym, ap, ◌∙◌, subst, arith, le_refl, lt_of_not-le}
use Rattle.std.specs.Prelude.{Option, Some}
use mathlib.Core.Option.{none, some, some-injective, some-ne-none}
use mathlib.Core.Option as maybe
use mathlib.Core.Logic.{dite}
use native.Mathlib.Decide.{ℕ_discrete}
use prog.Atomic.{either}
use lib.ListN.{get_elem?}
use Rattle.atomic_table.specs.Table.{State, Me, Act, keeps, takes, Valid, carried_after, stepped, Allows}
use Rattle.atomic_table.proofs.Lists.{set_here, exchanged}
use Rattle.drmaa_types.specs.declared.chronicles.ChronicleEntry.{ChronicleEntry}
use Rattle.turn_lock.specs.declared.views.View.{View}
use Rattle.turn_lock.specs.declared.views.Kind.{Kind}
use Rattle.turn_lock.specs.declared.views.Stage.{Stage}
use Rattle.turn_lock.specs.declared.views.Kind.TheVariants.{Spent, Note, Opener, Caller}
use Rattle.turn_lock.specs.declared.views.Stage.TheVariants.{Idle, Waiting, Turn}
use Rattle.turn_lock.specs.Histories.{of, BeginsWith, IsLegalSoFar}
use Rattle.turn_lock.specs.Views.{looked, waiting, called, tried, granted}
use Rattle.turn_lock.specs.Rule.{greatest, Scene, IsTicket, AtStage, StandsAs, Stands, Sits, HasTicket, HasTurn, IsHome, Lies, LockRule, LockHolds}
use Rattle.turn_lock.specs.Plays.{Learns, LearnsWhole, Looks, Draws, Awaits, Tries}
use Rattle.turn_lock.proofs.Histories.{begins_refl, begins_trans, begins_along, of-none}
use Rattle.turn_lock.proofs.Scenes.{within, put, put-here, put-else, Moves, low_of, legal_of, as_caller, stands_caller, no_ticket, no_turn, all_after, sits_after}
use Rattle.turn_lock.proofs.Quiet.{quiet, turn_below}

older : (t old drawn : ℕ) → t < drawn → (old ≤ t → ⊥) → t < old
older t old drawn b no_more = lt_of_not-le no_more

module _ {Ask Answer Fixed V : Type 0} (entries : V → List (ChronicleEntry Ask Answer)) (fixed_of : V → Fixed) (legal : Fixed → List (ChronicleEntry Ask Answer) → Type 0) (fixed : Fixed) where
  -- what a step of a seat owes when the word becomes `new`
  abbrev pub Goes : State (Option V) (View Ask Answer Fixed) → ℕ → ℕ → Me (Option V) (View Ask Answer Fixed) → (Me (Option V) (View Ask Answer Fixed) → Type 0) → ℕ → Type 0
  Goes s i id m then new = (w : View Ask Answer Fixed) × (a : Act (Option V)) × Valid s.homes m.1 a × LockHolds entries fixed_of legal fixed (stepped s i new id m.1 w a) × then (w, carried_after m.1 a)

  stands_looked : (x : Scene Ask Answer) (id : ℕ) (v : View Ask Answer Fixed) (n : ℕ) → n ≤ x.served → (k : Kind) → StandsAs fixed x id v k → StandsAs fixed x id (looked n v) k
  stands_looked x id v n le Spent h = record { idle = h.idle; nothing = h.nothing; low = le }
  stands_looked x id v n le Note h = (record { fixed_is = h.0.fixed_is; seen = h.0.seen; before = h.0.before; learnt = h.0.learnt; low = le; high = h.0.high }, record { idle = h.1.idle; none = h.1.none })
  stands_looked x id v n le Opener h = (record { fixed_is = h.0.fixed_is; seen = h.0.seen; before = h.0.before; learnt = h.0.learnt; low = le; high = h.0.high }, record { first = h.1.first; idle = h.1.idle; lists = h.1.lists; counted = h.1.counted })
  stands_looked x id v n le Caller h = (
    record { fixed_is = h.0.fixed_is; seen = h.0.seen; before = h.0.before; learnt = h.0.learnt; low = le; high = h.0.high },
    record { given = h.1.given; held = h.1.held; out = h.1.out; mine = h.1.mine; own = h.1.own; stage = h.1.stage },
  )

  shows : (s : State (Option V) (View Ask Answer Fixed)) (x : Scene Ask Answer) (r : LockRule entries fixed_of legal fixed s x) (id : ℕ) (v : View Ask Answer Fixed) (k : Kind) → StandsAs fixed x id v k → Learns v k
  shows s x r id v Spent h = tt
  shows s x r id v Note h = tt
  shows s x r id v Opener h = record {
    clean = λ n le. of-none v.seen x.history n h.0.seen (r.strangers n (let same : length v.retired ≡ length x.retired = ap (λ (l : List (Option (List (ChronicleEntry Ask Answer)))). length l) h.1.lists in omega arith));
    counted = h.1.counted;
  }
  shows s x r id v Caller h = h.1.own

  shows_both : (x : Scene Ask Answer) (id : ℕ) (v : View Ask Answer Fixed) (k : Kind) → StandsAs fixed x id v k → LearnsWhole v k
  shows_both x id v Spent h = tt
  shows_both x id v Note h = (h.0.before, h.0.learnt)
  shows_both x id v Opener h = (h.0.before, h.0.learnt)
  shows_both x id v Caller h = (h.0.before, h.0.learnt)

  -- a look by a seat that waits for no turn, or whose turn has not come
  quiet_look : (s : State (Option V) (View Ask Answer Fixed)) (x : Scene Ask Answer) (r : LockRule entries fixed_of legal fixed s x) (id : ℕ) (v : View Ask Answer Fixed) → get_elem? s.views id ≡ some v
      → LockRule entries fixed_of legal fixed record { words = set s.words 2 (get_or s.words 2 0); homes = s.homes; views = set s.views id (looked (get_or s.words 2 0) v) } x
  quiet_look s x r id v at =
      let n : ℕ = get_or s.words 2 0 in
      let is : n ≡ x.served = ap (λ (ws : List ℕ). get_or ws 2 0) r.words in
      quiet entries fixed_of legal fixed s x r id v (looked n v) at (set s.words 2 n) (ap (λ (ws : List ℕ). set ws 2 (get_or ws 2 0)) r.words) refl
      (stands_looked x id v n (omega arith) v.kind (r.each id v at))

  pub looks : (slots id : ℕ) (m : Me (Option V) (View Ask Answer Fixed)) → Allows (LockHolds entries fixed_of legal fixed) slots id m 2 (λ n. n) (Looks legal m)
  looks slots id m s law wide at _ =
      let x : Scene Ask Answer = law.0 in
      let r : LockRule entries fixed_of legal fixed s x = law.1 in
      let v : View Ask Answer Fixed = m.0 in
      let n : ℕ = get_or s.words 2 0 in
      let is : n ≡ x.served = ap (λ (ws : List ℕ). get_or ws 2 0) r.words in
      let below : x.served < greatest = r.served in (
        looked n v,
        keeps,
        tt,
        (x, quiet_look s x r id v at),
        record { after = refl; below = subst (λ (k : ℕ). k < greatest) (sym is) below; learns = shows s x r id v v.kind (r.each id v at); both = shows_both x id v v.kind (r.each id v at); low = let le : v.low ≤ x.served = low_of fixed x id v (r.each id v at) in omega arith; sees = legal_of fixed x id v legal r.beginnings (r.each id v at) },
      )

  -- The pass has the next ticket, so the value is at home
  free_at : (s : State (Option V) (View Ask Answer Fixed)) (x : Scene Ask Answer) (r : LockRule entries fixed_of legal fixed s x) (id : ℕ) (v : View Ask Answer Fixed) → get_elem? s.views id ≡ some v → v.stage ≡ Waiting x.served → x.owner x.served ≡ id
      → (b : Bool) → x.taken ≡ b → x.taken ≡ false
  free_at s x r id v at stage owned true e =
      let t = r.turn e in
      let same : t.view ≡ v = some-injective t.view v (sym t.at ∙ (ap (λ (k : ℕ). get_elem? s.views k) owned ∙ at)) in
      let st : v.stage ≡ Turn x.served = subst (λ (u : View Ask Answer Fixed). HasTurn x.served u) same t.has in
      absurd (cc (st, stage))
  free_at s x r id v at stage owned false e = e

  -- the value, when nobody is in turn
  at_home : (s : State (Option V) (View Ask Answer Fixed)) (x : Scene Ask Answer) (r : LockRule entries fixed_of legal fixed s x) → x.taken ≡ false → IsHome entries fixed_of fixed s.homes x.history
  at_home s x r free = subst (λ (b : Bool). Lies entries fixed_of fixed s.homes x.history b) free r.home

  -- the value at home is legal
  home_legal : (s : State (Option V) (View Ask Answer Fixed)) (x : Scene Ask Answer) (r : LockRule entries fixed_of legal fixed s x) (h : IsHome entries fixed_of fixed s.homes x.history) → IsLegalSoFar (legal (fixed_of h.value)) (entries h.value)
  home_legal s x r h =
      subst (λ (l : List (ChronicleEntry Ask Answer)). IsLegalSoFar (legal (fixed_of h.value)) l) (sym h.whole)
      (subst (λ (f : Fixed). IsLegalSoFar (legal f) x.history) (sym h.same) (r.beginnings x.history (begins_refl x.history)))

  -- the new scene is y, and the seat stands in it with the turn
  takes_turn : (s : State (Option V) (View Ask Answer Fixed)) (x : Scene Ask Answer) (r : LockRule entries fixed_of legal fixed s x) (id : ℕ) (v w : View Ask Answer Fixed) → get_elem? s.views id ≡ some v → v.kind ≡ Caller
      → (h : IsHome entries fixed_of fixed s.homes x.history) (drawn : ℕ) (owner : ℕ → ℕ) → x.drawn ≤ drawn → drawn ≤ greatest → x.served < drawn → owner x.served ≡ id → ((t : ℕ) → t < x.drawn → owner t ≡ x.owner t)
      → ((t : ℕ) → x.drawn ≤ t → t < drawn → t ≡ x.served) → ((t : ℕ) → HasTicket t v → t ≡ x.served)
      → w ≡ record v { stage = Turn x.served; seen = entries h.value; low = w.low; high = w.high; looks = w.looks; tries = w.tries; draws = w.draws } → w.low ≤ x.served → w.high ≤ drawn
      → (ws : List ℕ) → ws ≡ length x.history ∷ drawn ∷ x.served ∷ [] → x.taken ≡ false
      → LockHolds entries fixed_of legal fixed record { words = ws; homes = set s.homes 0 none; views = set s.views id w }
  takes_turn s x r id v w at caller h drawn owner more top next owned owners fresh only is low high ws words free =
      let so = as_caller fixed x id v (r.each id v at) caller in
      let y : Scene Ask Answer = record { history = x.history; drawn = drawn; served = x.served; taken = true; owner = owner; holder = x.holder; retired = x.retired } in
      let new : View Ask Answer Fixed = record v { stage = Turn x.served; seen = entries h.value; low = w.low; high = w.high; looks = w.looks; tries = w.tries; draws = w.draws } in
      let goes : BeginsWith (entries h.value) v.seen = begins_along x.history (entries h.value) v.seen v.seen (sym h.whole) refl so.0.seen in
      let here : Stands fixed y id new = stands_caller fixed y id new caller
      record {
        fixed_is = so.0.fixed_is;
        seen = begins_along x.history x.history x.history (entries h.value) refl (sym h.whole) (begins_refl x.history);
        before = begins_trans (entries h.value) v.seen v.before goes so.0.before;
        learnt = begins_trans (entries h.value) v.seen v.learnt goes so.0.learnt;
        low = low;
        high = high;
      }
      record {
        given = so.1.given;
        held = so.1.held;
        out = so.1.out;
        mine = so.1.mine;
        own = ap (λ (l : List (ChronicleEntry Ask Answer)). of l v.number) h.whole ∙ so.1.mine;
        stage = record { next = refl; drawn = next; owned = owned; taken = refl; whole = h.whole };
      } in
      let m : Moves x y id id = record {
        grows = begins_refl x.history;
        served = le_refl x.served;
        drawn = more;
        waits = λ t a _ _. a;
        owner = owners;
        turn = λ e _. absurd (cc (e, free));
        given = le_refl (length x.retired);
        holder = λ n _. refl;
        own = λ n _ _. refl;
        out = λ n _ _. refl;
        lists = λ _. refl;
      } in
      let wide : id < length s.views = within s.views id v at in (
        y,
        record {
          words = words;
          order = let a : x.served ≤ x.drawn = r.order in let b : x.drawn ≤ drawn = more in omega arith;
          served = r.served;
          drawn = top;
          home = ap (λ (hs : List (maybe.Option (Option V))). set hs 0 none) h.there;
          turn = λ _. record { view = w; at = ap (λ (k : ℕ). get_elem? (set s.views id w) k) owned ∙ set_here s.views id w wide; has = ap (λ (u : View Ask Answer Fixed). u.stage) is };
          tickets = λ t a b c. dite (ℕ_discrete t x.served)
              (λ e. record { view = w; at = ap (λ (k : ℕ). get_elem? (set s.views id w) (owner k)) e ∙ (ap (λ (k : ℕ). get_elem? (set s.views id w) k) owned ∙ set_here s.views id w wide); has = inr (ap (λ (u : View Ask Answer Fixed). u.stage) is ∙ ap (λ (k : ℕ). Turn k) (sym e)) })
              (λ ne. let old : t < x.drawn = older t x.drawn drawn b (λ q. ne (fresh t q b)) in
              subst (λ (k : ℕ). Sits (set s.views id w) k (HasTicket t)) (sym (owners t old))
              (sits_after (HasTicket t) (HasTicket t) s.views id v w at (λ p. absurd (ne (only t p))) (λ u p. p) (x.owner t) (r.tickets t a old c)));
          gone = r.gone;
          strangers = r.strangers;
          beginnings = r.beginnings;
          each = all_after fixed x y s.views id w m (subst (λ (u : View Ask Answer Fixed). Stands fixed y id u) (sym is) here) r.each;
        },
      )

  pub awaits : (slots id : ℕ) (m : Me (Option V) (View Ask Answer Fixed)) (t : ℕ) → m.0.kind ≡ Caller → m.0.stage ≡ Waiting t → Allows (LockHolds entries fixed_of legal fixed) slots id m 2 (λ n. n) (Awaits entries fixed_of legal m)
  awaits slots id m t caller stage s law wide at _ =
      let x : Scene Ask Answer = law.0 in
      let r : LockRule entries fixed_of legal fixed s x = law.1 in
      let v : View Ask Answer Fixed = m.0 in
      let n : ℕ = get_or s.words 2 0 in
      let is : n ≡ x.served = ap (λ (ws : List ℕ). get_or ws 2 0) r.words in
      let so = as_caller fixed x id v (r.each id v at) caller in
      let below_it : v.low ≤ x.served = so.0.low in
      let least : v.low ≤ n = omega arith in
      let ticket : IsTicket x id t = subst (λ (st : Stage). AtStage x id v.seen st) stage so.1.stage in
      dite (ℕ_discrete n t)
      (λ hit.
      let t_is : t ≡ x.served = sym hit ∙ is in
      let stage' : v.stage ≡ Waiting x.served = stage ∙ ap (λ (k : ℕ). Waiting k) t_is in
      let owned : x.owner x.served ≡ id = ap x.owner (sym t_is) ∙ ticket.owned in
      let free : x.taken ≡ false = free_at s x r id v at stage' owned x.taken refl in
      let h : IsHome entries fixed_of fixed s.homes x.history = at_home s x r free in
      let w : View Ask Answer Fixed = called n (entries h.value) v in
      let below : x.served < x.drawn = subst (λ (k : ℕ). k < x.drawn) t_is ticket.drawn in (
        w,
        takes 0 (Some h.value),
        ap (λ (hs : List (maybe.Option (Option V))). get_elem? hs 0) h.there,
        takes_turn s x r id v w at caller h x.drawn x.owner (le_refl x.drawn) r.drawn below owned (λ k _. refl) (λ k a b. absurd {A = k ≡ x.served} (omega arith))
            (λ k p. ⊎_elim (λ e. cc (e, stage')) (λ e. cc (e, stage')) p)
            (ap (λ (k : ℕ). record v { stage = Turn k; low = n; looks = v.looks + 1; seen = entries h.value }) is) (omega arith) so.0.high
            (set s.words 2 n) (ap (λ (ws : List ℕ). set ws 2 (get_or ws 2 0)) r.words) free,
        record {
          hit = λ _. record {
            value = h.value;
            held = refl;
            view = refl;
            goes_on = begins_along x.history (entries h.value) v.seen v.seen (sym h.whole) refl so.0.seen;
            own = ap (λ (l : List (ChronicleEntry Ask Answer)). of l v.number) h.whole ∙ so.1.mine;
            same = so.0.fixed_is ∙ ap (λ (f : Fixed). Some f) (sym h.same);
            is_legal = home_legal s x r h;
          };
          miss = λ no'. absurd (no' (stage ∙ ap (λ (k : ℕ). Waiting k) (sym hit)));
          low = least;
        },
      ))
      (λ miss. (
        looked n v,
        keeps,
        tt,
        (x, quiet_look s x r id v at),
        record { hit = λ e. absurd (miss (cc (e, stage))); miss = λ _. refl; low = least },
      ))

  -- the next ticket was drawn, and its owner waits
  drawn_on : (s : State (Option V) (View Ask Answer Fixed)) (x : Scene Ask Answer) (r : LockRule entries fixed_of legal fixed s x) (id : ℕ) (v : View Ask Answer Fixed) → get_elem? s.views id ≡ some v → v.kind ≡ Caller → v.stage ≡ Idle
      → (d : ℕ) → x.drawn ≡ d → d < greatest → (ws : List ℕ) → ws ≡ length x.history ∷ (d + 1) ∷ x.served ∷ []
      → LockHolds entries fixed_of legal fixed record { words = ws; homes = s.homes; views = set s.views id (waiting d v) }
  drawn_on s x r id v at caller idle d is room ws words =
      let so = as_caller fixed x id v (r.each id v at) caller in
      let w : View Ask Answer Fixed = waiting d v in
      let order : x.served ≤ x.drawn = r.order in
      let y : Scene Ask Answer = record { history = x.history; drawn = d + 1; served = x.served; taken = x.taken; owner = put x.owner d id; holder = x.holder; retired = x.retired } in
      let owners : (t : ℕ) → t < x.drawn → put x.owner d id t ≡ x.owner t = λ t h. put-else x.owner d id t (λ e. omega arith) in
      let high : v.high ≤ x.drawn = so.0.high in
      let here : Stands fixed y id w = stands_caller fixed y id w caller
      record { fixed_is = so.0.fixed_is; seen = so.0.seen; before = so.0.before; learnt = so.0.learnt; low = so.0.low; high = omega arith }
      record {
        given = so.1.given;
        held = so.1.held;
        out = so.1.out;
        mine = so.1.mine;
        own = so.1.own;
        stage = record { waits = omega arith; drawn = omega arith; owned = put-here x.owner d id };
      } in
      let m : Moves x y id id = record {
        grows = begins_refl x.history;
        served = le_refl x.served;
        drawn = omega arith;
        waits = λ t a _ _. a;
        owner = owners;
        turn = λ h _. (h, refl, refl);
        given = le_refl (length x.retired);
        holder = λ n _. refl;
        own = λ n _ _. refl;
        out = λ n _ _. refl;
        lists = λ _. refl;
      } in
      let wide : id < length s.views = within s.views id v at in (
        y,
        record {
          words = words;
          order = omega arith;
          served = r.served;
          drawn = let g : d < greatest = room in omega arith;
          home = r.home;
          turn = λ h. let below = turn_below entries fixed_of legal fixed s x r h in
              subst (λ (k : ℕ). Sits (set s.views id w) k (HasTurn x.served)) (sym (owners x.served below))
              (sits_after (HasTurn x.served) (HasTurn x.served) s.views id v w at (λ p. absurd (no_turn v v x.served idle p)) (λ u p. p) (x.owner x.served) (r.turn h));
          tickets = λ t a b c. dite (ℕ_discrete t d)
              (λ e. record { view = w; at = ap (λ (k : ℕ). get_elem? (set s.views id w) (put x.owner d id k)) e ∙ (ap (λ (k : ℕ). get_elem? (set s.views id w) k) (put-here x.owner d id) ∙ set_here s.views id w wide); has = inl (ap (λ (k : ℕ). Waiting k) (sym e)) })
              (λ ne. let old : t < x.drawn = omega arith in
              subst (λ (k : ℕ). Sits (set s.views id w) k (HasTicket t)) (sym (owners t old))
              (sits_after (HasTicket t) (HasTicket t) s.views id v w at (λ p. absurd (no_ticket v v t idle p)) (λ u p. p) (x.owner t) (r.tickets t a old c)));
          gone = r.gone;
          strangers = r.strangers;
          beginnings = r.beginnings;
          each = all_after fixed x y s.views id w m here r.each;
        },
      )

  pub draws : (slots id : ℕ) (m : Me (Option V) (View Ask Answer Fixed)) (d : ℕ) → m.0.kind ≡ Caller → m.0.stage ≡ Idle → d < greatest
      → Allows (LockHolds entries fixed_of legal fixed) slots id m 1 (λ n. either (eqb n d) (d + 1) n) (Draws d m)
  draws slots id m d caller idle room s law wide at _ =
      let x : Scene Ask Answer = law.0 in
      let r : LockRule entries fixed_of legal fixed s x = law.1 in
      let v : View Ask Answer Fixed = m.0 in
      let n : ℕ = get_or s.words 1 0 in
      let is : n ≡ x.drawn = ap (λ (ws : List ℕ). get_or ws 1 0) r.words in
      exchanged n d (d + 1) (Goes s 1 id m (Draws d m n))
      (λ hit. (
        waiting d v,
        keeps,
        tt,
        drawn_on s x r id v at caller idle d (sym is ∙ hit) room (set s.words 1 (d + 1)) (ap (λ (ws : List ℕ). set ws 1 (d + 1)) r.words),
        record { hit = λ e. ap (λ (k : ℕ). (waiting k v, m.1)) (sym hit); miss = λ differs. absurd (differs hit) },
      ))
      (λ miss. (
        v,
        keeps,
        tt,
        (x, quiet entries fixed_of legal fixed s x r id v v at (set s.words 1 n) (ap (λ (ws : List ℕ). set ws 1 (get_or ws 1 0)) r.words) refl (r.each id v at)),
        record { hit = λ e. absurd (miss e); miss = λ _. refl },
      ))

  -- the next ticket is also the next that is served: nobody is in turn
  idle_home : (s : State (Option V) (View Ask Answer Fixed)) (x : Scene Ask Answer) (r : LockRule entries fixed_of legal fixed s x) → x.served ≡ x.drawn → (b : Bool) → x.taken ≡ b → x.taken ≡ false
  idle_home s x r is true e = let below = turn_below entries fixed_of legal fixed s x r e in absurd (omega arith)
  idle_home s x r is false e = e

  pub tries : (slots id : ℕ) (m : Me (Option V) (View Ask Answer Fixed)) (d : ℕ) → m.0.kind ≡ Caller → m.0.stage ≡ Idle → m.0.low ≡ d → d < greatest
      → Allows (LockHolds entries fixed_of legal fixed) slots id m 1 (λ n. either (eqb n d) (d + 1) n) (Tries entries fixed_of legal d m)
  tries slots id m d caller idle low room s law wide at _ =
      let x : Scene Ask Answer = law.0 in
      let r : LockRule entries fixed_of legal fixed s x = law.1 in
      let v : View Ask Answer Fixed = m.0 in
      let n : ℕ = get_or s.words 1 0 in
      let is : n ≡ x.drawn = ap (λ (ws : List ℕ). get_or ws 1 0) r.words in
      let so = as_caller fixed x id v (r.each id v at) caller in
      let least : v.low ≤ x.served = so.0.low in
      let order : x.served ≤ x.drawn = r.order in
      let high : v.high ≤ x.drawn = so.0.high in
      exchanged n d (d + 1) (Goes s 1 id m (Tries entries fixed_of legal d m n))
      (λ hit.
      let all : x.served ≡ d = omega arith in
      let same : x.drawn ≡ d = sym is ∙ hit in
      let free : x.taken ≡ false = idle_home s x r (all ∙ sym same) x.taken refl in
      let h : IsHome entries fixed_of fixed s.homes x.history = at_home s x r free in
      let w : View Ask Answer Fixed = granted n (entries h.value) v in
      let g : d < greatest = room in
      let owners : (t : ℕ) → t < x.drawn → put x.owner d id t ≡ x.owner t = λ t h'. put-else x.owner d id t (λ e. omega arith) in (
        w,
        takes 0 (Some h.value),
        ap (λ (hs : List (maybe.Option (Option V))). get_elem? hs 0) h.there,
        takes_turn s x r id v w at caller h (d + 1) (put x.owner d id) (omega arith) (omega arith) (omega arith) (ap (λ (k : ℕ). put x.owner d id k) all ∙ put-here x.owner d id) owners
            (λ t a b. omega arith) (λ t p. absurd (no_ticket v v t idle p))
            (ap (λ (k : ℕ). record v { stage = Turn k; high = n; tries = v.tries + 1; draws = v.draws + 1; seen = entries h.value }) (is ∙ (same ∙ sym all))) least (omega arith)
            (set s.words 1 (d + 1)) (ap (λ (ws : List ℕ). set ws 1 (d + 1)) r.words) free,
        record {
          hit = λ _. record {
            value = h.value;
            held = refl;
            view = refl;
            goes_on = begins_along x.history (entries h.value) v.seen v.seen (sym h.whole) refl so.0.seen;
            own = ap (λ (l : List (ChronicleEntry Ask Answer)). of l v.number) h.whole ∙ so.1.mine;
            same = so.0.fixed_is ∙ ap (λ (f : Fixed). Some f) (sym h.same);
            is_legal = home_legal s x r h;
          };
          miss = λ differs. absurd (differs hit);
        },
      ))
      (λ miss.
      let here : Stands fixed x id (tried n v) = stands_caller fixed x id (tried n v) caller
      record { fixed_is = so.0.fixed_is; seen = so.0.seen; before = so.0.before; learnt = so.0.learnt; low = so.0.low; high = omega arith }
      record { given = so.1.given; held = so.1.held; out = so.1.out; mine = so.1.mine; own = so.1.own; stage = so.1.stage } in (
        tried n v,
        keeps,
        tt,
        (x, quiet entries fixed_of legal fixed s x r id v (tried n v) at (set s.words 1 n) (ap (λ (ws : List ℕ). set ws 1 (get_or ws 1 0)) r.words) refl here),
        record { hit = λ e. absurd (miss e); miss = λ _. (refl, (let lower : d ≤ n = omega arith in let differs : n ≢ d = miss in omega arith)) },
      ))
