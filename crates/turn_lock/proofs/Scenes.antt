-- What may change in a scene without touching a view that stands in it, and how the rule's facts on views go over one step.
use Rattle.std.proofs.Common.{◌≡◌, ◌≢◌, ◌⊎◌, inl, inr, ⊎_elim, ℕ, zero, suc, ◌<◌, ◌≤◌, Bool, true, false, List, [], ◌∷◌, ◌++◌, length, set, refl, sym, ap, ◌∙◌, subst, arith, le_refl, length-set}
use Rattle.std.specs.Prelude.{Some, None, slice_index_or}
use mathlib.Core.Option.{some, some-injective, some-ne-none}
use lib.ListN.{get_elem?}
use Rattle.drmaa_types.specs.declared.chronicles.ChronicleEntry.{ChronicleEntry}
use Rattle.turn_lock.specs.declared.views.View.{View}
use Rattle.turn_lock.specs.declared.views.Kind.{Kind}
use Rattle.turn_lock.specs.declared.views.Stage.{Stage}
use Rattle.turn_lock.specs.declared.views.Kind.TheVariants.{Spent, Note, Opener, Caller}
use Rattle.turn_lock.specs.declared.views.Stage.TheVariants.{Idle, Waiting, Turn}
use Rattle.turn_lock.specs.Histories.{of, BeginsWith, IsLegalSoFar}
use Rattle.turn_lock.specs.Rule.{Scene, InTurn, AtStage, Knows, StandsAsSpent, StandsAsNote, StandsAsOpener, StandsAsCaller, StandsAs, Stands, Sits, HasTicket, HasTurn}
use Rattle.turn_lock.proofs.Histories.{begins_refl, begins_trans}
use mathlib.Core.Logic.{dite}
use native.Mathlib.Decide.{ℕ_discrete}
use Rattle.std.proofs.Common.{eqb, eq-eqb, ne_eqb}
use Rattle.atomic_table.proofs.Lists.{at_set, set_here, set_else, at_longer}

module _ {A : Type 0} where
  -- a list that is one longer, read
  pub at_end : (l : List A) (a b : A) (j : ℕ) → get_elem? (l ++ a ∷ []) j ≡ some b → (get_elem? l j ≡ some b) ⊎ ((j ≡ length l) × (a ≡ b))
  at_end [] a b zero e = inr (refl, some-injective a b e)
  at_end [] a b (suc j) e = absurd (some-ne-none b (sym e))
  at_end (x ∷ xs) a b zero e = inl e
  at_end (x ∷ xs) a b (suc j) e = ⊎_elim (λ t. inl t) (λ t. inr (ap suc t.0, t.1)) (at_end xs a b j e)

  pub within : (l : List A) (i : ℕ) (a : A) → get_elem? l i ≡ some a → i < length l
  within [] i a e = absurd (some-ne-none a (sym e))
  within (x ∷ xs) zero a e = omega arith
  within (x ∷ xs) (suc i) a e = let r = within xs i a e in omega arith

-- what is changed at one argument
abbrev pub put : (ℕ → ℕ) → ℕ → ℕ → ℕ → ℕ
put f k v n = elim (eqb n k) as (λ _. ℕ) [ true ↦ v | false ↦ f n ]

pub put-here : (f : ℕ → ℕ) (k v : ℕ) → put f k v k ≡ v
put-here f k v = ap (λ (b : Bool). elim b as (λ _. ℕ) [ true ↦ v | false ↦ f k ]) (eq-eqb k k refl)

pub put-else : (f : ℕ → ℕ) (k v n : ℕ) → n ≢ k → put f k v n ≡ f n
put-else f k v n differs = ap (λ (b : Bool). elim b as (λ _. ℕ) [ true ↦ v | false ↦ f n ]) (ne_eqb n k differs)

-- one scene goes over into the next by a step of the seat a, which may take in the seat b
pub record Moves {Ask Answer : Type 0} (x y : Scene Ask Answer) (a b : ℕ) : Type 0 where
  pub grows : BeginsWith y.history x.history
  pub served : x.served ≤ y.served
  pub drawn : x.drawn ≤ y.drawn
  pub waits : (t : ℕ) → x.served ≤ t → t < x.drawn → x.owner t ≢ a → y.served ≤ t
  pub owner : (t : ℕ) → t < x.drawn → y.owner t ≡ x.owner t
  pub turn : x.taken ≡ true → x.owner x.served ≢ a → (y.taken ≡ true) × (y.served ≡ x.served) × (y.history ≡ x.history)
  pub given : length x.retired ≤ length y.retired
  pub holder : (n : ℕ) → n < length x.retired → y.holder n ≡ x.holder n
  pub own : (n : ℕ) → n < length x.retired → x.holder n ≢ a → of y.history n ≡ of x.history n
  pub out : (n : ℕ) → n < length x.retired → x.holder n ≢ b → slice_index_or y.retired n None ≡ slice_index_or x.retired n None
  pub lists : 0 ≢ a → y.retired ≡ x.retired

module _ {Ask Answer : Type 0} where
  pub stays_put : (x : Scene Ask Answer) (a b : ℕ) → Moves x x a b
  stays_put x a b = record { grows = begins_refl x.history; served = le_refl x.served; drawn = le_refl x.drawn; waits = λ t h _ _. h; owner = λ t _. refl; turn = λ h _. (h, refl, refl); given = le_refl (length x.retired); holder = λ n _. refl; own = λ n _ _. refl; out = λ n _ _. refl; lists = λ _. refl }

module _ {Ask Answer Fixed : Type 0} (fixed : Fixed) (x y : Scene Ask Answer) (a b : ℕ) (m : Moves x y a b) where
  pub knows_on : (v : View Ask Answer Fixed) → Knows fixed x v → Knows fixed y v
  knows_on v k =
      let low : v.low ≤ x.served = k.low in let high : v.high ≤ x.drawn = k.high in let up : x.served ≤ y.served = m.served in let more : x.drawn ≤ y.drawn = m.drawn in
      record { fixed_is = k.fixed_is; seen = begins_trans y.history x.history v.seen m.grows k.seen; before = k.before; learnt = k.learnt; low = omega arith; high = omega arith }

  stage_on : (i : ℕ) (seen : List (ChronicleEntry Ask Answer)) → i ≢ a → (s : Stage) → AtStage x i seen s → AtStage y i seen s
  stage_on i seen differs Idle h = tt
  stage_on i seen differs (Waiting t) h =
      let d : t < x.drawn = h.drawn in let more : x.drawn ≤ y.drawn = m.drawn in
      record { waits = m.waits t h.waits h.drawn (λ e. differs (sym h.owned ∙ e)); drawn = omega arith; owned = m.owner t h.drawn ∙ h.owned }
  stage_on i seen differs (Turn t) h =
      let d : t < x.drawn = h.drawn in let more : x.drawn ≤ y.drawn = m.drawn in
      let kept = m.turn h.taken (λ e. differs (sym h.owned ∙ (ap x.owner h.next ∙ e))) in
      record { next = h.next ∙ sym kept.1; drawn = omega arith; owned = m.owner t h.drawn ∙ h.owned; taken = kept.0; whole = h.whole ∙ sym kept.2 }

  stands_on : (i : ℕ) (v : View Ask Answer Fixed) → i ≢ a → i ≢ b → (k : Kind) → StandsAs fixed x i v k → StandsAs fixed y i v k
  stands_on i v na nb Spent h = let low : v.low ≤ x.served = h.low in let up : x.served ≤ y.served = m.served in record { idle = h.idle; nothing = h.nothing; low = omega arith }
  stands_on i v na nb Note h = (knows_on v h.0, h.1)
  stands_on i v na nb Opener h =
      (knows_on v h.0, record { first = h.1.first; idle = h.1.idle; lists = h.1.lists ∙ sym (m.lists (λ e. na (h.1.first ∙ e))); counted = h.1.counted })
  stands_on i v na nb Caller h =
      let g : v.number < length x.retired = h.1.given in let more : length x.retired ≤ length y.retired = m.given in
      (knows_on v h.0, record { given = omega arith; held = m.holder v.number g ∙ h.1.held; out = m.out v.number g (λ e. nb (sym h.1.held ∙ e)) ∙ h.1.out; mine = m.own v.number g (λ e. na (sym h.1.held ∙ e)) ∙ h.1.mine; own = h.1.own; stage = stage_on i v.seen na v.stage h.1.stage })

  -- who stands before stands after
  pub stands_after : (i : ℕ) (v : View Ask Answer Fixed) → i ≢ a → i ≢ b → Stands fixed x i v → Stands fixed y i v
  stands_after i v na nb h = stands_on i v na nb v.kind h

-- every view stands in its scene
abbrev pub AllStand : {Ask Answer Fixed : Type 0} → Fixed → Scene Ask Answer → List (View Ask Answer Fixed) → Type 0
AllStand {Ask} {Answer} {Fixed} fixed c views = (i : ℕ) (v : View Ask Answer Fixed) → get_elem? views i ≡ some v → Stands fixed c i v

module _ {Ask Answer Fixed : Type 0} (fixed : Fixed) (x y : Scene Ask Answer) where
  -- after a step of one seat
  pub all_after : (views : List (View Ask Answer Fixed)) (id : ℕ) (w : View Ask Answer Fixed) → Moves x y id id → Stands fixed y id w → AllStand fixed x views → AllStand fixed y (set views id w)
  all_after views id w m new all i u e =
      ⊎_elim (λ t. subst (λ (k : ℕ). Stands fixed y k u) (sym t.0) (subst (λ (z : View Ask Answer Fixed). Stands fixed y id z) t.1 new))
      (λ t. stands_after fixed x y id id m i u t.0 t.0 (all i u t.1)) (at_set views id i w u e)

  -- after a seat took in another
  pub all_joined : (views : List (View Ask Answer Fixed)) (id other : ℕ) (w gone : View Ask Answer Fixed) → Moves x y id other → Stands fixed y id w → gone.kind ≡ Spent → StandsAsSpent y gone → AllStand fixed x views → AllStand fixed y (set (set views id w) other gone)
  all_joined views id other w gone m new is spent all i u e =
      ⊎_elim (λ t. subst (λ (z : View Ask Answer Fixed). Stands fixed y i z) t.1 (subst (λ (k : Kind). StandsAs fixed y i gone k) (sym is) spent))
      (λ t. ⊎_elim (λ r. subst (λ (k : ℕ). Stands fixed y k u) (sym r.0) (subst (λ (z : View Ask Answer Fixed). Stands fixed y id z) r.1 new))
      (λ r. stands_after fixed x y id other m i u r.0 t.0 (all i u r.1)) (at_set views id i w u t.1))
      (at_set (set views id w) other i gone u e)

  -- after a seat was cut in two
  pub all_split : (views : List (View Ask Answer Fixed)) (id : ℕ) (w new : View Ask Answer Fixed) → Moves x y id id → Stands fixed y id w → Stands fixed y (length views) new → AllStand fixed x views → AllStand fixed y (set views id w ++ new ∷ [])
  all_split views id w new m here there all i u e =
      ⊎_elim (λ t. all_after views id w m here all i u t)
      (λ t. subst (λ (k : ℕ). Stands fixed y k u) (sym (t.0 ∙ length-set views id w)) (subst (λ (z : View Ask Answer Fixed). Stands fixed y (length views) z) t.1 there))
      (at_end (set views id w) new u i e)

module _ {Ask Answer Fixed : Type 0} (P : View Ask Answer Fixed → Type 0) (Q : View Ask Answer Fixed → Type 0) where
  -- who sits somewhere still does after a seat's view has changed
  pub sits_after : (views : List (View Ask Answer Fixed)) (id : ℕ) (v w : View Ask Answer Fixed) → get_elem? views id ≡ some v → (P v → Q w) → ((u : View Ask Answer Fixed) → P u → Q u) → (o : ℕ) → Sits views o P → Sits (set views id w) o Q
  sits_after views id v w at here else o s =
      dite (ℕ_discrete o id)
      (λ is. let same : s.view ≡ v = some-injective s.view v (sym s.at ∙ (ap (λ (k : ℕ). get_elem? views k) is ∙ at)) in
      record { view = w; at = ap (λ (k : ℕ). get_elem? (set views id w) k) is ∙ set_here views id w (within views id v at); has = here (subst P same s.has) })
      (λ differs. record { view = s.view; at = set_else views id o w differs ∙ s.at; has = else s.view s.has })

  pub sits_longer : (views : List (View Ask Answer Fixed)) (more : List (View Ask Answer Fixed)) → ((u : View Ask Answer Fixed) → P u → Q u) → (o : ℕ) → Sits views o P → Sits (views ++ more) o Q
  sits_longer views more else o s = record { view = s.view; at = at_longer views more o s.view s.at; has = else s.view s.has }

module _ {Ask Answer Fixed : Type 0} (fixed : Fixed) (x : Scene Ask Answer) (i : ℕ) (v : View Ask Answer Fixed) where
  turn_as : (t : ℕ) (k : Kind) → StandsAs fixed x i v k → v.stage ≡ Turn t → InTurn x i t v.seen
  turn_as t Spent h e = absurd (cc (e, h.idle))
  turn_as t Note h e = absurd (cc (e, h.1.idle))
  turn_as t Opener h e = absurd (cc (e, h.1.idle))
  turn_as t Caller h e = subst (λ (s : Stage). AtStage x i v.seen s) e h.1.stage

  -- who has the turn is the one whom the next ticket is
  pub in_turn : (t : ℕ) → Stands fixed x i v → v.stage ≡ Turn t → InTurn x i t v.seen
  in_turn t h e = turn_as t v.kind h e

  low_as : (k : Kind) → StandsAs fixed x i v k → v.low ≤ x.served
  low_as Spent h = h.low
  low_as Note h = h.0.low
  low_as Opener h = h.0.low
  low_as Caller h = h.0.low

  -- no view's last reading is above what is served
  pub low_of : Stands fixed x i v → v.low ≤ x.served
  low_of h = low_as v.kind h

  known_as : (f : Fixed) → v.fixed ≡ Some f → (k : Kind) → StandsAs fixed x i v k → (fixed ≡ f) × BeginsWith x.history v.seen
  known_as f e Spent h = absurd (cc (e, h.nothing))
  known_as f e Note h = (let s : Some fixed ≡ Some f = sym h.0.fixed_is ∙ e in cc s, h.0.seen)
  known_as f e Opener h = (let s : Some fixed ≡ Some f = sym h.0.fixed_is ∙ e in cc s, h.0.seen)
  known_as f e Caller h = (let s : Some fixed ≡ Some f = sym h.0.fixed_is ∙ e in cc s, h.0.seen)

  -- what a view has seen is legal where each beginning of the history is
  pub legal_of : (legal : Fixed → List (ChronicleEntry Ask Answer) → Type 0) → ((start : List (ChronicleEntry Ask Answer)) → BeginsWith x.history start → IsLegalSoFar (legal fixed) start) → Stands fixed x i v
      → (f : Fixed) → v.fixed ≡ Some f → IsLegalSoFar (legal f) v.seen
  legal_of legal all h f e = let t = known_as f e v.kind h in subst (λ (g : Fixed). IsLegalSoFar (legal g) v.seen) t.0 (all v.seen t.1)

  pub as_caller : Stands fixed x i v → v.kind ≡ Caller → Knows fixed x v × StandsAsCaller x i v
  as_caller h e = subst (λ (k : Kind). StandsAs fixed x i v k) e h

  pub as_opener : Stands fixed x i v → v.kind ≡ Opener → Knows fixed x v × StandsAsOpener x i v
  as_opener h e = subst (λ (k : Kind). StandsAs fixed x i v k) e h

  pub as_note : Stands fixed x i v → v.kind ≡ Note → Knows fixed x v × StandsAsNote v
  as_note h e = subst (λ (k : Kind). StandsAs fixed x i v k) e h

  pub stands_caller : v.kind ≡ Caller → Knows fixed x v → StandsAsCaller x i v → Stands fixed x i v
  stands_caller e k c = subst (λ (q : Kind). StandsAs fixed x i v q) (sym e) (k, c)

  pub stands_opener : v.kind ≡ Opener → Knows fixed x v → StandsAsOpener x i v → Stands fixed x i v
  stands_opener e k c = subst (λ (q : Kind). StandsAs fixed x i v q) (sym e) (k, c)

module _ {Ask Answer Fixed : Type 0} (v w : View Ask Answer Fixed) where
  pub ticket_along : (t : ℕ) → w.stage ≡ v.stage → HasTicket t v → HasTicket t w
  ticket_along t same h = ⊎_elim (λ e. inl (same ∙ e)) (λ e. inr (same ∙ e)) h

  pub no_ticket : (t : ℕ) → v.stage ≡ Idle → HasTicket t v → ⊥
  no_ticket t idle h = ⊎_elim (λ e. cc (e, idle)) (λ e. cc (e, idle)) h

  pub no_turn : (t : ℕ) → v.stage ≡ Idle → HasTurn t v → ⊥
  no_turn t idle e = cc (e, idle)
