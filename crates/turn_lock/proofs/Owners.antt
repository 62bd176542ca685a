-- No two turns at once, and no ticket with two owners, from the rule.
use Rattle.std.proofs.Common.{◌≡◌, ⊎_elim, ℕ, Bool, true, false, List, [], ◌∷◌, get_or, refl, sym, ap, ◌∙◌, subst}
use Rattle.std.specs.Prelude.{Option}
use mathlib.Core.Option.{none, some}
use mathlib.Core.Option as maybe
use Rattle.atomic_table.specs.Table.{State}
use Rattle.drmaa_types.specs.declared.chronicles.ChronicleEntry.{ChronicleEntry}
use Rattle.turn_lock.specs.declared.views.View.{View}
use Rattle.turn_lock.specs.declared.views.Kind.{Kind}
use Rattle.turn_lock.specs.declared.views.Stage.{Stage}
use Rattle.turn_lock.specs.declared.views.Kind.TheVariants.{Spent, Note, Opener, Caller}
use Rattle.turn_lock.specs.declared.views.Stage.TheVariants.{Turn}
use Rattle.turn_lock.specs.Rule.{Scene, IsTicket, InTurn, AtStage, StandsAs, HasTicket, Lies, LockRule, LockHolds}
use Rattle.turn_lock.specs.Owners.{HasOneTurn, HasOneOwner, IsWithTurn}
use Rattle.turn_lock.proofs.Scenes.{in_turn, no_ticket}

module _ {Ask Answer Fixed V : Type 0} (entries : V → List (ChronicleEntry Ask Answer)) (fixed_of : V → Fixed) (legal : Fixed → List (ChronicleEntry Ask Answer) → Type 0) (fixed : Fixed) where
  pub one_turn : (s : State (Option V) (View Ask Answer Fixed)) → LockHolds entries fixed_of legal fixed s → HasOneTurn s
  one_turn s law seat other t u v w at at' is is' =
      let x : Scene Ask Answer = law.0 in
      let r : LockRule entries fixed_of legal fixed s x = law.1 in
      let one : InTurn x seat t v.seen = in_turn fixed x seat v t (r.each seat v at) is in
      let two : InTurn x other u w.seen = in_turn fixed x other w u (r.each other w at') is' in
      let same : t ≡ u = one.next ∙ sym two.next in
      record {
        seat_is = sym one.owned ∙ (ap x.owner same ∙ two.owned);
        ticket_is = same;
        next = ap (λ (ws : List ℕ). get_or ws 2 0) r.words ∙ sym one.next;
        away = subst (λ (b : Bool). Lies entries fixed_of fixed s.homes x.history b) one.taken r.home;
      }

  owned_as : (x : Scene Ask Answer) (i t : ℕ) (v : View Ask Answer Fixed) (k : Kind) → StandsAs fixed x i v k → HasTicket t v → x.owner t ≡ i
  owned_as x i t v Spent h p = absurd (no_ticket v v t h.idle p)
  owned_as x i t v Note h p = absurd (no_ticket v v t h.1.idle p)
  owned_as x i t v Opener h p = absurd (no_ticket v v t h.1.idle p)
  owned_as x i t v Caller h p =
      ⊎_elim (λ e. let one : IsTicket x i t = subst (λ (st : Stage). AtStage x i v.seen st) e h.1.stage in one.owned)
      (λ e. let one : InTurn x i t v.seen = subst (λ (st : Stage). AtStage x i v.seen st) e h.1.stage in one.owned) p

  pub one_owner : (s : State (Option V) (View Ask Answer Fixed)) → LockHolds entries fixed_of legal fixed s → HasOneOwner s
  one_owner s law seat other t v w at at' has has' =
      let x : Scene Ask Answer = law.0 in
      let r : LockRule entries fixed_of legal fixed s x = law.1 in
      sym (owned_as x seat t v v.kind (r.each seat v at) has) ∙ owned_as x other t w w.kind (r.each other w at') has'

  home_or_out : (homes : List (maybe.Option (Option V))) (history : List (ChronicleEntry Ask Answer)) (b : Bool) → Lies entries fixed_of fixed homes history b → homes ≡ none ∷ [] → b ≡ true
  home_or_out homes history true h e = refl
  home_or_out homes history false h e = absurd (cc (e, h.there))

  pub with_turn : (s : State (Option V) (View Ask Answer Fixed)) → LockHolds entries fixed_of legal fixed s → IsWithTurn s
  with_turn s law out =
      let x : Scene Ask Answer = law.0 in
      let r : LockRule entries fixed_of legal fixed s x = law.1 in
      let t = r.turn (home_or_out s.homes x.history x.taken r.home out) in
      let next : get_or s.words 2 0 ≡ x.served = ap (λ (ws : List ℕ). get_or ws 2 0) r.words in
      (x.owner x.served, record { view = t.view; at = t.at; has = t.has ∙ ap (λ (k : ℕ). Turn k) (sym next) })
