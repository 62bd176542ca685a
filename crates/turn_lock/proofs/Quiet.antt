-- A step that changes neither words nor slots keeps the rule; and how the lock begins.
use Rattle.std.proofs.Common.{◌≡◌, ℕ, zero, suc, ◌<◌, true, false, List, [], ◌∷◌, ◌++◌, length, set, refl, sym, ◌∙◌, subst, arith, lit<, lit≤, le_refl}
use Rattle.std.specs.Prelude.{Option, Some}
use mathlib.Core.Option.{some, some-injective, some-ne-none}
use lib.ListN.{get_elem?}
use Rattle.atomic_table.specs.Table.{State, opening}
use Rattle.drmaa_types.specs.declared.chronicles.ChronicleEntry.{ChronicleEntry}
use Rattle.turn_lock.specs.declared.views.View.{View}
use Rattle.turn_lock.specs.Views.{opener}
use Rattle.turn_lock.specs.Rule.{Scene, Stands, HasTicket, HasTurn, LockRule, LockHolds}
use Rattle.turn_lock.proofs.Histories.{begins_refl}
use Rattle.turn_lock.proofs.Scenes.{stays_put, in_turn, ticket_along, all_after, sits_after}

module _ {Ask Answer Fixed V : Type 0} (entries : V → List (ChronicleEntry Ask Answer)) (fixed_of : V → Fixed) (legal : Fixed → List (ChronicleEntry Ask Answer) → Type 0) (fixed : Fixed) where
  -- one view has changed and has the ticket that it had; the words are as they were
  pub quiet : (s : State (Option V) (View Ask Answer Fixed)) (x : Scene Ask Answer) (r : LockRule entries fixed_of legal fixed s x) (id : ℕ) (v w : View Ask Answer Fixed) → get_elem? s.views id ≡ some v
      → (ws : List ℕ) → ws ≡ length x.history ∷ x.drawn ∷ x.served ∷ [] → w.stage ≡ v.stage → Stands fixed x id w
      → LockRule entries fixed_of legal fixed record { words = ws; homes = s.homes; views = set s.views id w } x
  quiet s x r id v w at ws is same st = record {
    words = is;
    order = r.order;
    served = r.served;
    drawn = r.drawn;
    home = r.home;
    turn = λ h. sits_after (HasTurn x.served) (HasTurn x.served) s.views id v w at (λ p. same ∙ p) (λ u p. p) (x.owner x.served) (r.turn h);
    tickets = λ t a b c. sits_after (HasTicket t) (HasTicket t) s.views id v w at (ticket_along v w t same) (λ u p. p) (x.owner t) (r.tickets t a b c);
    gone = r.gone;
    strangers = r.strangers;
    beginnings = r.beginnings;
    each = all_after fixed x x s.views id w (stays_put x id id) st r.each;
  }

  -- whoever has the turn waits for nothing else: its ticket was drawn
  pub turn_below : (s : State (Option V) (View Ask Answer Fixed)) (x : Scene Ask Answer) → LockRule entries fixed_of legal fixed s x → x.taken ≡ true → x.served < x.drawn
  turn_below s x r taken =
      let t = r.turn taken in
      let i = in_turn fixed x (x.owner x.served) t.view x.served (r.each (x.owner x.served) t.view t.at) t.has in
      i.drawn

  none_before : (start rest : List (ChronicleEntry Ask Answer)) → [] ≡ start ++ rest → start ≡ []
  none_before [] rest e = refl
  none_before (x ∷ start) rest e = absurd (cc e)

  -- the lock as it is made
  first_stands : (value : V) (i : ℕ) (v : View Ask Answer Fixed) → get_elem? (opener fixed ∷ []) i ≡ some v
      → Stands fixed record { history = []; drawn = 0; served = 0; taken = false; owner = λ _. 0; holder = λ _. 0; retired = [] } i v
  first_stands value zero v e =
      subst (λ (u : View Ask Answer Fixed). Stands fixed record { history = []; drawn = 0; served = 0; taken = false; owner = λ _. 0; holder = λ _. 0; retired = [] } zero u) (some-injective (opener fixed) v e)
      (record { fixed_is = refl; seen = begins_refl []; before = begins_refl []; learnt = begins_refl []; low = le_refl 0; high = le_refl 0 }, record { first = refl; idle = refl; lists = refl; counted = refl })
  first_stands value (suc i) v e = absurd (some-ne-none v (sym e))

  pub opens : (value : V) → entries value ≡ [] → fixed_of value ≡ fixed → LockHolds entries fixed_of legal fixed (opening (0 ∷ 0 ∷ 0 ∷ []) (Some value ∷ []) (opener fixed))
  opens value none same = (
    record { history = []; drawn = 0; served = 0; taken = false; owner = λ _. 0; holder = λ _. 0; retired = [] },
    record {
      words = refl;
      order = le_refl 0;
      served = lit< tt;
      drawn = lit≤ tt;
      home = record { value = value; there = refl; whole = none; same = same };
      turn = λ h. absurd (cc h);
      tickets = λ t _ below _. absurd (omega arith);
      gone = λ n own e. absurd (cc e);
      strangers = λ n _. refl;
      beginnings = λ start b. record { holds = λ some_there. absurd (some_there (none_before start b.rest b.whole)) };
      each = first_stands value;
    },
  )
