-- Seats that are cut in two and joined keep the rule: opening a pass, making a note, learning it, retiring a pass.
use Rattle.std.proofs.Common.{◌≡◌, ℕ, zero, suc, ◌+◌, ◌<◌, ◌≤◌, List, [], ◌∷◌, ◌++◌, length, get_or, set, refl, sym, ap, ◌∙◌, subst, arith, le_refl, zero-le, length-append, length-set, get_or-set_other, get_or-set_same}
use Rattle.std.specs.Prelude.{Option, Some, None}
use mathlib.Core.Logic.{dite}
use native.Mathlib.Decide.{ℕ_discrete}
use Rattle.atomic_table.specs.Table.{Splits, Joins}
use Rattle.atomic_table.proofs.Lists.{set_else}
use Rattle.drmaa_types.specs.declared.chronicles.ChronicleEntry.{ChronicleEntry}
use Rattle.turn_lock.specs.declared.views.View.{View}
use Rattle.turn_lock.specs.declared.views.Stage.{Stage}
use Rattle.turn_lock.specs.declared.views.Kind.TheVariants.{Note, Opener, Caller}
use Rattle.turn_lock.specs.declared.views.Stage.TheVariants.{Idle}
use Rattle.turn_lock.specs.Histories.{of, longer}
use Rattle.turn_lock.specs.Views.{hiring, hired, note_of, learning, retiring, spent}
use Rattle.turn_lock.specs.Rule.{Scene, AtStage, Stands, HasTicket, HasTurn, LockRule, LockHolds}
use Rattle.turn_lock.proofs.Histories.{begins_refl, begins_empty, joined, of-between, of-none, left_of-append, left_of-set}
use Rattle.turn_lock.proofs.Scenes.{put, put-here, put-else, Moves, stays_put, as_caller, as_opener, as_note, stands_caller, stands_opener, no_ticket, no_turn, all_joined, all_split, sits_after, sits_longer}

module _ {A : Type 0} where
  -- an empty place more makes no difference to who reads
  pub at_none : (places : List (Option A)) (n : ℕ) → get_or (places ++ None ∷ []) n None ≡ get_or places n None
  at_none [] zero = refl
  at_none [] (suc n) = refl
  at_none (x ∷ places) zero = refl
  at_none (x ∷ places) (suc n) = at_none places n

  pub past_end : (places : List (Option A)) (n : ℕ) → length places ≤ n → get_or places n None ≡ None
  past_end [] n h = refl
  past_end (x ∷ places) zero h = absurd (omega arith)
  past_end (x ∷ places) (suc n) h = past_end places n (omega arith)

module _ {Ask Answer Fixed V : Type 0} (entries : V → List (ChronicleEntry Ask Answer)) (fixed_of : V → Fixed) (legal : Fixed → List (ChronicleEntry Ask Answer) → Type 0) (fixed : Fixed) where
  pub hires : (id : ℕ) (v : View Ask Answer Fixed) → v.kind ≡ Opener → Splits (LockHolds entries fixed_of legal fixed) id v (hiring v) (hired v)
  hires id v is s law at =
      let x : Scene Ask Answer = law.0 in
      let r : LockRule entries fixed_of legal fixed s x = law.1 in
      let so = as_opener fixed x id v (r.each id v at) is in
      let know = so.0 in
      let n : ℕ = length x.retired in
      let same : length v.retired ≡ n = ap (λ (l : List (Option (List (ChronicleEntry Ask Answer)))). length l) so.1.lists in
      let longer' : length (x.retired ++ None ∷ []) ≡ n + 1 = length-append x.retired (None ∷ []) in
      let y : Scene Ask Answer = record { history = x.history; drawn = x.drawn; served = x.served; taken = x.taken; owner = x.owner; holder = put x.holder n (length s.views); retired = x.retired ++ None ∷ [] } in
      let m : Moves x y id id = record {
        grows = begins_refl x.history;
        served = le_refl x.served;
        drawn = le_refl x.drawn;
        waits = λ t h _ _. h;
        owner = λ t _. refl;
        turn = λ h _. (h, refl, refl);
        given = omega arith;
        holder = λ k h. put-else x.holder n (length s.views) k (λ e. omega arith);
        own = λ k _ _. refl;
        out = λ k _ _. at_none x.retired k;
        lists = λ ne. absurd (ne (sym so.1.first));
      } in
      let here : Stands fixed y id (hiring v) = stands_opener fixed y id (hiring v) is
      record { fixed_is = know.fixed_is; seen = know.seen; before = know.before; learnt = know.learnt; low = know.low; high = know.high }
      record {
        first = so.1.first;
        idle = so.1.idle;
        lists = ap (λ (l : List (Option (List (ChronicleEntry Ask Answer)))). l ++ None ∷ []) so.1.lists;
        counted = let c = so.1.counted in omega (arith, left_of-append v.retired, length-append v.retired (None ∷ []));
      } in
      let none : of x.history (length v.retired) ≡ [] = r.strangers (length v.retired) (omega arith) in
      let there : Stands fixed y (length s.views) (hired v) = (
        record { fixed_is = know.fixed_is; seen = know.seen; before = begins_empty v.seen; learnt = begins_empty v.seen; low = zero-le; high = zero-le },
        record {
          given = omega arith;
          held = ap (λ (k : ℕ). put x.holder n (length s.views) k) same ∙ put-here x.holder n (length s.views);
          out = at_none x.retired (length v.retired) ∙ past_end x.retired (length v.retired) (omega arith);
          mine = none;
          own = of-none v.seen x.history (length v.retired) know.seen none;
          stage = tt;
        },
      ) in (
        y,
        record {
          words = r.words;
          order = r.order;
          served = r.served;
          drawn = r.drawn;
          home = r.home;
          turn = λ h. sits_longer (HasTurn x.served) (HasTurn x.served) (set s.views id (hiring v)) (hired v ∷ []) (λ u p. p) (x.owner x.served)
              (sits_after (HasTurn x.served) (HasTurn x.served) s.views id v (hiring v) at (λ p. p) (λ u p. p) (x.owner x.served) (r.turn h));
          tickets = λ t a b c. sits_longer (HasTicket t) (HasTicket t) (set s.views id (hiring v)) (hired v ∷ []) (λ u p. p) (x.owner t)
              (sits_after (HasTicket t) (HasTicket t) s.views id v (hiring v) at (λ p. p) (λ u p. p) (x.owner t) (r.tickets t a b c));
          gone = λ k own e. r.gone k own (sym (at_none x.retired k) ∙ e);
          strangers = λ k h. r.strangers k (omega arith);
          beginnings = r.beginnings;
          each = all_split fixed x y s.views id (hiring v) (hired v) m here there r.each;
        },
      )

  pub copies : (id : ℕ) (v : View Ask Answer Fixed) → v.kind ≡ Caller → Splits (LockHolds entries fixed_of legal fixed) id v v (note_of v)
  copies id v is s law at =
      let x : Scene Ask Answer = law.0 in
      let r : LockRule entries fixed_of legal fixed s x = law.1 in
      let so = as_caller fixed x id v (r.each id v at) is in
      let know = so.0 in
      let there : Stands fixed x (length s.views) (note_of v) = (
        record { fixed_is = know.fixed_is; seen = know.seen; before = begins_empty v.seen; learnt = begins_empty v.seen; low = zero-le; high = zero-le },
        record { idle = refl; none = refl },
      ) in (
        x,
        record {
          words = r.words;
          order = r.order;
          served = r.served;
          drawn = r.drawn;
          home = r.home;
          turn = λ h. sits_longer (HasTurn x.served) (HasTurn x.served) (set s.views id v) (note_of v ∷ []) (λ u p. p) (x.owner x.served)
              (sits_after (HasTurn x.served) (HasTurn x.served) s.views id v v at (λ p. p) (λ u p. p) (x.owner x.served) (r.turn h));
          tickets = λ t a b c. sits_longer (HasTicket t) (HasTicket t) (set s.views id v) (note_of v ∷ []) (λ u p. p) (x.owner t)
              (sits_after (HasTicket t) (HasTicket t) s.views id v v at (λ p. p) (λ u p. p) (x.owner t) (r.tickets t a b c));
          gone = r.gone;
          strangers = r.strangers;
          beginnings = r.beginnings;
          each = all_split fixed x x s.views id v (note_of v) (stays_put x id id) (r.each id v at) there r.each;
        },
      )

  pub learns : (id : ℕ) (v : View Ask Answer Fixed) (other : ℕ) (w : View Ask Answer Fixed) → v.kind ≡ Caller → v.stage ≡ Idle → w.kind ≡ Note
      → Joins (LockHolds entries fixed_of legal fixed) id v other w (learning v w) spent
  learns id v other w is idle note s law at apart at' =
      let x : Scene Ask Answer = law.0 in
      let r : LockRule entries fixed_of legal fixed s x = law.1 in
      let so = as_caller fixed x id v (r.each id v at) is in
      let no = as_note fixed x other w (r.each other w (sym (set_else s.views id other (learning v w) apart) ∙ at')) note in
      let j = joined x.history v.seen w.seen so.0.seen no.0.seen in
      let here : Stands fixed x id (learning v w) = stands_caller fixed x id (learning v w) is
      record { fixed_is = so.0.fixed_is; seen = j.whole; before = j.one; learnt = j.other; low = so.0.low; high = so.0.high }
      record {
        given = so.1.given;
        held = so.1.held;
        out = so.1.out;
        mine = so.1.mine;
        own = of-between v.seen (longer v.seen w.seen) x.history v.number v.mine j.one j.whole so.1.own so.1.mine;
        stage = subst (λ (st : Stage). AtStage x id (longer v.seen w.seen) st) (sym idle) tt;
      } in (
        x,
        record {
          words = r.words;
          order = r.order;
          served = r.served;
          drawn = r.drawn;
          home = r.home;
          turn = λ h. sits_after (HasTurn x.served) (HasTurn x.served) (set s.views id (learning v w)) other w spent at' (λ p. absurd (no_turn w w x.served no.1.idle p)) (λ u p. p) (x.owner x.served)
              (sits_after (HasTurn x.served) (HasTurn x.served) s.views id v (learning v w) at (λ p. p) (λ u p. p) (x.owner x.served) (r.turn h));
          tickets = λ t a b c. sits_after (HasTicket t) (HasTicket t) (set s.views id (learning v w)) other w spent at' (λ p. absurd (no_ticket w w t no.1.idle p)) (λ u p. p) (x.owner t)
              (sits_after (HasTicket t) (HasTicket t) s.views id v (learning v w) at (λ p. p) (λ u p. p) (x.owner t) (r.tickets t a b c));
          gone = r.gone;
          strangers = r.strangers;
          beginnings = r.beginnings;
          each = all_joined fixed x x s.views id other (learning v w) spent (stays_put x id other) here refl record { idle = refl; nothing = refl; low = zero-le } r.each;
        },
      )

  pub retires : (id : ℕ) (v : View Ask Answer Fixed) (other : ℕ) (w : View Ask Answer Fixed) → v.kind ≡ Opener → w.kind ≡ Caller → w.stage ≡ Idle
      → Joins (LockHolds entries fixed_of legal fixed) id v other w (retiring v w) spent
  retires id v other w is caller idle s law at apart at' =
      let x : Scene Ask Answer = law.0 in
      let r : LockRule entries fixed_of legal fixed s x = law.1 in
      let so = as_opener fixed x id v (r.each id v at) is in
      let no = as_caller fixed x other w (r.each other w (sym (set_else s.views id other (retiring v w) apart) ∙ at')) caller in
      let j = joined x.history v.seen w.seen so.0.seen no.0.seen in
      let k : ℕ = w.number in
      let below : k < length x.retired = no.1.given in
      let same : length v.retired ≡ length x.retired = ap (λ (l : List (Option (List (ChronicleEntry Ask Answer)))). length l) so.1.lists in
      let y : Scene Ask Answer = record { history = x.history; drawn = x.drawn; served = x.served; taken = x.taken; owner = x.owner; holder = x.holder; retired = set x.retired k (Some w.mine) } in
      let m : Moves x y id other = record {
        grows = begins_refl x.history;
        served = le_refl x.served;
        drawn = le_refl x.drawn;
        waits = λ t h _ _. h;
        owner = λ t _. refl;
        turn = λ h _. (h, refl, refl);
        given = omega (arith, length-set x.retired k (Some w.mine));
        holder = λ n _. refl;
        own = λ n _ _. refl;
        out = λ n _ ne. get_or-set_other x.retired k n (Some w.mine) None (λ e. ne (ap x.holder e ∙ no.1.held));
        lists = λ ne. absurd (ne (sym so.1.first));
      } in
      let empty : get_or v.retired k None ≡ None = ap (λ (l : List (Option (List (ChronicleEntry Ask Answer)))). get_or l k None) so.1.lists ∙ no.1.out in
      let fewer = left_of-set v.retired k w.mine (omega arith) empty in
      let here : Stands fixed y id (retiring v w) = stands_opener fixed y id (retiring v w) is
      record { fixed_is = so.0.fixed_is; seen = j.whole; before = j.one; learnt = j.other; low = so.0.low; high = so.0.high }
      record {
        first = so.1.first;
        idle = so.1.idle;
        lists = ap (λ (l : List (Option (List (ChronicleEntry Ask Answer)))). set l k (Some w.mine)) so.1.lists;
        counted = let c = so.1.counted in omega (arith, length-set v.retired k (Some w.mine));
      } in (
        y,
        record {
          words = r.words;
          order = r.order;
          served = r.served;
          drawn = r.drawn;
          home = r.home;
          turn = λ h. sits_after (HasTurn x.served) (HasTurn x.served) (set s.views id (retiring v w)) other w spent at' (λ p. absurd (no_turn w w x.served idle p)) (λ u p. p) (x.owner x.served)
              (sits_after (HasTurn x.served) (HasTurn x.served) s.views id v (retiring v w) at (λ p. p) (λ u p. p) (x.owner x.served) (r.turn h));
          tickets = λ t a b c. sits_after (HasTicket t) (HasTicket t) (set s.views id (retiring v w)) other w spent at' (λ p. absurd (no_ticket w w t idle p)) (λ u p. p) (x.owner t)
              (sits_after (HasTicket t) (HasTicket t) s.views id v (retiring v w) at (λ p. p) (λ u p. p) (x.owner t) (r.tickets t a b c));
          gone = λ n own e. dite (ℕ_discrete n k)
              (λ is'. let got : get_or (set x.retired k (Some w.mine)) k None ≡ Some w.mine = get_or-set_same x.retired k (Some w.mine) None below in
              let all : Some w.mine ≡ Some own = sym got ∙ (ap (λ (i : ℕ). get_or (set x.retired k (Some w.mine)) i None) (sym is') ∙ e) in
              let one : w.mine ≡ own = cc all in
              ap (λ (i : ℕ). of x.history i) is' ∙ (no.1.mine ∙ one))
              (λ ne. r.gone n own (sym (get_or-set_other x.retired k n (Some w.mine) None ne) ∙ e));
          strangers = λ n h. r.strangers n (omega (arith, length-set x.retired k (Some w.mine)));
          beginnings = r.beginnings;
          each = all_joined fixed x y s.views id other (retiring v w) spent m here refl record { idle = refl; nothing = refl; low = zero-le } r.each;
        },
      )
