-- From what a seat's steps tell to what contracts see of openers, passes and turns.
use Rattle.std.proofs.Common.{◌≡◌, ℕ, suc, ◌+◌, ◌≤◌, List, [], ◌∷◌, ◌++◌, length, set, sym, ap, ◌∙◌, subst, arith, length-append, length-set}
use Rattle.std.specs.Prelude.{Option, Some, None}
use Rattle.atomic_table.specs.Table.{Me}
use Rattle.atomic_table.specs.declared.shared.Seat.{Seat}
use Rattle.drmaa_types.specs.declared.chronicles.ChronicleEntry.{ChronicleEntry}
use Rattle.turn_lock.specs.declared.views.View.{View}
use Rattle.turn_lock.specs.declared.views.Kind.{Kind}
use Rattle.turn_lock.specs.declared.views.Kind.TheVariants.{Opener}
use Rattle.turn_lock.specs.Histories.{of, BeginsWith, IsLegalSoFar, left_of}
use Rattle.turn_lock.specs.Views.{hiring, retiring, looked}
use Rattle.turn_lock.specs.Plays.{Learns, LearnsWhole, OpenerLearns, Looks}
use Rattle.turn_lock.specs.Tokens.{GoesOn}
use Rattle.turn_lock.specs.Seats.{IsOpener}
use Rattle.turn_lock.proofs.Histories.{of-added, left_of-append, WasEmpty, was_empty}

-- the hand has one value
pub same_value : {V : Type 0} (a b : V) (hand more : List (ℕ × Option V)) → hand ≡ (0, Some a) ∷ more → hand ≡ (0, Some b) ∷ [] → a ≡ b
same_value {V} a b hand more p q =
    let e : (0, Some a) ∷ more ≡ (0, Some b) ∷ [] = sym p ∙ q in
    let h : ◌≡◌ {A = ℕ × Option V} (0, Some a) (0, Some b) = cc e in
    let s : Some a ≡ Some b = ap (λ (x : ℕ × Option V). x.1) h in
    cc s

module _ {Ask Answer Fixed V : Type 0} (entries : V → List (ChronicleEntry Ask Answer)) (fixed_of : V → Fixed) where
  -- the value that came into the pass's hand
  pub record Arrived (v : View Ask Answer Fixed) (value : V) : Type 0 where
    pub goes_on : GoesOn v.seen (entries value) v.number
    pub own : of (entries value) v.number ≡ v.mine
    pub same : v.fixed ≡ Some (fixed_of value)

  pub arrived : (v : View Ask Answer Fixed) (a b : V) → a ≡ b → of v.seen v.number ≡ v.mine → BeginsWith (entries a) v.seen → of (entries a) v.number ≡ v.mine → v.fixed ≡ Some (fixed_of a) → Arrived v b
  arrived v a b is before goes own same = subst (λ (x : V). Arrived v x) is record {
    goes_on = record { between = goes.rest; whole = goes.whole; others = of-added v.seen goes.rest v.number v.mine before (ap (λ (l : List (ChronicleEntry Ask Answer)). of l v.number) (sym goes.whole) ∙ own) };
    own = own;
    same = same;
  }

module _ {V Ask Answer Fixed : Type 0} where
  -- the opener opened a pass
  pub opener_hired : (seat after : Seat (Option V) (View Ask Answer Fixed)) (next gone : ℕ) → IsOpener seat next gone → after.me ≡ (hiring seat.me.0, seat.me.1) → IsOpener after (next + 1) gone
  opener_hired seat after next gone k e =
      let retired : after.me.0.retired ≡ seat.me.0.retired ++ None ∷ [] = ap (λ (m : Me (Option V) (View Ask Answer Fixed)). m.0.retired) e in
      let long : length after.me.0.retired ≡ length seat.me.0.retired + 1 = ap (λ (l : List (Option (List (ChronicleEntry Ask Answer)))). length l) retired ∙ length-append seat.me.0.retired (None ∷ []) in
      let more : left_of after.me.0.retired ≡ suc (left_of seat.me.0.retired) = ap (λ (l : List (Option (List (ChronicleEntry Ask Answer)))). left_of l) retired ∙ left_of-append seat.me.0.retired in
      let gone' : after.me.0.gone ≡ seat.me.0.gone = ap (λ (m : Me (Option V) (View Ask Answer Fixed)). m.0.gone) e in
      let next_is : length seat.me.0.retired ≡ next = k.next_is in
      let counted : left_of seat.me.0.retired + seat.me.0.gone ≡ length seat.me.0.retired = k.counted in
      record {
        kind = ap (λ (m : Me (Option V) (View Ask Answer Fixed)). m.0.kind) e ∙ k.kind;
        hand = ap (λ (m : Me (Option V) (View Ask Answer Fixed)). m.1) e ∙ k.hand;
        next_is = omega arith;
        gone_is = gone' ∙ k.gone_is;
        counted = omega arith;
        clean = λ n le. ap (λ (m : Me (Option V) (View Ask Answer Fixed)). of m.0.seen n) e ∙ k.clean n (omega arith);
      }

module _ {V Ask Answer Fixed : Type 0} (legal : Fixed → List (ChronicleEntry Ask Answer) → Type 0) where
  -- the opener took a pass back, and looked
  pub record TookBack (seat pass after : Seat (Option V) (View Ask Answer Fixed)) (next gone : ℕ) : Type 0 where
    pub opener : IsOpener after next (gone + 1)
    pub room : gone + 1 ≤ next
    pub view : after.me.0 ≡ looked after.me.0.low (retiring seat.me.0 pass.me.0)
    pub from_old : BeginsWith after.me.0.seen seat.me.0.seen
    pub from_pass : BeginsWith after.me.0.seen pass.me.0.seen
    pub empty : WasEmpty seat.me.0.retired pass.me.0.number
    pub low : seat.me.0.low ≤ after.me.0.low
    pub sees : (fixed : Fixed) → seat.me.0.fixed ≡ Some fixed → IsLegalSoFar (legal fixed) after.me.0.seen

  took : (v w : View Ask Answer Fixed) (hand : List (ℕ × Option V)) (n : ℕ) (after : Me (Option V) (View Ask Answer Fixed)) → v.kind ≡ Opener → Looks legal (retiring v w, hand) n after → OpenerLearns (retiring v w) × BeginsWith (retiring v w).seen v.seen × BeginsWith (retiring v w).seen w.seen
  took v w hand n after is l =
      let a : Learns (retiring v w) Opener = subst (λ (k : Kind). Learns (retiring v w) k) is l.learns in
      let b : LearnsWhole (retiring v w) Opener = subst (λ (k : Kind). LearnsWhole (retiring v w) k) is l.both in
      (a, b.0, b.1)

  pub took_back : (seat mid pass after : Seat (Option V) (View Ask Answer Fixed)) (next gone n : ℕ) → IsOpener seat next gone → mid.me ≡ (retiring seat.me.0 pass.me.0, seat.me.1) → Looks legal mid.me n after.me → TookBack seat pass after next gone
  took_back seat mid pass after next gone n k e l =
      let v : View Ask Answer Fixed = seat.me.0 in
      let w : View Ask Answer Fixed = pass.me.0 in
      let l' : Looks legal (retiring v w, seat.me.1) n after.me = subst (λ (m : Me (Option V) (View Ask Answer Fixed)). Looks legal m n after.me) e l in
      let t = took v w seat.me.1 n after.me k.kind l' in
      let is : after.me ≡ (looked n (retiring v w), seat.me.1) = l'.after in
      let view : after.me.0 ≡ looked n (retiring v w) = ap (λ (m : Me (Option V) (View Ask Answer Fixed)). m.0) is in
      let retired : after.me.0.retired ≡ set v.retired w.number (Some w.mine) = ap (λ (u : View Ask Answer Fixed). u.retired) view in
      let long : length (set v.retired w.number (Some w.mine)) ≡ length v.retired = length-set v.retired w.number (Some w.mine) in
      let count : left_of (set v.retired w.number (Some w.mine)) + (v.gone + 1) ≡ length (set v.retired w.number (Some w.mine)) = t.0.counted in
      let gone_is : v.gone ≡ gone = k.gone_is in
      let next_is : length v.retired ≡ next = k.next_is in
      let before : left_of v.retired + v.gone ≡ length v.retired = k.counted in
      let long' : length after.me.0.retired ≡ length (set v.retired w.number (Some w.mine)) = ap (λ (x : List (Option (List (ChronicleEntry Ask Answer)))). length x) retired in
      let left' : left_of after.me.0.retired ≡ left_of (set v.retired w.number (Some w.mine)) = ap (λ (x : List (Option (List (ChronicleEntry Ask Answer)))). left_of x) retired in
      let gone' : after.me.0.gone ≡ v.gone + 1 = ap (λ (u : View Ask Answer Fixed). u.gone) view in
      record {
        opener = record {
          kind = ap (λ (u : View Ask Answer Fixed). u.kind) view ∙ k.kind;
          hand = ap (λ (m : Me (Option V) (View Ask Answer Fixed)). m.1) is ∙ k.hand;
          next_is = omega arith;
          gone_is = omega arith;
          counted = omega arith;
          clean = λ i le. ap (λ (u : View Ask Answer Fixed). of u.seen i) view ∙ t.0.clean i (omega arith);
        };
        room = omega arith;
        view = view ∙ ap (λ (i : ℕ). looked i (retiring v w)) (sym (ap (λ (u : View Ask Answer Fixed). u.low) view));
        from_old = subst (λ (x : List (ChronicleEntry Ask Answer)). BeginsWith x v.seen) (sym (ap (λ (u : View Ask Answer Fixed). u.seen) view)) t.1;
        from_pass = subst (λ (x : List (ChronicleEntry Ask Answer)). BeginsWith x w.seen) (sym (ap (λ (u : View Ask Answer Fixed). u.seen) view)) t.2;
        empty = was_empty v.retired w.number w.mine (omega arith);
        low = let read : after.me.0.low ≡ n = ap (λ (u : View Ask Answer Fixed). u.low) view in let least : v.low ≤ n = l'.low in omega arith;
        sees = λ f q. subst (λ (x : List (ChronicleEntry Ask Answer)). IsLegalSoFar (legal f) x) (sym (ap (λ (u : View Ask Answer Fixed). u.seen) view)) (l'.sees f q);
      }
