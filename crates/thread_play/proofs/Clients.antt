-- Clients that are hired, play their blocks, and come back.
use Rattle.std.proofs.Common.{◌≡◌, ℕ, zero, suc, ◌+◌, ◌<◌, ◌⊎◌, inl, inr, ⊎_elim, List, [], ◌∷◌, ◌++◌, map, set, replicate, length, slice_index_or, refl, sym, ap, ◌∙◌, subst, append_assoc, length-append, arith, Option, Some, None}
use Rattle.std.specs.Prelude.{All, Result, Ok, Err}
use Rattle.std.proofs.lemmas.List.{length-replicate}
use Rattle.std.proofs.lemmas.List.Elements.{All-nil, All-tail}
use Rattle.drmaa_types.specs.Readings.{Readings}
use Rattle.drmaa_model.specs.declared.configs.Config.{Config}
use Rattle.drmaa_model.specs.declared.entries.Entry.{Entry}
use Rattle.drmaa_model.specs.History.{IsLegal}
use Rattle.turn_lock.specs.Histories.{BeginsWith}
use Rattle.turn_lock.specs.Tokens.{Named, BelongsTo, IsFree}
use Rattle.call_history.specs.Clients.{Seat, seen_of, mine_of, number_of, retired_of, KnowsItsOwn, IsStillAt}
use Rattle.call_history.specs.ClientLaws.{begins-itself, begins-both}
use Rattle.block_play.specs.declared.stops.Stopped.{Stopped}
use Rattle.block_play.specs.declared.stops.Stopped.TheVariants as stopped
use Rattle.thread_play.specs.declared.workers.Worker.{Worker}
use Rattle.thread_play.specs.Stages.{IsHired, Hired, worse, worst, with_back}
use Rattle.thread_play.proofs.Lists.{at-more, replicate-more, set-between}

abbrev pub Lists : Type 0
Lists = List (Option (List Entry))

module _ {C : Type 0} (given : C → Readings) (shared : Named Config) where
  pub hired-more : (o p q : Seat) (ws vs : List (Worker C)) (w : Worker C) → Hired given shared o p ws → BelongsTo shared q → retired_of q ≡ retired_of p ++ None ∷ [] → seen_of q ≡ seen_of p
      → IsHired given shared o (length ws) w → vs ≡ ws ++ w ∷ [] → Hired given shared o q vs
  hired-more o p q ws vs w h opener retired seen is more =
      let one : suc (length ws) ≡ length (ws ++ w ∷ []) = (let l = length-append ws (w ∷ []) in omega arith) in
      subst (λ (us : List (Worker C)). Hired given shared o q us) (sym more) (record {
        opener = opener;
        retired = retired ∙ (ap (λ (l : Lists). l ++ None ∷ []) h.retired ∙ (append_assoc (retired_of o) (replicate (length ws) None) (None ∷ [])
            ∙ ap (λ (l : Lists). retired_of o ++ l) (replicate-more (length ws) None ∙ ap (λ (n : ℕ). replicate n None) one)));
        seen = seen ∙ h.seen;
        each = λ i d below. ⊎_elim
            (λ (a : (i < length ws) × (slice_index_or (ws ++ w ∷ []) i d ≡ slice_index_or ws i d)). subst (λ (x : Worker C). IsHired given shared o i x) (sym a.1) (h.each i d a.0))
            (λ (a : (i ≡ length ws) × (slice_index_or (ws ++ w ∷ []) i d ≡ w)). subst (λ (x : Worker C). IsHired given shared o i x) (sym a.1) (subst (λ (n : ℕ). IsHired given shared o n w) (sym a.0) is))
            (at-more ws w d i below);
      })

  -- how many numbers were given out
  pub hired-count : (o p : Seat) (ws : List (Worker C)) → Hired given shared o p ws → length (retired_of p) ≡ length (retired_of o) + length ws
  hired-count o p ws h = ap length h.retired ∙ length-append (retired_of o) (replicate (length ws) None) ∙ ap (λ n. length (retired_of o) + n) (length-replicate (length ws) None)

-- ---- the way back

-- the clients that are left, while some are back already
pub record Dismissing {C : Type 0} (shared : Named Config) (o p old new : Seat) (ws done rest : List (Worker C)) (kept ended : Option Stopped) : Type 0 where
  pub all : ws ≡ done ++ rest
  pub opener : BelongsTo shared p
  pub retired : with_back (retired_of p) rest ≡ with_back (retired_of o) ws
  pub seen : BeginsWith (seen_of p) (seen_of o)
  pub launcher : IsStillAt shared old shared new
  pub mine : mine_of new ≡ mine_of old
  pub told : All (λ (w : Worker C). BeginsWith (seen_of new) (seen_of w.client)) done
  pub free : All (λ (w : Worker C). IsFree shared w.client) rest
  pub ended_is : worst ended rest ≡ worst kept ws

pub still-itself : (shared : Named Config) (s : Seat) → IsFree shared s → IsStillAt shared s shared s
still-itself shared s free = record { shared_is = refl; client = free; number = refl; begins = begins-itself (seen_of s); own = λ o. o; legal = λ l. l }

-- one client was told what another has seen
pub still-told : (shared : Named Config) (a b c : Seat) → IsStillAt shared a shared b → IsFree shared c → number_of c ≡ number_of b → BeginsWith (seen_of c) (seen_of b)
    → KnowsItsOwn c → IsLegal shared.fixed (seen_of c) → IsStillAt shared a shared c
still-told shared a b c s free number begins own legal = record {
  shared_is = refl;
  client = free;
  number = number ∙ s.number;
  begins = begins-both (seen_of a) (seen_of b) (seen_of c) s.begins begins;
  own = λ o. own;
  legal = λ l. legal;
}

module _ {C : Type 0} (shared : Named Config) where
  pub dismissing-none : (o old : Seat) (ws : List (Worker C)) (kept : Option Stopped) → BelongsTo shared o → IsFree shared old → All (λ (w : Worker C). IsFree shared w.client) ws
      → Dismissing shared o o old old ws [] ws kept kept
  dismissing-none o old ws kept opener free each = record {
    all = refl;
    opener = opener;
    retired = refl;
    seen = begins-itself (seen_of o);
    launcher = still-itself shared old free;
    mine = refl;
    told = All-nil (λ (w : Worker C). BeginsWith (seen_of old) (seen_of w.client));
    free = each;
    ended_is = refl;
  }

  told-more : (mid new : Seat) (done : List (Worker C)) (w : Worker C) → BeginsWith (seen_of new) (seen_of mid) → BeginsWith (seen_of new) (seen_of w.client)
      → All (λ (w : Worker C). BeginsWith (seen_of mid) (seen_of w.client)) done → All (λ (w : Worker C). BeginsWith (seen_of new) (seen_of w.client)) (done ++ w ∷ [])
  told-more mid new done w begins here all i d below = ⊎_elim
      (λ (a : (i < length done) × (slice_index_or (done ++ w ∷ []) i d ≡ slice_index_or done i d)). subst (λ (x : Worker C). BeginsWith (seen_of new) (seen_of x.client)) (sym a.1) (begins-both _ (seen_of mid) (seen_of new) (all i d a.0) begins))
      (λ (a : (i ≡ length done) × (slice_index_or (done ++ w ∷ []) i d ≡ w)). subst (λ (x : Worker C). BeginsWith (seen_of new) (seen_of x.client)) (sym a.1) here)
      (at-more done w d i below)

  pub dismissing-more : (o p q old mid new : Seat) (ws done rest : List (Worker C)) (w : Worker C) (kept ended then : Option Stopped) → Dismissing shared o p old mid ws done (w ∷ rest) kept ended
      → BelongsTo shared q → retired_of q ≡ set (retired_of p) (number_of w.client) (Some (mine_of w.client)) → BeginsWith (seen_of q) (seen_of p)
      → IsFree shared new → number_of new ≡ number_of mid → mine_of new ≡ mine_of mid → BeginsWith (seen_of new) (seen_of mid) → BeginsWith (seen_of new) (seen_of w.client)
      → KnowsItsOwn new → IsLegal shared.fixed (seen_of new) → then ≡ worse ended w.ended
      → Dismissing shared o q old new ws (done ++ w ∷ []) rest kept then
  dismissing-more o p q old mid new ws done rest w kept ended then so opener retired seen free number mine begins here own legal is = record {
    all = so.all ∙ sym (append_assoc done (w ∷ []) rest);
    opener = opener;
    retired = ap (λ (l : Lists). with_back l rest) retired ∙ so.retired;
    seen = begins-both (seen_of o) (seen_of p) (seen_of q) so.seen seen;
    launcher = still-told shared old mid new so.launcher free number begins own legal;
    mine = mine ∙ so.mine;
    told = told-more mid new done w begins here so.told;
    free = All-tail (λ (w : Worker C). IsFree shared w.client) w rest so.free;
    ended_is = ap (λ (e : Option Stopped). worst e rest) is ∙ so.ended_is;
  }

-- the same, whichever are back
pub record Going {C : Type 0} (shared : Named Config) (o p old new : Seat) (ws rest : List (Worker C)) (kept ended : Option Stopped) : Type 0 where
  pub done : List (Worker C)
  pub going : Dismissing shared o p old new ws done rest kept ended

-- the lists of clients that are back, in the order of their numbers
abbrev pub own_lists : {C : Type 0} → List (Worker C) → Lists
own_lists {C = C} ws = map (λ (w : Worker C). Some (mine_of w.client)) ws

module _ {C : Type 0} where
  pub with_back-all : (front back : Lists) (ws : List (Worker C)) → ((i : ℕ) (d : Worker C) → i < length ws → number_of (slice_index_or ws i d).client ≡ length front + i)
      → with_back (front ++ (replicate (length ws) None ++ back)) ws ≡ front ++ (own_lists ws ++ back)
  with_back-all front back [] h = refl
  with_back-all front back (w ∷ ws) h =
      let m = Some (mine_of w.client) in
      let k : number_of w.client ≡ length front = (let n = h 0 w (omega arith) in omega arith) in
      let first : set (front ++ (None ∷ (replicate (length ws) None ++ back))) (number_of w.client) m ≡ (front ++ m ∷ []) ++ (replicate (length ws) None ++ back) =
      set-between front None m (replicate (length ws) None ++ back) (number_of w.client) k ∙ sym (append_assoc front (m ∷ []) (replicate (length ws) None ++ back)) in
      ap (λ (l : Lists). with_back l ws) first
      ∙ (with_back-all (front ++ m ∷ []) back ws (λ i v below. let n = h (suc i) v (omega arith) in let l = length-append front (m ∷ []) in omega arith)
      ∙ append_assoc front (m ∷ []) (own_lists ws ++ back))

-- ---- why a run is stopped

none-worse : (kept : Option Stopped) (e : Result (Unit {0}) Stopped) → worse kept e ≡ None → (kept ≡ None) × (e ≡ Ok tt)
none-worse kept (Ok tt) is = (is, refl)
none-worse None (Err why) is = absurd (cc)
none-worse (Some stopped.Memory) (Err why) is = absurd (cc)
none-worse (Some (stopped.Full n)) (Err stopped.Memory) is = absurd (cc)
none-worse (Some (stopped.Full n)) (Err (stopped.Full m)) is = absurd (cc)

-- by the one or by the other, and not by want of memory
pub record IsFullBy (kept : Option Stopped) (e : Result (Unit {0}) Stopped) (size : ℕ) : Type 0 where
  pub cause : (kept ≡ Some (stopped.Full size)) ⊎ (e ≡ Err (stopped.Full size))
  pub sufficed : e ≡ Err stopped.Memory → ⊥

full-worse : (kept : Option Stopped) (e : Result (Unit {0}) Stopped) (size : ℕ) → worse kept e ≡ Some (stopped.Full size) → IsFullBy kept e size
full-worse kept (Ok tt) size is = record { cause = inl is; sufficed = λ m. cc }
full-worse None (Err stopped.Memory) size is = absurd (cc)
full-worse None (Err (stopped.Full n)) size is = record { cause = inr (cc); sufficed = λ m. cc }
full-worse (Some stopped.Memory) (Err why) size is = absurd (cc)
full-worse (Some (stopped.Full n)) (Err stopped.Memory) size is = absurd (cc)
full-worse (Some (stopped.Full n)) (Err (stopped.Full m)) size is = record { cause = inl is; sufficed = λ x. cc }

worse-memory : (e : Result (Unit {0}) Stopped) → worse (Some stopped.Memory) e ≡ Some stopped.Memory
worse-memory (Ok tt) = refl
worse-memory (Err why) = refl

worst-memory : {C : Type 0} (ws : List (Worker C)) → worst (Some stopped.Memory) ws ≡ Some stopped.Memory
worst-memory [] = refl
worst-memory (w ∷ ws) = ap (λ (k : Option Stopped). worst k ws) (worse-memory w.ended) ∙ worst-memory ws

to-memory : (kept : Option Stopped) → worse {A = Unit {0}} kept (Err stopped.Memory) ≡ Some stopped.Memory
to-memory None = refl
to-memory (Some stopped.Memory) = refl
to-memory (Some (stopped.Full n)) = refl

-- want of memory outweighs a size
memory-stays : {C : Type 0} (kept : Option Stopped) (e : Result (Unit {0}) Stopped) → e ≡ Err stopped.Memory → (ws : List (Worker C)) (size : ℕ) → worst (worse kept e) ws ≡ Some (stopped.Full size) → ⊥
memory-stays kept e m ws size is =
    let all : worst (worse kept e) ws ≡ Some stopped.Memory = ap (λ (x : Result (Unit {0}) Stopped). worst (worse kept x) ws) m ∙ (ap (λ (k : Option Stopped). worst k ws) (to-memory kept) ∙ worst-memory ws) in
    absurd (cc)

module _ {C : Type 0} where
  all-well : (w : Worker C) (ws : List (Worker C)) → w.ended ≡ Ok tt → ((i : ℕ) (d : Worker C) → i < length ws → (slice_index_or ws i d).ended ≡ Ok tt)
      → (i : ℕ) (d : Worker C) → i < length (w ∷ ws) → (slice_index_or (w ∷ ws) i d).ended ≡ Ok tt
  all-well w ws here rest zero d h = here
  all-well w ws here rest (suc i) d h = rest i d (omega arith)

  pub worst-none : (kept : Option Stopped) (ws : List (Worker C)) → worst kept ws ≡ None → (kept ≡ None) × ((i : ℕ) (d : Worker C) → i < length ws → (slice_index_or ws i d).ended ≡ Ok tt)
  worst-none kept [] is = (is, λ i d h. absurd (omega arith))
  worst-none kept (w ∷ ws) is =
      let rest = worst-none (worse kept w.ended) ws is in
      let here = none-worse kept w.ended rest.0 in
      (here.0, all-well w ws here.1 rest.1)

  -- the client at a place met this size
  pub record MetBy (ws : List (Worker C)) (size : ℕ) : Type 0 where
    pub place : ℕ
    pub item : Worker C
    pub within : place < length ws
    pub met : (slice_index_or ws place item).ended ≡ Err (stopped.Full size)

  pub record FullEnds (kept : Option Stopped) (ws : List (Worker C)) (size : ℕ) : Type 0 where
    pub cause : (kept ≡ Some (stopped.Full size)) ⊎ MetBy ws size
    pub sufficed : (i : ℕ) (d : Worker C) → i < length ws → (slice_index_or ws i d).ended ≡ Err stopped.Memory → ⊥

  met-behind : (w : Worker C) (ws : List (Worker C)) (size : ℕ) → MetBy ws size → MetBy (w ∷ ws) size
  met-behind w ws size m = record { place = suc m.place; item = m.item; within = (let h = m.within in omega arith); met = m.met }

  all-sufficed : (w : Worker C) (ws : List (Worker C)) → (w.ended ≡ Err stopped.Memory → ⊥) → ((i : ℕ) (d : Worker C) → i < length ws → (slice_index_or ws i d).ended ≡ Err stopped.Memory → ⊥)
      → (i : ℕ) (d : Worker C) → i < length (w ∷ ws) → (slice_index_or (w ∷ ws) i d).ended ≡ Err stopped.Memory → ⊥
  all-sufficed w ws here rest zero d h = here
  all-sufficed w ws here rest (suc i) d h = rest i d (omega arith)

  pub worst-full : (kept : Option Stopped) (ws : List (Worker C)) (size : ℕ) → worst kept ws ≡ Some (stopped.Full size) → FullEnds kept ws size
  worst-full kept [] size is = record { cause = inl is; sufficed = λ i d h. absurd (omega arith) }
  worst-full kept (w ∷ ws) size is =
      let rest = worst-full (worse kept w.ended) ws size is in
      let sufficed : w.ended ≡ Err stopped.Memory → ⊥ = λ m. elim rest.cause [
        | inl by ↦ (full-worse kept w.ended size by).sufficed m
        | inr met ↦ memory-stays kept w.ended m ws size is
      ] in
      record {
        cause = elim rest.cause [
          | inl by ↦ elim ((full-worse kept w.ended size by).cause) [
            | inl first ↦ inl first
            | inr here ↦ inr (record { place = 0; item = w; within = omega arith; met = here })
          ]
          | inr met ↦ inr (met-behind w ws size met)
        ];
        sufficed = all-sufficed w ws sufficed rest.sufficed;
      }
