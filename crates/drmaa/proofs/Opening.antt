-- The desks of a work are opened, one after the other, and left.
use Rattle.std.proofs.Common.{◌≡◌, ℕ, zero, suc, ◌+◌, ◌<◌, ◌≤◌, ◌⊎◌, inl, inr, ⊎_elim, List, [], ◌∷◌, ◌++◌, slice_index_or, None, refl, sym, ap, ◌∙◌, subst, length, length-append, arith}
use Rattle.std.specs.Prelude.{All}
use Rattle.std.proofs.lemmas.List.{get_or_append_left, get_or-append-add}
use Rattle.std.proofs.lemmas.List.Elements.{All-push}
use Rattle.drmaa_types.specs.Readings.{Readings}
use Rattle.drmaa_model.specs.declared.configs.Config.{Config}
use Rattle.turn_lock.specs.Tokens.{Named, BelongsTo, IsFree}
use Rattle.call_history.specs.declared.desks.Desk.{Desk}
use Rattle.call_history.specs.Clients.{Seat, number_of, retired_of}
use Rattle.drmaa.specs.Crews.{AreOut, IsSeated, AreOpened}
use Rattle.drmaa.specs.Works.{Begins, caller_at, IsUnread, IsLent, AreLent, AreLeft}
use Rattle.drmaa.proofs.Places.{Lists, out-more}

-- which place a number below one more has
split : (k n : ℕ) → k < n + 1 → (k < n) ⊎ (k ≡ n)
split k zero h = inr (omega arith)
split zero (suc n) h = inl (omega arith)
split (suc k) (suc n) h = ⊎_elim (λ (a : k < n). inl (omega arith)) (λ (a : k ≡ n). inr (ap suc a)) (split k n (omega arith))

behind : (n : ℕ) → 1 ≤ n → n + 3 ≡ caller_at n
behind zero some = absurd (omega arith)
behind (suc n) some = omega arith

-- the numbers that were given out, with one more
pub out-seated : (o p : Seat) → retired_of p ≡ retired_of o ++ None ∷ [] → AreOut (retired_of o) → AreOut (retired_of p)
out-seated o p more out number = ap (λ (l : Lists). slice_index_or l number None) more ∙ out-more (retired_of o) out number

module _ {C : Type 0} (given : C → Readings) (shared : Named Config) where
  lent-more : (n : ℕ) (desks : List (Desk C)) (desk : Desk C) → AreLent given shared n desks → desk.shared.now ≡ shared → IsLent given (caller_at n) desk → AreLent given shared (n + 1) (desks ++ desk ∷ [])
  lent-more n desks desk l at new = record {
    count = (let a = length-append desks (desk ∷ []) in let c = l.count in omega arith);
    free = All-push (λ (d : Desk C). IsFree d.shared.now d.client) desks desk l.free new.begins.free;
    shared_is = All-push (λ (d : Desk C). d.shared.now ≡ shared) desks desk l.shared_is at;
    lent = λ place d below. ⊎_elim
        (λ (a : place < n). subst (λ (x : Desk C). IsLent given (caller_at place) x) (sym (get_or_append_left desks (desk ∷ []) d place (let c = l.count in omega arith))) (l.lent place d a))
        (λ (a : place ≡ n). subst (λ (k : ℕ). IsLent given (caller_at k) (slice_index_or (desks ++ desk ∷ []) k d)) (let c = l.count in let z : length desks + 0 ≡ place = omega arith in z)
        (subst (λ (x : Desk C). IsLent given (caller_at (length desks + 0)) x) (sym (get_or-append-add desks (desk ∷ []) 0 d))
        (subst (λ (k : ℕ). IsLent given (caller_at k) desk) (let c = l.count in let z : n ≡ length desks + 0 = omega arith in z) new)))
        (split place n below);
  }

  -- nobody's desk is open, and the first
  lent-none : AreLent {C = C} given shared 0 []
  lent-none = record { count = refl; free = λ k d below. absurd (omega arith); shared_is = λ k d below. absurd (omega arith); lent = λ k d below. absurd (omega arith) }

  -- a new client's desk, with its clock
  pub new-desk : (desk : Desk C) (client : Seat) (number : ℕ) → desk.shared.now ≡ shared → desk.client ≡ client → Begins shared client → number_of client ≡ number → IsUnread given number desk.clock → IsLent given number desk
  new-desk desk client number at same begins number_is clock = record {
    begins = subst (λ (s : Named Config). Begins s desk.client) (sym at) (subst (λ (c : Seat). Begins shared c) (sym same) begins);
    number_is = ap (λ (c : Seat). number_of c) same ∙ number_is;
    clock = clock;
  }

  pub opened-first : (p : Seat) (desk : Desk C) (desks : List (Desk C)) → BelongsTo shared p → AreOut (retired_of p) → length (retired_of p) ≡ 4 → desks ≡ desk ∷ [] → desk.shared.now ≡ shared → IsLent given 0 desk
      → AreOpened given shared p 1 desks
  opened-first p desk desks opener out count is at new = record {
    opener = opener;
    out = out;
    count = count;
    lent = subst (λ (l : List (Desk C)). AreLent given shared 1 l) (sym is) (lent-more 0 [] desk lent-none at new);
  }

  pub opened-more : (o p : Seat) (n number : ℕ) (client : Seat) (desks then : List (Desk C)) (desk : Desk C) → number ≡ n + 3 → 1 ≤ n → AreOpened given shared o n desks → IsSeated shared o p number client
      → then ≡ desks ++ desk ∷ [] → desk.shared.now ≡ shared → desk.client ≡ client → IsUnread given number desk.clock → AreOpened given shared p (n + 1) then
  opened-more o p n number client desks then desk number_is some opened seated is at same clock =
      let place : number ≡ caller_at n = number_is ∙ behind n some in
      let new : IsLent given number desk = new-desk desk client number at same (record { free = seated.free; own = seated.own; mine = seated.mine }) seated.number_is clock in
      record {
        opener = seated.opener;
        out = out-seated o p seated.retired opened.out;
        count = (let c = seated.count in omega arith);
        lent = subst (λ (l : List (Desk C)). AreLent given shared (n + 1) l) (sym is) (lent-more n desks desk opened.lent at (subst (λ (k : ℕ). IsLent given k desk) place new));
      }

  -- as they are left, no client of them holds a turn
  pub left-free : (n : ℕ) (before after : List (Desk C)) → AreLent given shared n before → AreLeft before after → All (λ (d : Desk C). IsFree shared d.client) after
  left-free n before after lent left k d below =
      let within : k < length before = (let c = left.count in omega arith) in
      subst (λ (s : Named Config). IsFree s (slice_index_or after k d).client) (lent.shared_is k d within) (left.each k d within)

  pub left-many : (n : ℕ) (before after : List (Desk C)) → AreLent given shared n before → AreLeft before after → length after ≡ n
  left-many n before after lent left = left.count ∙ lent.count
