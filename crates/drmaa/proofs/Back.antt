-- The clients come back.
use Rattle.std.proofs.Common.{◌≡◌, ℕ, zero, suc, ◌+◌, ◌<◌, ◌≤◌, ◌⊎◌, inl, inr, ⊎_elim, List, [], ◌∷◌, ◌++◌, slice_index_or, Some, None, refl, sym, ap, ◌∙◌, subst, length, length-append, append-nil, append_assoc, arith}
use Rattle.std.specs.Prelude.{All}
use Rattle.std.proofs.lemmas.List.{get_or-set_same, length-set, nil_from_length}
use Rattle.std.proofs.lemmas.List.Elements.{All-nil, All-push, All-weaker}
use Rattle.drmaa_model.specs.declared.configs.Config.{Config}
use Rattle.drmaa_model.specs.declared.entries.Entry.{Entry}
use Rattle.turn_lock.specs.Histories.{BeginsWith, left_of}
use Rattle.turn_lock.specs.Tokens.{Named, BelongsTo, IsFree}
use Rattle.call_history.specs.declared.desks.Desk.{Desk}
use Rattle.call_history.specs.Callers.{calls_of}
use Rattle.call_history.specs.Clients.{Seat, seen_of, mine_of, number_of, retired_of}
use Rattle.call_history.specs.ClientLaws.{begins-both}
use Rattle.drmaa.specs.Crews.{AreOut, HasPlace, IsKnown, AreTakenBack, IsRetired, AreReleased, AreBack}
use Rattle.beside_clients.specs.HubClients.{IsStillBeside}
use Rattle.drmaa.specs.Works.{IsWorks}
use Rattle.beside_clients.proofs.Keeping.{beside-none, beside-both}
use Rattle.drmaa.proofs.Places.{Lists, all-left, left-set, keeps-set, only-set, apart, index-in}

-- ---- what one client that comes back changes

module _ (shared : Named Config) (o p client : Seat) (r : IsRetired shared o p client) where
  pub retired-place : HasPlace (retired_of p) client
  retired-place = subst (λ (l : Lists). slice_index_or l (number_of client) None ≡ Some (mine_of client)) (sym r.retired) (get_or-set_same (retired_of o) (number_of client) (Some (mine_of client)) None r.given)

  pub retired-keeps : (k : ℕ) (own : List Entry) → slice_index_or (retired_of o) k None ≡ Some own → slice_index_or (retired_of p) k None ≡ Some own
  retired-keeps k own is = subst (λ (l : Lists). slice_index_or l k None ≡ Some own) (sym r.retired) (keeps-set (mine_of client) (retired_of o) (number_of client) k own r.was_out is)

  pub retired-only : (k : ℕ) (own : List Entry) → slice_index_or (retired_of p) k None ≡ Some own → (slice_index_or (retired_of o) k None ≡ Some own) ⊎ ((k ≡ number_of client) × (own ≡ mine_of client))
  retired-only k own is = only-set (mine_of client) (retired_of o) (number_of client) k own (subst (λ (l : Lists). slice_index_or l k None ≡ Some own) r.retired is)

  pub retired-left : suc (left_of (retired_of p)) ≡ left_of (retired_of o)
  retired-left = ap (λ (l : Lists). suc (left_of l)) r.retired ∙ left-set (mine_of client) (retired_of o) (number_of client) r.given r.was_out

  pub retired-count : length (retired_of p) ≡ length (retired_of o)
  retired-count = ap length r.retired ∙ length-set (retired_of o) (number_of client) (Some (mine_of client))

-- ---- the desks of a work, one after the other

known-more : (top more : List Entry) → BeginsWith more top → (number : ℕ) (own : List Entry) → IsKnown top number own → IsKnown more number own
known-more top more b number own k = record { seen = k.seen; begins = begins-both k.seen top more k.begins b; own_is = k.own_is }

-- the desks whose clients are still out, while some are back
pub record TakingBack {C : Type 0} (shared : Named Config) (o p old new : Seat) (desks rest : List (Desk C)) : Type 0 where
  pub done : List (Desk C)
  pub all : desks ≡ done ++ rest
  pub so : AreTakenBack shared o p old new done
  pub free : All (λ (d : Desk C). IsFree shared d.client) rest

module _ {C : Type 0} (shared : Named Config) (o old : Seat) (desks : List (Desk C)) where
  pub taking-none : BelongsTo shared o → AreOut (retired_of o) → IsFree shared old → All (λ (d : Desk C). IsFree shared d.client) desks → TakingBack shared o o old old desks desks
  taking-none opener out launcher free = record {
    done = [];
    all = refl;
    so = record {
      opener = opener;
      count = refl;
      left = omega arith;
      back = All-nil (λ (d : Desk C). HasPlace (retired_of o) d.client);
      known = λ number own is. (let none = out number in absurd (cc));
      launcher = beside-none shared old launcher;
    };
    free = free;
  }

  -- one more was handed over to the launcher's client, and came back
  pub taking-more : (p q new later client : Seat) (desk : Desk C) (all rest : List (Desk C)) → client ≡ desk.client → all ≡ desk ∷ rest → TakingBack shared o p old new desks all
      → IsStillBeside shared new later → BeginsWith (seen_of later) (seen_of desk.client) → IsRetired shared p q client → TakingBack shared o q old later desks rest
  taking-more p q new later client desk all rest same is t still told r =
      let here : All (λ (d : Desk C). IsFree shared d.client) (desk ∷ rest) = subst (λ (l : List (Desk C)). All (λ (d : Desk C). IsFree shared d.client) l) is t.free in
      record {
        done = t.done ++ desk ∷ [];
        all = t.all ∙ (ap (λ (l : List (Desk C)). t.done ++ l) is ∙ sym (append_assoc t.done (desk ∷ []) rest));
        so = record {
          opener = r.opener;
          count = retired-count shared p q client r ∙ t.so.count;
          left = (let a = t.so.left in let b = retired-left shared p q client r in let l = length-append t.done (desk ∷ []) in omega arith);
          back = All-push (λ (d : Desk C). HasPlace (retired_of q) d.client) t.done desk
              (All-weaker (λ (d : Desk C). HasPlace (retired_of p) d.client) (λ (d : Desk C). HasPlace (retired_of q) d.client)
              (λ d h. retired-keeps shared p q client r (number_of d.client) (mine_of d.client) h) t.done t.so.back)
              (subst (λ (s : Seat). HasPlace (retired_of q) s) same (retired-place shared p q client r));
          known = λ number own back. ⊎_elim
              (λ (a : slice_index_or (retired_of p) number None ≡ Some own). known-more (seen_of new) (seen_of later) still.begins number own (t.so.known number own a))
              (λ (a : (number ≡ number_of client) × (own ≡ mine_of client)). record { seen = seen_of client; begins = subst (λ (s : Seat). BeginsWith (seen_of later) (seen_of s)) (sym same) told; own_is = a.1 ∙ (r.own ∙ ap (λ (n : ℕ). calls_of (seen_of client) n) (sym a.0)) })
              (retired-only shared p q client r number own back);
          launcher = beside-both shared old new later t.so.launcher still;
        };
        free = λ i d below. here (suc i) d (omega arith);
      }

pub taken-back : {C : Type 0} (shared : Named Config) (o p old new : Seat) (desks rest : List (Desk C)) → length rest ≡ 0 → TakingBack shared o p old new desks rest → AreTakenBack shared o p old new desks
taken-back {C = C} shared o p old new desks rest none t =
    subst (λ (l : List (Desk C)). AreTakenBack shared o p old new l) (sym (t.all ∙ (ap (λ (l : List (Desk C)). t.done ++ l) (nil_from_length rest none) ∙ append-nil t.done))) t.so

-- ---- all of them

-- a number of the work's, where it is none of the others'
works : (clients n : ℕ) → 1 ≤ clients → n < clients + 3 → (n ≡ 1 → ⊥) → (n ≡ 2 → ⊥) → (n ≡ 3 → ⊥) → IsWorks clients n
works clients zero some h a b c = (0, omega arith, refl)
works clients (suc zero) some h a b c = absurd (a refl)
works clients (suc (suc zero)) some h a b c = absurd (b refl)
works clients (suc (suc (suc zero))) some h a b c = absurd (c refl)
works clients (suc (suc (suc (suc n)))) some h a b c = (suc n, omega arith, omega arith)

module _ {C : Type 0} (shared : Named Config) (o o1 p old new launcher reaping hub_seat : Seat) (desks : List (Desk C)) (clients : ℕ) (out : AreOut (retired_of o)) (count : length (retired_of o) ≡ clients + 3)
    (some : 1 ≤ clients) (many : length desks ≡ clients) (t : AreTakenBack shared o o1 old new desks) (grown : BeginsWith (seen_of launcher) (seen_of new)) (rel : AreReleased shared o1 p launcher reaping hub_seat)
    (launcher_is : number_of launcher ≡ 1) (reaping_is : number_of reaping ≡ 2) (hub_seat_is : number_of hub_seat ≡ 3) where
  -- what was back before stays so
  keeps : (k : ℕ) (own : List Entry) → slice_index_or (retired_of o1) k None ≡ Some own → slice_index_or (retired_of p) k None ≡ Some own
  keeps k own is =
      retired-keeps shared rel.second p hub_seat rel.of_hub_seat k own (retired-keeps shared rel.first rel.second reaping rel.of_reaping k own (retired-keeps shared o1 rel.first launcher rel.of_launcher k own is))

  size : length (retired_of p) ≡ clients + 3
  size = retired-count shared rel.second p hub_seat rel.of_hub_seat ∙ (retired-count shared rel.first rel.second reaping rel.of_reaping ∙ (retired-count shared o1 rel.first launcher rel.of_launcher ∙ (t.count ∙ count)))

  none-out : left_of (retired_of p) ≡ 0
  none-out =
      let a = all-left (retired_of o) out in
      let l = t.left in
      let b = retired-left shared o1 rel.first launcher rel.of_launcher in
      let c = retired-left shared rel.first rel.second reaping rel.of_reaping in
      let d = retired-left shared rel.second p hub_seat rel.of_hub_seat in
      omega (arith, a, l, b, c, d, many, count)

  -- a place that was filled before those of the three has another number than they
  not-theirs : (k : ℕ) (own : List Entry) → slice_index_or (retired_of o1) k None ≡ Some own → (k ≡ 1 → ⊥) × (k ≡ 2 → ⊥) × (k ≡ 3 → ⊥)
  not-theirs k own is =
      let first = retired-keeps shared o1 rel.first launcher rel.of_launcher k own is in
      let second = retired-keeps shared rel.first rel.second reaping rel.of_reaping k own first in (
        λ e. apart (retired_of o1) (number_of launcher) k own rel.of_launcher.was_out is (e ∙ sym launcher_is),
        λ e. apart (retired_of rel.first) (number_of reaping) k own rel.of_reaping.was_out first (e ∙ sym reaping_is),
        λ e. apart (retired_of rel.second) (number_of hub_seat) k own rel.of_hub_seat.was_out second (e ∙ sym hub_seat_is),
      )

  within : (k : ℕ) (own : List Entry) → slice_index_or (retired_of p) k None ≡ Some own → k < clients + 3
  within k own is = let l = size in let i = index-in (retired_of p) k own is in omega (arith, l, i)

  works-at : (k : ℕ) (own : List Entry) → slice_index_or (retired_of o1) k None ≡ Some own → IsWorks clients k
  works-at k own is = let n = not-theirs k own is in works clients k some (within k own (keeps k own is)) n.0 n.1 n.2

  known : (k : ℕ) (own : List Entry) → slice_index_or (retired_of p) k None ≡ Some own → ((k < 4) × (0 < k)) ⊎ IsKnown (seen_of launcher) k own
  known k own is = ⊎_elim
      (λ (a : slice_index_or (retired_of rel.second) k None ≡ Some own). ⊎_elim
      (λ (b : slice_index_or (retired_of rel.first) k None ≡ Some own). ⊎_elim
      (λ (c : slice_index_or (retired_of o1) k None ≡ Some own). inr (known-more (seen_of new) (seen_of launcher) grown k own (t.known k own c)))
      (λ (c : (k ≡ number_of launcher) × (own ≡ mine_of launcher)). inl (let e = c.0 in let n = launcher_is in (omega arith, omega arith)))
      (retired-only shared o1 rel.first launcher rel.of_launcher k own b))
      (λ (b : (k ≡ number_of reaping) × (own ≡ mine_of reaping)). inl (let e = b.0 in let n = reaping_is in (omega arith, omega arith)))
      (retired-only shared rel.first rel.second reaping rel.of_reaping k own a))
      (λ (a : (k ≡ number_of hub_seat) × (own ≡ mine_of hub_seat)). inl (let e = a.0 in let n = hub_seat_is in (omega arith, omega arith)))
      (retired-only shared rel.second p hub_seat rel.of_hub_seat k own is)

  pub are-back : AreBack shared p clients desks launcher reaping hub_seat
  are-back = record {
    opener = rel.of_hub_seat.opener;
    count = size;
    none_out = none-out;
    back = λ i d below. keeps (number_of (slice_index_or desks i d).client) (mine_of (slice_index_or desks i d).client) (t.back i d below);
    numbers = λ i d below. works-at (number_of (slice_index_or desks i d).client) (mine_of (slice_index_or desks i d).client) (t.back i d below);
    launcher_back = subst (λ (n : ℕ). slice_index_or (retired_of p) n None ≡ Some (mine_of launcher)) launcher_is
        (retired-keeps shared rel.second p hub_seat rel.of_hub_seat (number_of launcher) (mine_of launcher)
        (retired-keeps shared rel.first rel.second reaping rel.of_reaping (number_of launcher) (mine_of launcher) (retired-place shared o1 rel.first launcher rel.of_launcher)));
    reaping_back = subst (λ (n : ℕ). slice_index_or (retired_of p) n None ≡ Some (mine_of reaping)) reaping_is
        (retired-keeps shared rel.second p hub_seat rel.of_hub_seat (number_of reaping) (mine_of reaping) (retired-place shared rel.first rel.second reaping rel.of_reaping));
    hub_seat_back = subst (λ (n : ℕ). slice_index_or (retired_of p) n None ≡ Some (mine_of hub_seat)) hub_seat_is (retired-place shared rel.second p hub_seat rel.of_hub_seat);
    known = known;
    launcher_known = begins-both (seen_of launcher) (seen_of rel.first) (seen_of p) rel.of_launcher.from_client
        (begins-both (seen_of rel.first) (seen_of rel.second) (seen_of p) rel.of_reaping.from_old rel.of_hub_seat.from_old);
    hub_seat_known = rel.of_hub_seat.from_client;
  }
