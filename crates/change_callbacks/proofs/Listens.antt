-- What each of several callbacks heard: nothing at first, and one batch after another.
use Rattle.std.proofs.Common.{◌≡◌, ℕ, ◌<◌, ◌≤◌, List, [], ◌++◌, length, drop, take, Option, Some, None, refl, sym, ap, ◌∙◌, subst, arith, ⊎_elim, slice_index_or, slice_set}
use Rattle.std.proofs.lemmas.List.{map-append, append-nil, drop_all, take_all, get_or-set_other, get_or-set_same}
use Rattle.std.proofs.lemmas.Bool.{cases_eq}
use Rattle.std.proofs.Math.Seq.{drop-nil}
use Rattle.drmaa_types.specs.Notifications.{notification_of}
use Rattle.drmaa_types.specs.declared.changes.Change.{Change}
use Rattle.drmaa_types.specs.declared.changes.Notification.{Notification}
use Rattle.change_callbacks.specs.Hearing.{HasHeard}
use Rattle.change_callbacks.specs.PlaceLaws.{from_place-append}
use Rattle.change_callbacks.specs.HearingLaws.{HasHeard-none, HasHeard-then}
use Rattle.change_callbacks.specs.Ears.{from_place, due, notifications, EachHeard, place_at}

-- of no change none is due
pub from_place-nothing : (place : Option ℕ) → from_place [] place ≡ []
from_place-nothing None = refl
from_place-nothing (Some place) = drop-nil place

-- a place from which nothing stands yet is as good as none
pub from_place-placed : (places : List (Option ℕ)) (k place i : ℕ) (xs : List Change) → k < length places → place_at places k ≡ None → length xs ≤ place
    → from_place xs (place_at (slice_set places k (Some place)) i) ≡ from_place xs (place_at places i)
from_place-placed places k place i xs short unplaced ahead = ⊎_elim
    (λ (same : i ≡ k). ap (from_place xs) (ap (place_at (slice_set places k (Some place))) same ∙ get_or-set_same places k (Some place) None short)
    ∙ drop_all place xs ahead
    ∙ sym (ap (from_place xs) (ap (place_at places) same ∙ unplaced)))
    (λ (other : i ≡ k → ⊥). ap (from_place xs) (get_or-set_other places k i (Some place) None other))
    (cases_eq i k)

-- a list that was lent whole has come back whole
pub take-lent : {B : Type 0} (n : ℕ) (new old : List B) → n ≡ length old → length new ≡ length old → take n (new ++ drop (length new) old) ≡ new
take-lent n new old whole same = ap (λ zs. take n (new ++ zs)) (drop_all (length new) old (omega (arith, same)))
    ∙ ap (take n) (append-nil new) ∙ take_all n new (omega (arith, whole, same))

module _ {B : Type 0} {counted : B → ℕ} {told : B → Option (List Notification)} where
  -- where the share at each place is the same, the same was heard
  pub EachHeard-alike : {share share' : Option ℕ → List Change} {places places' : List (Option ℕ)} {a b : List B}
      → ((i : ℕ) → share' (place_at places' i) ≡ share (place_at places i)) → EachHeard counted told share places a b → EachHeard counted told share' places' a b
  EachHeard-alike {a} {b} same h = record {
    as_many = h.as_many;
    each = λ i d inside. subst (λ (xs : List Change). HasHeard counted told (slice_index_or a i d) (slice_index_or b i d) (notifications xs))
        (sym (same i)) (h.each i d inside);
  }

  -- where nothing was handed over, nothing was heard
  pub EachHeard-begun : (places : List (Option ℕ)) (xs : List Change) (a b all : List B) → xs ≡ [] → a ≡ all → b ≡ all → EachHeard counted told (from_place xs) places a b
  EachHeard-begun places xs a b all empty first second = rw (empty, first, second) (record {
    as_many = refl;
    each = λ i d inside. let x : B = slice_index_or all i d in
        subst (λ (ys : List Change). HasHeard counted told x x (notifications ys)) (sym (from_place-nothing (place_at places i))) (HasHeard-none x);
  })

  -- what was handed over, and then a batch
  pub EachHeard-then : (places : List (Option ℕ)) (xs ys : List Change) (a b c : List B)
      → EachHeard counted told (from_place xs) places a b → EachHeard counted told (due (length xs) ys) places b c → EachHeard counted told (from_place (xs ++ ys)) places a c
  EachHeard-then places xs ys a b c h k = record {
    as_many = k.as_many ∙ h.as_many;
    each = λ i d inside. let place : Option ℕ = place_at places i in
        subst (HasHeard counted told (slice_index_or a i d) (slice_index_or c i d))
        (sym (ap notifications (from_place-append xs ys place) ∙ map-append notification_of (from_place xs place) (due (length xs) ys place)))
        (HasHeard-then (slice_index_or a i d) (slice_index_or b i d) (slice_index_or c i d) (notifications (from_place xs place)) (notifications (due (length xs) ys place))
        (h.each i d inside) (k.each i d (subst (λ n. i < n) (sym h.as_many) inside)));
  }

  -- the same, where what was handed, and what it was handed to, are known by equations
  pub EachHeard-handed : {places places' : List (Option ℕ)} {whole xs ys ys' : List Change} {a b b' c d : List B} {from : ℕ}
      → whole ≡ xs ++ ys → from ≡ length xs → places' ≡ places → ys' ≡ ys → b' ≡ b → (length c ≡ length b → d ≡ c)
      → EachHeard counted told (from_place xs) places a b → EachHeard counted told (due from ys') places' b' c → EachHeard counted told (from_place whole) places a d
  EachHeard-handed {places} {places'} {whole} {xs} {ys} {ys'} {a} {b} {b'} {c} {d} {from} w f p y e last h k =
      let k₁ : EachHeard counted told (due from ys') places b' c = subst (λ q. EachHeard counted told (due from ys') q b' c) p k in
      let k₂ : EachHeard counted told (due (length xs) ys') places b' c = subst (λ n. EachHeard counted told (due n ys') places b' c) f k₁ in
      let k₃ : EachHeard counted told (due (length xs) ys) places b' c = subst (λ zs. EachHeard counted told (due (length xs) zs) places b' c) y k₂ in
      let k₄ : EachHeard counted told (due (length xs) ys) places b c = subst (λ l. EachHeard counted told (due (length xs) ys) places l c) e k₃ in
      rw (w, last k₄.as_many) (EachHeard-then places xs ys a b c h k₄)

  -- a number that had no place has one now, from which nothing was handed over
  pub EachHeard-placed : (places : List (Option ℕ)) (n place : ℕ) (xs : List Change) (a b : List B) → n < length places → place_at places n ≡ None → length xs ≤ place
      → EachHeard counted told (from_place xs) places a b → EachHeard counted told (from_place xs) (slice_set places n (Some place)) a b
  EachHeard-placed places n place xs a b short unplaced ahead = EachHeard-alike (λ i. from_place-placed places n place i xs short unplaced ahead)
