-- What holds between calls holds after each.
use Rattle.std.proofs.Common.{◌≡◌, ℕ, zero, suc, ◌+◌, ◌<◌, ◌≤◌, Bool, true, false, not, cond, ◌&&◌, ◌||◌, ◌==◌, true≢false, nat_eq, List, [], ◌∷◌, ◌++◌, length, map, filter, Option, Some, None, is_some, is_none, refl, sym, ap, ◌∙◌, arith}
use Rattle.std.proofs.lemmas.Bool.{eqb-true, eq-eqb}
use Rattle.std.proofs.lemmas.List.{map-append, length_push}
use Rattle.std.proofs.lemmas.List.Elements.{All-nil, All-cons, All-head, All-tail, All-push, All-weaker, All-filter}
use Rattle.std.proofs.lemmas.List.Filters.{length-filter_both}
use Rattle.std.proofs.lemmas.List.Folds.{list_any-append}
use Rattle.std.proofs.lemmas.Map.Keys.{IsDistinct-head, IsDistinct-tail, IsDistinct-cons, IsDistinct-push}
use Rattle.std.proofs.lemmas.Map.Views.{any-filter_same}
use Rattle.std.specs.Cmp.{nat_eq_equiv}
use Rattle.std.specs.List.{find, list_any, All, AllByRecursion, IsDistinct}
use Rattle.std.specs.Option.{option_map}
use Rattle.std.specs.Prelude.{IsTrue}
use Rattle.std.specs.Str.{bytes_eq}
use Rattle.drmaa_types.specs.declared.sessions.SessionKind.{SessionKind}
use Rattle.drmaa_types.specs.declared.sessions.SessionKind.TheVariants.{Jobs, Reservations, Monitoring}
use Rattle.session_table.specs.Sessions.{NamedSession, ValidNumber, Sessions, IsSound, opening, opened, closed, destroyed, is_bound, is_home, kind_number, is_kind, is_named, is_same_name, has_names, home_of, in_use, name_of, meaning_of}

-- ---- lists

module _ {R : Type 0} where
  AllByRecursion-push : (P : R → Type 0) (xs : List R) (y : R) → AllByRecursion P xs → P y → AllByRecursion P (xs ++ y ∷ [])
  AllByRecursion-push P [] y all p = (p, tt)
  AllByRecursion-push P (x ∷ xs) y all p = (all.0, AllByRecursion-push P xs y all.1 p)

  AllByRecursion-filter : (P : R → Type 0) (p : R → Bool) (xs : List R) → AllByRecursion P xs → AllByRecursion P (filter p xs)
  AllByRecursion-filter P p [] all = all
  AllByRecursion-filter P p (x ∷ xs) all =
      elim (p x) as (λ b. AllByRecursion P (cond b (x ∷ filter p xs) (filter p xs)))
      [ true ↦ (all.0, AllByRecursion-filter P p xs all.1) | false ↦ AllByRecursion-filter P p xs all.1 ]

  AllByRecursion-map : {K : Type 0} (key : R → K) (P : K → Type 0) (xs : List R) → AllByRecursion P (map key xs) → AllByRecursion (λ x. P (key x)) xs
  AllByRecursion-map key P [] all = all
  AllByRecursion-map key P (x ∷ xs) all = (all.0, AllByRecursion-map key P xs all.1)

  AllByRecursion-unmap : {K : Type 0} (key : R → K) (P : K → Type 0) (xs : List R) → AllByRecursion (λ x. P (key x)) xs → AllByRecursion P (map key xs)
  AllByRecursion-unmap key P [] all = all
  AllByRecursion-unmap key P (x ∷ xs) all = (all.0, AllByRecursion-unmap key P xs all.1)

  -- one more at the end, from which each differs
  IsDistinct-last : (e : R → R → Bool) (xs : List R) (y : R) → IsDistinct e xs → AllByRecursion (λ x. e x y ≡ false) xs → IsDistinct e (xs ++ y ∷ [])
  IsDistinct-last e [] y distinct apart = IsDistinct-cons e y [] tt distinct
  IsDistinct-last e (x ∷ xs) y distinct apart =
      IsDistinct-cons e x (xs ++ y ∷ [])
      (AllByRecursion-push (λ z. e x z ≡ false) xs y (IsDistinct-head e x xs distinct) apart.0)
      (IsDistinct-last e xs y (IsDistinct-tail e x xs distinct) apart.1)

  IsDistinct-filter : (e : R → R → Bool) (p : R → Bool) (xs : List R) → IsDistinct e xs → IsDistinct e (filter p xs)
  IsDistinct-filter e p [] distinct = distinct
  IsDistinct-filter e p (x ∷ xs) distinct =
      elim (p x) as (λ b. IsDistinct e (cond b (x ∷ filter p xs) (filter p xs))) [
        | true ↦ IsDistinct-cons e x (filter p xs) (AllByRecursion-filter (λ y. e x y ≡ false) p xs (IsDistinct-head e x xs distinct)) (IsDistinct-filter e p xs (IsDistinct-tail e x xs distinct))
        | false ↦ IsDistinct-filter e p xs (IsDistinct-tail e x xs distinct)
      ]

  module _ (key : R → ℕ) where
    IsDistinct-map-filter : (p : R → Bool) (xs : List R) → IsDistinct nat_eq (map key xs) → IsDistinct nat_eq (map key (filter p xs))
    IsDistinct-map-filter p [] distinct = distinct
    IsDistinct-map-filter p (x ∷ xs) distinct =
        elim (p x) as (λ b. IsDistinct nat_eq (map key (cond b (x ∷ filter p xs) (filter p xs)))) [
          | true ↦ IsDistinct-cons nat_eq (key x) (map key (filter p xs))
              (AllByRecursion-unmap key (λ k. nat_eq (key x) k ≡ false) (filter p xs) (AllByRecursion-filter (λ y. nat_eq (key x) (key y) ≡ false) p xs
              (AllByRecursion-map key (λ k. nat_eq (key x) k ≡ false) xs (IsDistinct-head nat_eq (key x) (map key xs) distinct))))
              (IsDistinct-map-filter p xs (IsDistinct-tail nat_eq (key x) (map key xs) distinct))
          | false ↦ IsDistinct-map-filter p xs (IsDistinct-tail nat_eq (key x) (map key xs) distinct)
        ]

    below-differs : (x next : ℕ) → x < next → nat_eq next x ≡ false
    below-differs x next low =
        (elim (nat_eq next x) as (λ b. nat_eq next x ≡ b → b ≡ false)
        [ true ↦ λ e. let same : next ≡ x = eqb-true next x e in absurd (omega arith) | false ↦ λ e. refl ]) refl

    -- no item has a number above all of them
    pub absent-above : (next : ℕ) (xs : List R) → All (λ x. key x < next) xs → list_any (nat_eq next) (map key xs) ≡ false
    absent-above next [] below = refl
    absent-above next (x ∷ xs) below =
        ap (λ b. b || list_any (nat_eq next) (map key xs)) (below-differs (key x) next (All-head (λ x. key x < next) x xs below))
        ∙ absent-above next xs (All-tail (λ x. key x < next) x xs below)

    pub find-above : {Y : Type 0} (f : R → Y) (next : ℕ) (xs : List R) → All (λ x. key x < next) xs → option_map f (find (λ x. next == key x) xs) ≡ None
    find-above f next [] below = refl
    find-above f next (x ∷ xs) below =
        ap (λ b. option_map f (cond b (Some x) (find (λ x. next == key x) xs))) (below-differs (key x) next (All-head (λ x. key x < next) x xs below))
        ∙ find-above f next xs (All-tail (λ x. key x < next) x xs below)

    distinct-next : (next : ℕ) (xs : List R) (y : R) → key y ≡ next → IsDistinct nat_eq (map key xs) → All (λ x. key x < next) xs → IsDistinct nat_eq (map key (xs ++ y ∷ []))
    distinct-next next xs y same distinct below =
        rw (map-append key xs (y ∷ [])) (IsDistinct-push nat_eq_equiv (map key xs) (key y) distinct
        (ap (λ k. list_any (nat_eq k) (map key xs)) same ∙ absent-above next xs below))

  few-filter : (p : R → Bool) (xs : List R) (most : ℕ) → length xs ≤ most → length (filter p xs) ≤ most
  few-filter p xs most few = omega (arith, length-filter_both p (λ x. not (p x)) (λ x. refl) xs)

-- ---- names

pub unused-apart : (kind : SessionKind) (name : List ℕ) (named : List NamedSession) → in_use kind name named ≡ false → AllByRecursion (λ n. is_named kind name n ≡ false) named
unused-apart kind name [] free = tt
unused-apart kind name (n ∷ ns) free =
    (elim (is_named kind name n) as (λ b. is_named kind name n ≡ b → is_some (option_map (λ (n : NamedSession). n.home) (cond b (Some n) (find (is_named kind name) ns))) ≡ false → AllByRecursion (λ n. is_named kind name n ≡ false) (n ∷ ns)) [
      | true ↦ λ e free. absurd (true≢false free)
      | false ↦ λ e free. (e, unused-apart kind name ns free)
    ]) refl free

-- ---- numbers and the sessions that they stand for

-- the number that a create or an open call answers stands for a session of its kind
abbrev stands : SessionKind → Option ℕ → NamedSession → Bool
stands kind home n = is_kind kind n.kind && is_home n.home home

bound-by : (named : List NamedSession) (v : ValidNumber) → is_kind v.kind Monitoring ≡ false → list_any (stands v.kind v.home) named ≡ true → is_bound named v ≡ true
bound-by named v kind any = ap (λ b. cond b (is_none v.home) (list_any (stands v.kind v.home) named)) kind ∙ any

-- with one session more
bound-more : (named : List NamedSession) (n : NamedSession) (v : ValidNumber) → IsTrue (is_bound named v) → IsTrue (is_bound (named ++ n ∷ []) v)
bound-more named n v bound =
    (elim (is_kind v.kind Monitoring) as (λ b. cond b (is_none v.home) (list_any (stands v.kind v.home) named) ≡ true → cond b (is_none v.home) (list_any (stands v.kind v.home) (named ++ n ∷ [])) ≡ true) [
      | true ↦ λ h. h
      | false ↦ λ h. list_any-append (stands v.kind v.home) named (n ∷ []) ∙ ap (λ b. b || list_any (stands v.kind v.home) (n ∷ [])) h
    ]) bound

and_left : (a b : Bool) → (a && b) ≡ true → a ≡ true
and_left true b h = refl
and_left false b h = absurd (true≢false (sym h))

and_right : (a b : Bool) → (a && b) ≡ true → b ≡ true
and_right true b h = h
and_right false b h = absurd (true≢false (sym h))

or_right : (a b : Bool) → b ≡ true → (a || b) ≡ true
or_right true b h = refl
or_right false b h = h

not_true : (b : Bool) → not b ≡ true → b ≡ false
not_true true h = sym h
not_true false h = refl

-- a session that is in the list
stands-here : (named : List NamedSession) (n : NamedSession) (kind : SessionKind) (home : ℕ) → is_kind kind n.kind ≡ true → n.home ≡ home → (stands kind (Some home) n || list_any (stands kind (Some home)) named) ≡ true
stands-here named n kind home same at =
    ap (λ b. b && (n.home == home) || list_any (stands kind (Some home)) named) same ∙ ap (λ b. b || list_any (stands kind (Some home)) named) (eq-eqb n.home home at)

-- the last session
bound-last : (named : List NamedSession) (n : NamedSession) (number : ℕ) → IsTrue (has_names n.kind)
    → IsTrue (is_bound (named ++ n ∷ []) (record { number = number; kind = n.kind; home = Some n.home }))
bound-last named n number names =
    bound-by (named ++ n ∷ []) (record { number = number; kind = n.kind; home = Some n.home }) (not_true (is_kind n.kind Monitoring) names)
    (list_any-append (stands n.kind (Some n.home)) named (n ∷ [])
    ∙ or_right (list_any (stands n.kind (Some n.home)) named) _ (stands-here [] n n.kind n.home (eq-eqb (kind_number n.kind) (kind_number n.kind) refl) refl))

-- a session that a name finds
pub bound-found : (named : List NamedSession) (kind : SessionKind) (name : List ℕ) (home : ℕ) (number : ℕ) → All (λ (n : NamedSession). IsTrue (has_names n.kind)) named → home_of kind name named ≡ Some home
    → IsTrue (is_bound named (record { number = number; kind = kind; home = Some home }))
bound-found [] kind name home number names found = cc
bound-found (n ∷ ns) kind name home number names found =
    (elim (is_named kind name n) as (λ b. is_named kind name n ≡ b → option_map (λ (n : NamedSession). n.home) (cond b (Some n) (find (is_named kind name) ns)) ≡ Some home → IsTrue (is_bound (n ∷ ns) (record { number = number; kind = kind; home = Some home }))) [
      | true ↦ λ e found.
          let same : is_kind kind n.kind ≡ true = and_left (is_kind kind n.kind) (bytes_eq name n.name) e in
          let numbers : kind_number kind ≡ kind_number n.kind = eqb-true (kind_number kind) (kind_number n.kind) same in
          let at : n.home ≡ home = cc in
          bound-by (n ∷ ns) (record { number = number; kind = kind; home = Some home })
          (ap (λ k. k == 2) numbers ∙ not_true (is_kind n.kind Monitoring) (All-head (λ (n : NamedSession). IsTrue (has_names n.kind)) n ns names))
          (stands-here ns n kind home same at)
      | false ↦ λ e found.
          let rest = bound-found ns kind name home number (All-tail (λ (n : NamedSession). IsTrue (has_names n.kind)) n ns names) found in
          (elim (is_kind kind Monitoring) as (λ b. cond b false (list_any (stands kind (Some home)) ns) ≡ true → cond b false (list_any (stands kind (Some home)) (n ∷ ns)) ≡ true)
          [ true ↦ λ h. h | false ↦ λ h. or_right (stands kind (Some home) n) (list_any (stands kind (Some home)) ns) h ]) rest
    ]) refl found

home_differs : (home a : ℕ) (h : Option ℕ) → is_home home h ≡ false → is_home a h ≡ true → not (home == a) ≡ true
home_differs home a None other same = absurd (true≢false (sym same))
home_differs home a (Some x) other same = ap (λ k. not (home == k)) (eqb-true a x same) ∙ ap not other

-- without a session that the number does not stand for
bound-fewer : (home : ℕ) (named : List NamedSession) (v : ValidNumber) → is_home home v.home ≡ false → IsTrue (is_bound named v) → IsTrue (is_bound (filter (λ (n : NamedSession). not (home == n.home)) named) v)
bound-fewer home named v other bound =
    let stays : NamedSession → Bool = λ n. not (home == n.home) in
    (elim (is_kind v.kind Monitoring) as (λ b. cond b (is_none v.home) (list_any (stands v.kind v.home) named) ≡ true → cond b (is_none v.home) (list_any (stands v.kind v.home) (filter stays named)) ≡ true) [
      | true ↦ λ h. h
      | false ↦ λ h. any-filter_same (stands v.kind v.home) stays true (λ n e. home_differs home n.home v.home other (and_right (is_kind v.kind n.kind) (is_home n.home v.home) e)) named ∙ h
    ]) bound

bounds-fewer : (home : ℕ) (named : List NamedSession) (valid : List ValidNumber) → All (λ (v : ValidNumber). IsTrue (is_bound named v)) valid
    → All (λ (v : ValidNumber). IsTrue (is_bound (filter (λ (n : NamedSession). not (home == n.home)) named) v)) (filter (λ (v : ValidNumber). not (is_home home v.home)) valid)
bounds-fewer home named [] bound = All-nil (λ (v : ValidNumber). IsTrue (is_bound (filter (λ (n : NamedSession). not (home == n.home)) named) v))
bounds-fewer home named (v ∷ vs) bound =
    let Kept : ValidNumber → Type 0 = λ v. IsTrue (is_bound (filter (λ (n : NamedSession). not (home == n.home)) named) v) in
    let rest = bounds-fewer home named vs (All-tail (λ (v : ValidNumber). IsTrue (is_bound named v)) v vs bound) in
    (elim (is_home home v.home) as (λ b. is_home home v.home ≡ b → All Kept (cond (not b) (v ∷ filter (λ (v : ValidNumber). not (is_home home v.home)) vs) (filter (λ (v : ValidNumber). not (is_home home v.home)) vs))) [
      | true ↦ λ e. rest
      | false ↦ λ e. All-cons Kept v (filter (λ (v : ValidNumber). not (is_home home v.home)) vs) (bound-fewer home named v e (All-head (λ (v : ValidNumber). IsTrue (is_bound named v)) v vs bound)) rest
    ]) refl

-- ---- each effect

pub IsSound-opening : IsSound opening
unfolding IsDistinct
IsSound-opening = record {
  names = tt;
  homes = tt;
  numbers = tt;
  homes_below = All-nil (λ (n : NamedSession). n.home < 1);
  numbers_below = All-nil (λ (v : ValidNumber). v.number < 1);
  kinds = All-nil (λ (n : NamedSession). IsTrue (has_names n.kind));
  bound = All-nil (λ (v : ValidNumber). IsTrue (is_bound [] v));
  few_sessions = omega arith;
  few_numbers = omega arith;
}

pub IsSound-opened : (s : Sessions) (kind : SessionKind) (home : Option ℕ) → IsSound s → length s.valid < 1_000 → IsTrue (is_bound s.named (record { number = s.next_session; kind = kind; home = home })) → IsSound (opened kind home s)
IsSound-opened s kind home sound few bound =
    let row : ValidNumber = record { number = s.next_session; kind = kind; home = home } in
    record {
      names = sound.names;
      homes = sound.homes;
      numbers = distinct-next (λ (v : ValidNumber). v.number) s.next_session s.valid row refl sound.numbers sound.numbers_below;
      homes_below = sound.homes_below;
      numbers_below = All-push (λ (v : ValidNumber). v.number < s.next_session + 1) s.valid row
          (All-weaker (λ (v : ValidNumber). v.number < s.next_session) (λ (v : ValidNumber). v.number < s.next_session + 1) (λ v low. omega arith) s.valid sound.numbers_below) (omega arith);
      kinds = sound.kinds;
      bound = All-push (λ (v : ValidNumber). IsTrue (is_bound s.named v)) s.valid row sound.bound bound;
      few_sessions = sound.few_sessions;
      few_numbers = omega (arith, length_push s.valid row);
    }

-- a named session without a number
abbrev pub added : NamedSession → Sessions → Sessions
added n s = record s { named = s.named ++ n ∷ []; next_home = s.next_home + 1 }

pub IsSound-added : (s : Sessions) (n : NamedSession) → IsSound s → length s.named < 1_000 → n.home ≡ s.next_home → IsTrue (has_names n.kind) → in_use n.kind n.name s.named ≡ false → IsSound (added n s)
IsSound-added s n sound few home names free =
    record {
      names = IsDistinct-last is_same_name s.named n sound.names (unused-apart n.kind n.name s.named free);
      homes = distinct-next (λ (n : NamedSession). n.home) s.next_home s.named n home sound.homes sound.homes_below;
      numbers = sound.numbers;
      homes_below = All-push (λ (n : NamedSession). n.home < s.next_home + 1) s.named n
          (All-weaker (λ (n : NamedSession). n.home < s.next_home) (λ (n : NamedSession). n.home < s.next_home + 1) (λ n low. omega arith) s.named sound.homes_below) (omega arith);
      numbers_below = sound.numbers_below;
      kinds = All-push (λ (n : NamedSession). IsTrue (has_names n.kind)) s.named n sound.kinds names;
      bound = All-weaker (λ (v : ValidNumber). IsTrue (is_bound s.named v)) (λ (v : ValidNumber). IsTrue (is_bound (s.named ++ n ∷ []) v)) (λ v bound. bound-more s.named n v bound) s.valid sound.bound;
      few_sessions = omega (arith, length_push s.named n);
      few_numbers = sound.few_numbers;
    }

pub IsSound-closed : (s : Sessions) (number : ℕ) → IsSound s → IsSound (closed number s)
IsSound-closed s number sound =
    let stays : ValidNumber → Bool = λ v. not (number == v.number) in
    record {
      names = sound.names;
      homes = sound.homes;
      numbers = IsDistinct-map-filter (λ (v : ValidNumber). v.number) stays s.valid sound.numbers;
      homes_below = sound.homes_below;
      numbers_below = All-filter stays (λ (v : ValidNumber). v.number < s.next_session) s.valid sound.numbers_below;
      kinds = sound.kinds;
      bound = All-filter stays (λ (v : ValidNumber). IsTrue (is_bound s.named v)) s.valid sound.bound;
      few_sessions = sound.few_sessions;
      few_numbers = few-filter stays s.valid 1_000 sound.few_numbers;
    }

pub IsSound-destroyed : (s : Sessions) (home : ℕ) → IsSound s → IsSound (destroyed home s)
IsSound-destroyed s home sound =
    let stays : NamedSession → Bool = λ n. not (home == n.home) in
    let valid : ValidNumber → Bool = λ v. not (is_home home v.home) in
    record {
      names = IsDistinct-filter is_same_name stays s.named sound.names;
      homes = IsDistinct-map-filter (λ (n : NamedSession). n.home) stays s.named sound.homes;
      numbers = IsDistinct-map-filter (λ (v : ValidNumber). v.number) valid s.valid sound.numbers;
      homes_below = All-filter stays (λ (n : NamedSession). n.home < s.next_home) s.named sound.homes_below;
      numbers_below = All-filter valid (λ (v : ValidNumber). v.number < s.next_session) s.valid sound.numbers_below;
      kinds = All-filter stays (λ (n : NamedSession). IsTrue (has_names n.kind)) s.named sound.kinds;
      bound = bounds-fewer home s.named s.valid sound.bound;
      few_sessions = few-filter stays s.named 1_000 sound.few_sessions;
      few_numbers = few-filter valid s.valid 1_000 sound.few_numbers;
    }

pub IsSound-created : (s : Sessions) (kind : SessionKind) (name : List ℕ) → IsSound s → length s.named < 1_000 → length s.valid < 1_000 → IsTrue (has_names kind) → in_use kind name s.named ≡ false
    → IsSound (opened kind (Some s.next_home) (added (record { home = s.next_home; kind = kind; name = name }) s))
IsSound-created s kind name sound few_sessions few_numbers names free =
    let n : NamedSession = record { home = s.next_home; kind = kind; name = name } in
    IsSound-opened (added n s) kind (Some s.next_home) (IsSound-added s n sound few_sessions refl names free) few_numbers (bound-last s.named n s.next_session names)
