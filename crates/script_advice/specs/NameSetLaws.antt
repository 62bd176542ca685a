-- Laws of sets of names.
use Rattle.std.proofs.Common.{◌≡◌, ℕ, ◌+◌, ◌<◌, ◌≤◌, ◌||◌, Bool, true, false, cond, List, [], ◌∷◌, ◌++◌, length, get_or, drop, Option, Some, None, is_some, refl, sym, ap, subst, ◌∙◌, arith}
use Rattle.std.proofs.Math.Bool.{or_assoc, or-false, or-true}
use Rattle.std.specs.Str.{bytes_eq}
use Rattle.std.specs.Map.{lookup}
use Rattle.std.specs.List.{flat_map}
use Rattle.std.proofs.lemmas.Slice.Eq.{bytes_eq-Decides}
use Rattle.std.proofs.lemmas.List.{drop_more, drop_all, get_or-drop}
use Rattle.std.proofs.lemmas.List.Folds.{list_any-append}
use Rattle.script_text.specs.Names.{is_there}
use Rattle.script_text.specs.NameLaws.{either, lookup-append}
use Rattle.script_advice.specs.NameSets.{is_among, Set, Extends, Fills}

-- ---- one name

pub extends_none : (set : Set) → Extends set set []
extends_none set = record { each = λ n. sym (or-false (is_there set n)) }

again_at : (set : Set) (name n : List ℕ) (b : Bool) → is_there set name ≡ true → b ≡ bytes_eq n name → is_there set n ≡ (is_there set n || (b || false))
again_at set name n true h e = ap (is_there set) ((bytes_eq-Decides n name).0 (sym e)) ∙ h ∙ sym (or-true (is_there set n))
again_at set name n false h e = sym (or-false (is_there set n))

pub extends_again : (set : Set) (name : List ℕ) → is_there set name ≡ true → Extends set set (name ∷ [])
extends_again set name h = record { each = λ n. again_at set name n (bytes_eq n name) h refl }

some_either : {A : Type 0} (a b : Option A) → is_some (either a b) ≡ (is_some a || is_some b)
some_either None b = refl
some_either (Some x) b = refl

some_one : (b : Bool) (o : Option (Unit {0})) → is_some o ≡ true → is_some (cond b o None) ≡ (b || false)
some_one true o h = h
some_one false o h = refl

pub extends_new : (set : Set) (name : List ℕ) → Extends set (set ++ (name, tt) ∷ []) (name ∷ [])
extends_new set name = record {
  each = λ n.
      ap is_some (lookup-append (bytes_eq n) set ((name, tt) ∷ []))
      ∙ some_either (lookup (bytes_eq n) set) (lookup (bytes_eq n) ((name, tt) ∷ []))
      ∙ ap (λ b. is_there set n || b) (some_one (bytes_eq n name) (Some tt) refl);
}

-- ---- one after the other

-- what stands first of the rest of a list
pub first_left : {X : Type 0} (i : ℕ) (xs : List X) (x : X) → drop i xs ≡ x ∷ drop (i + 1) xs → x ≡ get_or xs i x
first_left i xs x e =
    let none : i + 0 ≡ i = omega arith in
    sym (ap (λ ys. get_or ys 0 x) e) ∙ get_or-drop i xs 0 x ∙ ap (λ k. get_or xs k x) none

pub extends_twice : (old mid new : Set) (xs ys : List (List ℕ)) → Extends old mid xs → Extends mid new ys → Extends old new (xs ++ ys)
extends_twice old mid new xs ys first second = record {
  each = λ n.
      second.each n
      ∙ ap (λ b. b || is_among ys n) (first.each n)
      ∙ or_assoc (is_there old n) (is_among xs n) (is_among ys n)
      ∙ ap (λ b. is_there old n || b) (sym (list_any-append (bytes_eq n) xs ys));
}

pub fills_at_first : (old : Set) (all : List (List ℕ)) → Fills old old all all
fills_at_first old all = record { each = λ n. refl }

fills_next : (old mid new : Set) (here rest all : List (List ℕ)) → Fills old mid (here ++ rest) all → Extends mid new here → Fills old new rest all
fills_next old mid new here rest all so_far put = record {
  each = λ n.
      ap (λ b. b || is_among rest n) (put.each n)
      ∙ or_assoc (is_there mid n) (is_among here n) (is_among rest n)
      ∙ ap (λ b. is_there mid n || b) (sym (list_any-append (bytes_eq n) here rest))
      ∙ so_far.each n;
}

pub fills_more : {X : Type 0} (f : X → List (List ℕ)) (i : ℕ) (xs : List X) (x : X) (old mid new : Set) (all : List (List ℕ)) → i < length xs → x ≡ get_or xs i x
    → Fills old mid (flat_map f (drop i xs)) all → Extends mid new (f x) → Fills old new (flat_map f (drop (i + 1) xs)) all
fills_more f i xs x old mid new all small here so_far put =
    let first : drop i xs ≡ x ∷ drop (i + 1) xs = drop_more xs i x small ∙ ap (λ y. y ∷ drop (i + 1) xs) (sym here) in
    fills_next old mid new (f x) (flat_map f (drop (i + 1) xs)) all (subst (λ ys. Fills old mid (flat_map f ys) all) first so_far) put

pub fills_at_last : {X : Type 0} (f : X → List (List ℕ)) (i : ℕ) (xs : List X) (old new : Set) (all : List (List ℕ)) → length xs ≤ i
    → Fills old new (flat_map f (drop i xs)) all → Extends old new all
fills_at_last f i xs old new all past so_far =
    let done : Fills old new [] all = subst (λ ys. Fills old new (flat_map f ys) all) (drop_all i xs past) so_far in
    record { each = λ n. sym (or-false (is_there new n)) ∙ done.each n }

-- what is in a set that began empty
pub filled_test : (set : Set) (all : List (List ℕ)) → Extends [] set all → is_there set ≡ is_among all
filled_test set all made = λ i n. made.each n i
