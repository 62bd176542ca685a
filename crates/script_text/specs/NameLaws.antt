-- Laws of names that lines bind.
use Rattle.std.proofs.Common.{◌≡◌, ℕ, Bool, true, false, not, cond, List, [], ◌∷◌, ◌++◌, ◌||◌, Option, Some, None, is_some, refl, sym, ap, ◌∙◌}
use Rattle.std.specs.Map.{lookup}
use Rattle.std.specs.Str.{bytes_eq}
use Rattle.script_lines.specs.declared.lines.Line.{Line}
use Rattle.script_text.specs.declared.blocks.Kind.{Kind}
use Rattle.script_text.specs.Names.{binds, onto, names_of, bound, is_new, is_free}

pub onto-append : {A : Type 0} (o : Option A) (xs ys : List A) → onto o (xs ++ ys) ≡ onto o xs ++ ys
onto-append None xs ys = refl
onto-append (Some x) xs ys = refl

pub names-append : (xs ys : List Line) → names_of (xs ++ ys) ≡ names_of xs ++ names_of ys
names-append [] ys = refl
names-append (l ∷ ls) ys = ap (onto (binds l)) (names-append ls ys) ∙ onto-append (binds l) (names_of ls) (names_of ys)

-- the first of two
abbrev pub either : {A : Type 0} → Option A → Option A → Option A
either None b = b
either (Some x) b = Some x

pub lookup-append : {K X : Type 0} (test : K → Bool) (xs ys : List (K × X)) → lookup test (xs ++ ys) ≡ either (lookup test xs) (lookup test ys)
lookup-append test [] ys = refl
lookup-append test (x ∷ xs) ys =
    (elim (test x.0) as (λ b. cond b (Some x.1) (lookup test (xs ++ ys)) ≡ either (cond b (Some x.1) (lookup test xs)) (lookup test ys))
    [ true ↦ refl | false ↦ lookup-append test xs ys ])

pub bound_append : (name : List ℕ) (xs ys : List Line) → bound name (xs ++ ys) ≡ either (bound name xs) (bound name ys)
bound_append name xs ys = ap (lookup (bytes_eq name)) (names-append xs ys) ∙ lookup-append (bytes_eq name) (names_of xs) (names_of ys)

none_right : {A : Type 0} (a b : Option A) → not (is_some (either a b)) ≡ true → not (is_some b) ≡ true
none_right None b h = h
none_right (Some x) b h = cc

new_later : (xs ys : List (List ℕ × Kind)) (b : Option (List ℕ × Kind)) → is_new (xs ++ ys) b ≡ true → is_new ys b ≡ true
new_later xs ys None h = refl
new_later xs ys (Some b) h = none_right (lookup (bytes_eq b.0) xs) (lookup (bytes_eq b.0) ys) (ap (λ o. not (is_some o)) (sym (lookup-append (bytes_eq b.0) xs ys)) ∙ h)

-- what is free behind more lines is free behind the last of them
pub free_later : (xs ys : List Line) (l : Line) → is_free (xs ++ ys) l ≡ true → is_free ys l ≡ true
free_later xs ys l h = new_later (names_of xs) (names_of ys) (binds l) (ap (λ ns. is_new ns (binds l)) (sym (names-append xs ys)) ∙ h)

pub unbound_none : {A : Type 0} (o : Option A) → not (is_some o) ≡ true → o ≡ None
unbound_none None h = refl
unbound_none (Some x) h = cc

pub not_there : {A : Type 0} (o : Option A) → is_some o ≡ false → o ≡ None
not_there None h = refl
not_there (Some x) h = cc

pub neither : (a b : Bool) → (a || b) ≡ false → (a ≡ false) × (b ≡ false)
neither true b h = cc
neither false b h = (refl, h)
