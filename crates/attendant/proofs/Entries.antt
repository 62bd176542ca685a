-- What holds of lists of entries as they grow.
use Rattle.std.proofs.Common.{◌≡◌, ◌⊎◌, inl, inr, ℕ, zero, suc, eqb, Bool, true, false, ◌||◌, List, [], ◌∷◌, ◌++◌, length, filter, Option, Some, None, refl, sym, ap, ◌∙◌, subst, append_assoc, append-nil}
use Rattle.std.proofs.Math.Bool.{or-false, or-true}
use Rattle.std.specs.List.{list_any, slice_get}
use Rattle.slab.specs.Slab.{Slab, get, Updates}
use Rattle.std.proofs.lemmas.List.Folds.{list_any-append}
use Rattle.std.proofs.lemmas.Bool.{and_parts, eqb-true, eqb-false}
use Rattle.drmaa_types.specs.declared.identifiers.JobId.{JobId}
use Rattle.attendant.specs.Acts.{Act}
use Rattle.drmaa_model.specs.declared.replies.Launch.{Launch}
use Rattle.drmaa_model.specs.declared.replies.Signal.{Signal}
use Rattle.attendant.specs.Acts.{EachAfter, Each, is_run, launch_in}
use Rattle.attendant.specs.Runs.{Request, requests_in, with_request, last_launch, owed_after, owed_from}

pub each_after_more : (P : List Act → Act → Type 0) (front es : List Act) (e : Act) → EachAfter P front es → P (front ++ es) e → EachAfter P front (es ++ e ∷ [])
each_after_more P front [] e all here = (subst (λ l. P l e) (append-nil front) here, tt)
each_after_more P front (x ∷ xs) e all here =
    (all.0, each_after_more P (front ++ x ∷ []) xs e all.1 (subst (λ l. P l e) (sym (append_assoc front (x ∷ []) xs)) here))

pub each_more : (P : List Act → Act → Type 0) (es : List Act) (e : Act) → Each P es → P es e → Each P (es ++ e ∷ [])
each_more P es e all here = each_after_more P [] es e all here

pub each_after_last : (P : List Act → Act → Type 0) (front es : List Act) (e : Act) → EachAfter P front (es ++ e ∷ []) → P (front ++ es) e
each_after_last P front [] e all = subst (λ l. P l e) (sym (append-nil front)) all.0
each_after_last P front (x ∷ xs) e all = subst (λ l. P l e) (append_assoc front (x ∷ []) xs) (each_after_last P (front ++ x ∷ []) xs e all.1)

pub each_last : (P : List Act → Act → Type 0) (es : List Act) (e : Act) → Each P (es ++ e ∷ []) → P es e
each_last P es e all = each_after_last P [] es e all

pub each_after_map : (P Q : List Act → Act → Type 0) (front es : List Act) → ((f : List Act) (e : Act) → P f e → Q f e) → EachAfter P front es → EachAfter Q front es
each_after_map P Q front [] h all = tt
each_after_map P Q front (x ∷ xs) h all = (h front x all.0, each_after_map P Q (front ++ x ∷ []) xs h all.1)

pub each_map : (P Q : List Act → Act → Type 0) (es : List Act) → ((f : List Act) (e : Act) → P f e → Q f e) → Each P es → Each Q es
each_map P Q es h all = each_after_map P Q [] es h all

-- each entry, at its place
pub each_after_at : (P : List Act → Act → Type 0) (front es back : List Act) (e : Act) → EachAfter P front (es ++ e ∷ back) → P (front ++ es) e
each_after_at P front [] back e all = subst (λ l. P l e) (sym (append-nil front)) all.0
each_after_at P front (x ∷ xs) back e all = subst (λ l. P l e) (append_assoc front (x ∷ []) xs) (each_after_at P (front ++ x ∷ []) xs back e all.1)

-- tests
pub or_cases : (a b : Bool) (P : Type 0) → (a ≡ true → P) → (b ≡ true → P) → (a || b) ≡ true → P
or_cases true b P f g e = f refl
or_cases false b P f g e = g e

-- a list of tests with one entry more
pub any_more : (p : Act → Bool) (es : List Act) (e : Act) → list_any p (es ++ e ∷ []) ≡ (list_any p es || p e)
any_more p es e = list_any-append p es (e ∷ []) ∙ ap (λ b. list_any p es || b) (or-false (p e))

pub any_skip : (p : Act → Bool) (es : List Act) (e : Act) → p e ≡ false → list_any p (es ++ e ∷ []) ≡ list_any p es
any_skip p es e other = any_more p es e ∙ ap (λ b. list_any p es || b) other ∙ or-false (list_any p es)

pub any_kept : (p : Act → Bool) (es fs : List Act) → list_any p es ≡ true → list_any p (es ++ fs) ≡ true
any_kept p es fs is = list_any-append p es fs ∙ ap (λ b. b || list_any p fs) is

pub any_of_filter : (p q : Act → Bool) (es : List Act) → list_any p (filter q es) ≡ true → list_any p es ≡ true
any_of_filter p q [] is = is
any_of_filter p q (x ∷ xs) is =
    (elim (q x) as (λ b. q x ≡ b → list_any p (filter q (x ∷ xs)) ≡ true → (p x || list_any p xs) ≡ true) [
      | true ↦ λ t is. (elim (p x) as (λ c. (c || list_any p (filter q xs)) ≡ true → (c || list_any p xs) ≡ true) [
        | true ↦ λ _. refl
        | false ↦ λ is. any_of_filter p q xs is
      ]) (rw t at is)
      | false ↦ λ f is. ap (λ b. p x || b) (any_of_filter p q xs (rw f at is)) ∙ or-true (p x)
    ]) refl is

-- runs
job_at : ℕ → JobId
job_at n = record { 0 = n }

job_same : (job other : JobId) → job.0 ≡ other.0 → job ≡ other
unfolding job_at
job_same job other e = ap job_at e

pub run_same : (job : JobId) (attempt : ℕ) (other : JobId) (n : ℕ) → is_run job attempt other n ≡ true → (job ≡ other) × (attempt ≡ n)
run_same job attempt other n is =
    let both = and_parts _ _ is in
    let a : job.0 ≡ other.0 = eqb-true job.0 other.0 both.0 in
    let b : attempt ≡ n = eqb-true attempt n both.1 in
    (job_same job other a, b)

-- the lists that are read off
pub requests_append : (es fs : List Act) → requests_in (es ++ fs) ≡ requests_in es ++ requests_in fs
requests_append [] fs = refl
requests_append (e ∷ es) fs =
    elim (launch_in e.call e.reply) as (λ o. with_request o (requests_in (es ++ fs)) ≡ with_request o (requests_in es) ++ requests_in fs) [
      | None ↦ requests_append es fs
      | Some l ↦ ap (λ (r : List Request). record { job = l.job; attempt = l.attempt; words = l.words } ∷ r) (requests_append es fs)
    ]

pub last_launch_more : (o : Option Launch) (es : List Act) (e : Act) → last_launch o (es ++ e ∷ []) ≡ launch_in e.call e.reply
last_launch_more o [] e = refl
last_launch_more o (x ∷ xs) e = last_launch_more (launch_in x.call x.reply) xs e

pub owed_more : (o : Option Signal) (es : List Act) (e : Act) → owed_from o (es ++ e ∷ []) ≡ owed_after (owed_from o es) e.call e.reply
owed_more o [] e = refl
owed_more o (x ∷ xs) e = owed_more (owed_after o x.call x.reply) xs e

-- lists with one item more
pub slice_get_kept : {X : Type 0} (xs ys : List X) (n : ℕ) (x : X) → slice_get xs n ≡ Some x → slice_get (xs ++ ys) n ≡ Some x
slice_get_kept [] ys n x is = absurd (cc)
slice_get_kept (y ∷ xs) ys zero x is = is
slice_get_kept (y ∷ xs) ys (suc n) x is = slice_get_kept xs ys n x is

pub slice_get_seam : {X : Type 0} (xs : List X) (y : X) → slice_get (xs ++ y ∷ []) (length xs) ≡ Some y
slice_get_seam [] y = refl
slice_get_seam (x ∷ xs) y = slice_get_seam xs y

pub slice_get_cases : {X : Type 0} (xs : List X) (y : X) (n : ℕ) (x : X) → slice_get (xs ++ y ∷ []) n ≡ Some x → (slice_get xs n ≡ Some x) ⊎ (x ≡ y)
slice_get_cases [] y zero x is = inr (cc)
slice_get_cases [] y (suc n) x is = absurd (cc)
slice_get_cases (z ∷ xs) y zero x is = inl is
slice_get_cases (z ∷ xs) y (suc n) x is = slice_get_cases xs y n x is

-- places of a slab, where one changed
pub update_cases : {T : Type 0} (old new : Slab T) (key : ℕ) (slot : Option T) → Updates old new key slot → (k : ℕ) (x : T) → get new k ≡ Some x →
    ((k ≡ key) × (slot ≡ Some x)) ⊎ ((k ≡ key → ⊥) × (get old k ≡ Some x))
update_cases old new key slot u k x is =
    (elim (eqb k key) as (λ b. eqb k key ≡ b → ((k ≡ key) × (slot ≡ Some x)) ⊎ ((k ≡ key → ⊥) × (get old k ≡ Some x))) [
      | true ↦ λ e. (let same = eqb-true k key e in inl (same, sym u.changed ∙ ap (get new) (sym same) ∙ is))
      | false ↦ λ e. (let other = eqb-false k key e in inr (other, sym (u.others k other) ∙ is))
    ]) refl

pub updates_on : {T : Type 0} (old mid new : Slab T) (key : ℕ) (a b : Option T) → Updates old mid key a → Updates mid new key b → Updates old new key b
updates_on old mid new key a b u v = record { changed = v.changed; others = λ other apart. v.others other apart ∙ u.others other apart }

-- a slab in which room was made
pub reserved_get : {T : Type 0} (old mid : Slab T) → mid ≡ record old { capacity = mid.capacity } → (k : ℕ) → get mid k ≡ get old k
reserved_get old mid same k = ap (λ (s : Slab _). get s k) same

pub reserved_updates : {T : Type 0} (old mid new : Slab T) (key : ℕ) (slot : Option T) → mid ≡ record old { capacity = mid.capacity } → Updates mid new key slot → Updates old new key slot
reserved_updates old mid new key slot same u = record { changed = u.changed; others = λ other apart. u.others other apart ∙ reserved_get old mid same other }
