-- Laws of what is heard: nothing, and one list after another; and what a count is after so many calls.
use Rattle.std.specs.Prelude.{◌≡◌, ℕ, zero, suc, ◌+◌, ◌-◌, ◌^◌, ◌<◌, min, List, [], ◌++◌, length, Option, Some, None, refl}
use Rattle.std.proofs.Common.{sym, ap, ◌∙◌, arith, append_assoc}
use Rattle.std.proofs.lemmas.List.{length-append, append-nil}
use Rattle.drmaa_types.specs.Readings.{counted_on}
use Rattle.drmaa_types.specs.declared.changes.Notification.{Notification}
use Rattle.change_callbacks.specs.Hearing.{Hears, HasHeard, count_after}

-- so many calls, and then so many
pub count_after-add : (c m n : ℕ) → count_after (count_after c m) n ≡ count_after c (m + n)
count_after-add c m zero = ap (count_after c) (let e : m ≡ m + 0 = omega arith in e)
count_after-add c m (suc n) = ap counted_on (count_after-add c m n) ∙ ap (count_after c) (let e : suc (m + n) ≡ m + suc n = omega arith in e)

-- a count rises by the number of calls, up to its greatest value
pub count_after-is : (c n : ℕ) → c < 2 ^ 64 → count_after c n ≡ min (c + n) (2 ^ 64 - 1)
count_after-is c zero fits = omega (arith, fits)
count_after-is c (suc n) fits = ap counted_on (count_after-is c n fits) ∙ omega (arith, fits)

pub Hears-none : (told : Option (List Notification)) → Hears told [] told
Hears-none None = tt
Hears-none (Some xs) = sym (append-nil xs)

pub Hears-then : (a b c : Option (List Notification)) (xs ys : List Notification) → Hears a xs b → Hears b ys c → Hears a (xs ++ ys) c
Hears-then a b None xs ys h k = tt
Hears-then (Some first) (Some second) (Some third) xs ys h k = k ∙ ap (λ zs. zs ++ ys) h ∙ append_assoc first xs ys
Hears-then None (Some second) (Some third) xs ys h k = h
Hears-then a None (Some third) xs ys h k = absurd k

module _ {B : Type 0} {counted : B → ℕ} {told : B → Option (List Notification)} where
  -- nothing is heard between a callback and itself
  pub HasHeard-none : (b : B) → HasHeard counted told b b []
  HasHeard-none b = record { number = refl; list = Hears-none (told b) }

  -- one list, and then another
  pub HasHeard-then : (a b c : B) (xs ys : List Notification) → HasHeard counted told a b xs → HasHeard counted told b c ys → HasHeard counted told a c (xs ++ ys)
  HasHeard-then a b c xs ys h k = record {
    number = k.number ∙ ap (λ n. count_after n (length ys)) h.number ∙ count_after-add (counted a) (length xs) (length ys)
        ∙ ap (count_after (counted a)) (sym (length-append xs ys));
    list = Hears-then (told a) (told b) (told c) xs ys h.list k.list;
  }
