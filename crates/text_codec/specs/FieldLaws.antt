-- The laws of fields and of lists.
use Rattle.std.proofs.Common.{◌≡◌, ℕ, zero, suc, ◌≤◌, ◌&&◌, Bool, true, false, List, [], ◌∷◌, ◌++◌, length, Option, Some, None, refl, sym, ap, subst, ◌∙◌, arith, append_assoc, length-append}
use Rattle.std.specs.List.{list_all, AllByRecursion}
use Rattle.std.proofs.lemmas.Bool.Decides.{nat_tests}
use Rattle.std.proofs.lemmas.Option.{same_Some}
use Rattle.text_codec.specs.Lexical.{parts, is_plain, IsClean}
use Rattle.text_codec.specs.Formats.{Format, IsFormat, Avoids, strip, apart, valid_or, spell_each, read_each, read_all, list_of, spell_list}
use Rattle.text_codec.specs.Fields.{Fields, AreFields, IsFormatUpTo, clear, is_none, is_new, spaced, led, read_set, read_both, read_mark, spell_flag, spell_set, no_more, field, always, flag, repeated, in_braces, joined}
use Rattle.text_codec.specs.StepLaws.{both, true_false, bind, chosen, strip_found, strip_again, strip_apart}
use Rattle.text_codec.specs.CleanLaws.{nil_clean, plain_clean, clean_behind, clean_both}

-- the tests of a new key
new_key : (key : List ℕ) (keys : List (List ℕ)) → is_new key keys ≡ true → (spaced key ≡ true) × (is_plain key ≡ true) × (list_all (apart key) keys ≡ true)
new_key key keys e =
    let t = both (spaced key && is_plain key) (list_all (apart key) keys) e in
    let s = both (spaced key) (is_plain key) t.0 in
    (s.0, s.1, t.1)

none_of : {A : Type 0} (o : Option A) → is_none o ≡ true → o ≡ None
none_of None e = refl
none_of (Some x) e = absurd (true_false (sym e))

-- a key that begins with a space parts what comes before it
key_parts : (key rest : List ℕ) → spaced key ≡ true → parts (key ++ rest) ≡ true
key_parts [] rest e = absurd (true_false (sym e))
key_parts (k ∷ ks) rest e = let space : k ≡ 32 = grind (arith, nat_tests) in rw space refl

key_led : (key rest : List ℕ) → spaced key ≡ true → led (key ++ rest) ≡ true
key_led [] rest e = absurd (true_false (sym e))
key_led (k ∷ ks) rest e = e

key_leads : (key a b : List ℕ) → spaced key ≡ true → led ((key ++ a) ++ b) ≡ true
key_leads key a b e = ap led (append_assoc key a b) ∙ key_led key (a ++ b) e

-- what begins with a space, or with what parts, parts
led_parts : (bs tail : List ℕ) → led bs ≡ true → parts tail ≡ true → parts (bs ++ tail) ≡ true
led_parts [] tail l p = p
led_parts (b ∷ bs) tail l p = let space : b ≡ 32 = grind (arith, nat_tests) in rw space refl

pub parted : {A : Type 0} (fs : Fields A) → AreFields fs → (x : A) (tail : List ℕ) → parts tail ≡ true → parts (fs.body.spell x ++ tail) ≡ true
parted fs G x tail p = led_parts (fs.body.spell x) tail (G.leads x) p

-- fields
pub no_more_laws : AreFields no_more
unfolding no_more
no_more_laws = record {
  found = λ bs p e. subst (λ (s : Unit {0} × List ℕ). Unit {0} × (bs ≡ s.1)) (same_Some _ _ e) (tt, refl);
  again = λ x tail v p c. refl;
  skips = λ key x tail a t. t;
  leads = λ x. refl;
  clean = λ x v. nil_clean;
}

pub field_laws : {A B : Type 0} (key : List ℕ) (f : Format A) (fs : Fields B) → IsFormat f → AreFields fs → is_new key fs.keys ≡ true → AreFields (field key f fs)
unfolding field
field_laws key f fs F G new = record {
  found = λ bs r e. bind (read_set key f.read bs) _ r e (λ o i j. chosen (strip key bs) _ _ _ i
      (λ rest a b. bind (f.read rest) _ o b (λ p c d. bind (fs.body.read o.1) _ r j (λ q g h.
      let m = set_found key f fs F G bs rest o p q a c d g in subst (λ s. (valid_or f.valid s.0.0 × fs.body.valid s.0.1) × (bs ≡ (spell_set key f.spell s.0.0 ++ fs.body.spell s.0.1) ++ s.1)) (same_Some _ _ h) m)))
      (λ a b. bind (fs.body.read o.1) _ r j (λ q g h. subst (λ s. (valid_or f.valid s.0.0 × fs.body.valid s.0.1) × (bs ≡ (spell_set key f.spell s.0.0 ++ fs.body.spell s.0.1) ++ s.1)) (same_Some _ _ h) (unset_found key f fs G bs o q b g))));
  again = field_again key f fs F G new;
  skips = field_skips key f fs G;
  leads = field_leads key f fs G new;
  clean = field_clean key f fs F G new;
}
  where
    regroup : (a b c d : List ℕ) → a ++ (b ++ (c ++ d)) ≡ ((a ++ b) ++ c) ++ d
    regroup a b c d = simp append_assoc

    set_found : {A B : Type 0} (key : List ℕ) (f : Format A) (fs : Fields B) → IsFormat f → AreFields fs → (bs rest : List ℕ) (o : Option A × List ℕ) (p : A × List ℕ) (q : B × List ℕ) → strip key bs ≡ Some rest → f.read rest ≡ Some p
        → ◌≡◌ {A = Option (Option A × List ℕ)} (Some (Some p.0, p.1)) (Some o) → fs.body.read o.1 ≡ Some q → (valid_or f.valid o.0 × fs.body.valid q.0) × (bs ≡ (spell_set key f.spell o.0 ++ fs.body.spell q.0) ++ q.1)
    set_found key f fs F G bs rest o p q a c d g =
        let m = F.found rest p c in
        let n = G.found o.1 q g in
        let whole : bs ≡ ((key ++ f.spell p.0) ++ fs.body.spell q.0) ++ q.1 =
        strip_found key bs rest a ∙ ap (λ t. key ++ t) m.1 ∙ ap (λ t. key ++ (f.spell p.0 ++ t)) (ap (λ u. u.1) (same_Some _ _ d) ∙ n.1) ∙ regroup key (f.spell p.0) (fs.body.spell q.0) q.1 in
        subst (λ v. (valid_or f.valid v.0 × fs.body.valid q.0) × (bs ≡ (spell_set key f.spell v.0 ++ fs.body.spell q.0) ++ q.1)) (same_Some _ _ d) ((m.0, n.0), whole)

    unset_found : {A B : Type 0} (key : List ℕ) (f : Format A) (fs : Fields B) → AreFields fs → (bs : List ℕ) (o : Option A × List ℕ) (q : B × List ℕ)
        → ◌≡◌ {A = Option (Option A × List ℕ)} (Some (None, bs)) (Some o) → fs.body.read o.1 ≡ Some q → (valid_or f.valid o.0 × fs.body.valid q.0) × (bs ≡ (spell_set key f.spell o.0 ++ fs.body.spell q.0) ++ q.1)
    unset_found {A = A} key f fs G bs o q b g =
        let n = G.found o.1 q g in
        let P : Option A × List ℕ → Type 0 = λ v. (valid_or f.valid v.0 × fs.body.valid q.0) × (bs ≡ (spell_set key f.spell v.0 ++ fs.body.spell q.0) ++ q.1) in
        subst P (same_Some _ _ b) ((tt, n.0), ap (λ u. u.1) (same_Some _ _ b) ∙ n.1)

    field_again : {A B : Type 0} (key : List ℕ) (f : Format A) (fs : Fields B) → IsFormat f → AreFields fs → is_new key fs.keys ≡ true
        → (x : Option A × B) (tail : List ℕ) → valid_or f.valid x.0 × fs.body.valid x.1 → parts tail ≡ true → clear (key ∷ fs.barred) tail ≡ true
        → read_both (read_set key f.read) fs.body.read ((spell_set key f.spell x.0 ++ fs.body.spell x.1) ++ tail) ≡ Some (x, tail)
    field_again key f fs F G new (None, y) tail v p c =
        let k = both (is_none (strip key tail)) (clear fs.barred tail) c in
        rw (G.skips key y tail (new_key key fs.keys new).2 (none_of (strip key tail) k.0), G.again y tail v.1 p k.1) refl
    field_again key f fs F G new (Some x, y) tail v p c =
        let k = both (is_none (strip key tail)) (clear fs.barred tail) c in
        rw (
          sym (regroup key (f.spell x) (fs.body.spell y) (tail)),
          strip_again key (f.spell x ++ (fs.body.spell y ++ tail)),
          F.again x (fs.body.spell y ++ tail) v.0 (parted fs G y tail p),
          G.again y tail v.1 p k.1,
        ) refl

    field_skips : {A B : Type 0} (key : List ℕ) (f : Format A) (fs : Fields B) → AreFields fs
        → (other : List ℕ) (x : Option A × B) (tail : List ℕ) → list_all (apart other) (key ∷ fs.keys) ≡ true → strip other tail ≡ None
        → strip other ((spell_set key f.spell x.0 ++ fs.body.spell x.1) ++ tail) ≡ None
    field_skips key f fs G other (None, y) tail e t = G.skips other y tail (both (apart other key) (list_all (apart other) fs.keys) e).1 t
    field_skips key f fs G other (Some x, y) tail e t =
        rw (sym (regroup key (f.spell x) (fs.body.spell y) (tail))) (strip_apart other key (f.spell x ++ (fs.body.spell y ++ tail)) (both (apart other key) (list_all (apart other) fs.keys) e).0)

    field_leads : {A B : Type 0} (key : List ℕ) (f : Format A) (fs : Fields B) → AreFields fs → is_new key fs.keys ≡ true → (x : Option A × B) → led (spell_set key f.spell x.0 ++ fs.body.spell x.1) ≡ true
    field_leads key f fs G new (None, y) = G.leads y
    field_leads key f fs G new (Some x, y) = key_leads key (f.spell x) (fs.body.spell y) (new_key key fs.keys new).0

    field_clean : {A B : Type 0} (key : List ℕ) (f : Format A) (fs : Fields B) → IsFormat f → AreFields fs → is_new key fs.keys ≡ true → (x : Option A × B) → valid_or f.valid x.0 × fs.body.valid x.1 → IsClean (spell_set key f.spell x.0 ++ fs.body.spell x.1)
    field_clean key f fs F G new (None, y) v = G.clean y v.1
    field_clean key f fs F G new (Some x, y) v = clean_both (key ++ f.spell x) (fs.body.spell y) (clean_behind key (f.spell x) (new_key key fs.keys new).1 (F.clean x v.0)) (G.clean y v.1)

-- values, each behind a key
regroup3 : (a b c d : List ℕ) → ((a ++ b) ++ c) ++ d ≡ a ++ (b ++ (c ++ d))
regroup3 a b c d = simp append_assoc

pub always_laws : {A B : Type 0} (key : List ℕ) (f : Format A) (fs : Fields B) → (spaced key && is_plain key) ≡ true → IsFormat f → AreFields fs → AreFields (always key f fs)
unfolding always
always_laws key f fs new F G =
    let tests = both (spaced key) (is_plain key) new in
    record {
      found = λ bs r e. bind (strip key bs) _ r e (λ u a e'. bind (f.read u) _ r e' (λ p b e''. bind (fs.body.read p.1) _ r e'' (λ q c h.
          let m = F.found u p b in
          let n = G.found p.1 q c in
          let whole : bs ≡ (key ++ f.spell p.0 ++ fs.body.spell q.0) ++ q.1 =
          strip_found key bs u a ∙ ap (λ t. key ++ t) m.1 ∙ ap (λ t. key ++ (f.spell p.0 ++ t)) n.1 ∙ sym (regroup3 key (f.spell p.0) (fs.body.spell q.0) q.1) in
          subst (λ s. (f.valid s.0.0 × fs.body.valid s.0.1) × (bs ≡ (key ++ f.spell s.0.0 ++ fs.body.spell s.0.1) ++ s.1)) (same_Some _ _ h) ((m.0, n.0), whole))));
      again = λ x tail v p c.
          rw (
            regroup3 key (f.spell x.0) (fs.body.spell x.1) tail,
            strip_again key (f.spell x.0 ++ (fs.body.spell x.1 ++ tail)),
            F.again x.0 (fs.body.spell x.1 ++ tail) v.0 (parted fs G x.1 tail p),
            G.again x.1 tail v.1 p c,
          ) refl;
      clean = λ x v. clean_both (key ++ f.spell x.0) (fs.body.spell x.1) (clean_behind key (f.spell x.0) tests.1 (F.clean x.0 v.0)) (G.clean x.1 v.1);
      skips = λ other x tail e t.
          rw (regroup3 key (f.spell x.0) (fs.body.spell x.1) tail) (strip_apart other key (f.spell x.0 ++ (fs.body.spell x.1 ++ tail)) (both (apart other key) true e).0);
      leads = λ x. key_leads key (f.spell x.0) (fs.body.spell x.1) tests.0;
    }

pub flag_laws : {B : Type 0} (key : List ℕ) (fs : Fields B) → AreFields fs → is_new key fs.keys ≡ true → AreFields (flag key fs)
unfolding flag
flag_laws key fs G new = record {
  found = λ bs r e. flag_found key fs G bs r e;
  again = flag_again key fs G new;
  skips = flag_skips key fs G;
  leads = flag_leads key fs G new;
  clean = flag_clean key fs G new;
}
  where
    flag_found : {B : Type 0} (key : List ℕ) (fs : Fields B) → AreFields fs → (bs : List ℕ) (r : (Bool × B) × List ℕ) → read_both (read_mark key) fs.body.read bs ≡ Some r → fs.body.valid r.0.1 × (bs ≡ (spell_flag key r.0.0 ++ fs.body.spell r.0.1) ++ r.1)
    flag_found key fs G bs r e = bind (read_mark key bs) _ r e (λ o i j. bind (fs.body.read o.1) _ r j (λ q g h.
        let n = G.found o.1 q g in
        let P : (Bool × List ℕ) → Type 0 = λ v. bs ≡ (spell_flag key v.0 ++ fs.body.spell q.0) ++ q.1 in
        let whole : P o = chosen (strip key bs) _ _ _ i
        (λ rest a b. subst P (same_Some _ _ b) (strip_found key bs rest a ∙ ap (λ t. key ++ t) (ap (λ u. u.1) (same_Some _ _ b) ∙ n.1) ∙ sym (append_assoc key (fs.body.spell q.0) q.1)))
        (λ a b. subst P (same_Some _ _ b) (ap (λ u. u.1) (same_Some _ _ b) ∙ n.1)) in
        subst (λ s. fs.body.valid s.0.1 × (bs ≡ (spell_flag key s.0.0 ++ fs.body.spell s.0.1) ++ s.1)) (same_Some _ _ h) (n.0, whole)))

    flag_again : {B : Type 0} (key : List ℕ) (fs : Fields B) → AreFields fs → is_new key fs.keys ≡ true
        → (x : Bool × B) (tail : List ℕ) → fs.body.valid x.1 → parts tail ≡ true → clear (key ∷ fs.barred) tail ≡ true → read_both (read_mark key) fs.body.read ((spell_flag key x.0 ++ fs.body.spell x.1) ++ tail) ≡ Some (x, tail)
    flag_again key fs G new (false, y) tail v p c =
        let k = both (is_none (strip key tail)) (clear fs.barred tail) c in
        rw (G.skips key y tail (new_key key fs.keys new).2 (none_of (strip key tail) k.0), G.again y tail v p k.1) refl
    flag_again key fs G new (true, y) tail v p c =
        let k = both (is_none (strip key tail)) (clear fs.barred tail) c in
        rw (append_assoc key (fs.body.spell y) (tail), strip_again key (fs.body.spell y ++ tail), G.again y tail v p k.1) refl

    flag_skips : {B : Type 0} (key : List ℕ) (fs : Fields B) → AreFields fs
        → (other : List ℕ) (x : Bool × B) (tail : List ℕ) → list_all (apart other) (key ∷ fs.keys) ≡ true → strip other tail ≡ None → strip other ((spell_flag key x.0 ++ fs.body.spell x.1) ++ tail) ≡ None
    flag_skips key fs G other (false, y) tail e t = G.skips other y tail (both (apart other key) (list_all (apart other) fs.keys) e).1 t
    flag_skips key fs G other (true, y) tail e t = rw (append_assoc key (fs.body.spell y) (tail)) (strip_apart other key (fs.body.spell y ++ tail) (both (apart other key) (list_all (apart other) fs.keys) e).0)

    flag_leads : {B : Type 0} (key : List ℕ) (fs : Fields B) → AreFields fs → is_new key fs.keys ≡ true → (x : Bool × B) → led (spell_flag key x.0 ++ fs.body.spell x.1) ≡ true
    flag_leads key fs G new (false, y) = G.leads y
    flag_leads key fs G new (true, y) = key_led key (fs.body.spell y) (new_key key fs.keys new).0

    flag_clean : {B : Type 0} (key : List ℕ) (fs : Fields B) → AreFields fs → is_new key fs.keys ≡ true → (x : Bool × B) → fs.body.valid x.1 → IsClean (spell_flag key x.0 ++ fs.body.spell x.1)
    flag_clean key fs G new (false, y) v = G.clean y v
    flag_clean key fs G new (true, y) v = clean_behind key (fs.body.spell y) (new_key key fs.keys new).1 (G.clean y v)

-- each value
pub each_found : {A : Type 0} (key : List ℕ) (f : Format A) → IsFormat f → (n : ℕ) (bs : List ℕ) (p : List A × List ℕ) → read_each key f.read n bs ≡ Some p
    → AllByRecursion f.valid p.0 × (bs ≡ spell_each key f.spell p.0 ++ p.1)
each_found key f F zero bs p e = subst (λ s. AllByRecursion f.valid s.0 × (bs ≡ spell_each key f.spell s.0 ++ s.1)) (same_Some _ _ e) (tt, refl)
each_found key f F (suc n) bs p e = chosen (strip key bs) _ _ _ e
    (λ rest a b. bind (f.read rest) _ p b (λ q c d. bind (read_each key f.read n q.1) _ p d (λ r g h.
    let m = F.found rest q c in
    let k = each_found key f F n q.1 r g in
    let whole : bs ≡ ((key ++ f.spell q.0) ++ spell_each key f.spell r.0) ++ r.1 =
    strip_found key bs rest a ∙ ap (λ t. key ++ t) m.1 ∙ ap (λ t. key ++ (f.spell q.0 ++ t)) k.1 ∙ sym (regroup3 key (f.spell q.0) (spell_each key f.spell r.0) r.1) in
    subst (λ s. AllByRecursion f.valid s.0 × (bs ≡ spell_each key f.spell s.0 ++ s.1)) (same_Some _ _ h) ((m.0, k.0), whole))))
    (λ a b. subst (λ s. AllByRecursion f.valid s.0 × (bs ≡ spell_each key f.spell s.0 ++ s.1)) (same_Some _ _ b) (tt, refl))

each_parted : {A : Type 0} (key : List ℕ) (spell : A → List ℕ) (xs : List A) (tail : List ℕ) → spaced key ≡ true → parts tail ≡ true → parts (spell_each key spell xs ++ tail) ≡ true
each_parted key spell [] tail s p = p
each_parted key spell (x ∷ xs) tail s p = rw (regroup3 key (spell x) (spell_each key spell xs) tail) (key_parts key (spell x ++ (spell_each key spell xs ++ tail)) s)

each_leads : {A : Type 0} (key : List ℕ) (spell : A → List ℕ) (xs : List A) (tail : List ℕ) → spaced key ≡ true → led tail ≡ true → led (spell_each key spell xs ++ tail) ≡ true
each_leads key spell [] tail s l = l
each_leads key spell (x ∷ xs) tail s l = rw (regroup3 key (spell x) (spell_each key spell xs) tail) (key_led key (spell x ++ (spell_each key spell xs ++ tail)) s)

pub each_clean : {A : Type 0} (key : List ℕ) (f : Format A) → IsFormat f → is_plain key ≡ true → (xs : List A) → AllByRecursion f.valid xs → IsClean (spell_each key f.spell xs)
each_clean key f F plain [] v = nil_clean
each_clean key f F plain (x ∷ xs) v = clean_both (key ++ f.spell x) (spell_each key f.spell xs) (clean_behind key (f.spell x) plain (F.clean x v.0)) (each_clean key f F plain xs v.1)

pub each_again : {A : Type 0} (key : List ℕ) (f : Format A) → IsFormat f → spaced key ≡ true → (n : ℕ) (xs : List A) (tail : List ℕ) → length xs ≤ n → strip key tail ≡ None → parts tail ≡ true → AllByRecursion f.valid xs
    → read_each key f.read n (spell_each key f.spell xs ++ tail) ≡ Some (xs, tail)
each_again key f F s zero [] tail l t p v = refl
each_again key f F s zero (x ∷ xs) tail l t p v = absurd (omega (arith, l))
each_again key f F s (suc n) [] tail l t p v = rw t refl
each_again key f F s (suc n) (x ∷ xs) tail l t p v =
    rw (
      regroup3 key (f.spell x) (spell_each key f.spell xs) tail,
      strip_again key (f.spell x ++ (spell_each key f.spell xs ++ tail)),
      F.again x (spell_each key f.spell xs ++ tail) v.0 (each_parted key f.spell xs tail s p),
      each_again key f F s n xs tail (omega (arith, l)) t p v.1,
    ) refl

each_long : {A : Type 0} (key : List ℕ) (spell : A → List ℕ) (xs : List A) (tail : List ℕ) → spaced key ≡ true → length xs ≤ length (spell_each key spell xs ++ tail)
each_long key spell [] tail s = omega arith
each_long [] spell (x ∷ xs) tail s = absurd (true_false (sym s))
each_long (k ∷ ks) spell (x ∷ xs) tail s =
    let more = each_long (k ∷ ks) spell xs tail s in
    omega (arith, more, ap length (regroup3 (k ∷ ks) (spell x) (spell_each (k ∷ ks) spell xs) tail), length-append (k ∷ ks) (spell x ++ (spell_each (k ∷ ks) spell xs ++ tail)), length-append (spell x) (spell_each (k ∷ ks) spell xs ++ tail))

pub all_again : {A : Type 0} (key : List ℕ) (f : Format A) → IsFormat f → spaced key ≡ true → (xs : List A) (tail : List ℕ) → strip key tail ≡ None → parts tail ≡ true → AllByRecursion f.valid xs
    → read_all key f.read (spell_each key f.spell xs ++ tail) ≡ Some (xs, tail)
unfolding read_all
all_again key f F s xs tail t p v = each_again key f F s (length (spell_each key f.spell xs ++ tail)) xs tail (each_long key f.spell xs tail s) t p v

pub all_found : {A : Type 0} (key : List ℕ) (f : Format A) → IsFormat f → (bs : List ℕ) (p : List A × List ℕ) → read_all key f.read bs ≡ Some p → AllByRecursion f.valid p.0 × (bs ≡ spell_each key f.spell p.0 ++ p.1)
unfolding read_all
all_found key f F bs p e = each_found key f F (length bs) bs p e

pub repeated_laws : {A B : Type 0} (key : List ℕ) (f : Format A) (fs : Fields B) → IsFormat f → AreFields fs → is_new key fs.keys ≡ true → AreFields (repeated key f fs)
unfolding repeated
repeated_laws key f fs F G new = record {
  found = λ bs r e. bind (read_all key f.read bs) _ r e (λ p a b. bind (fs.body.read p.1) _ r b (λ q g h.
      let m = all_found key f F bs p a in
      let n = G.found p.1 q g in
      let whole : bs ≡ (spell_each key f.spell p.0 ++ fs.body.spell q.0) ++ q.1 = m.1 ∙ ap (λ t. spell_each key f.spell p.0 ++ t) n.1 ∙ sym (append_assoc (spell_each key f.spell p.0) (fs.body.spell q.0) q.1) in
      subst (λ s. (AllByRecursion f.valid s.0.0 × fs.body.valid s.0.1) × (bs ≡ (spell_each key f.spell s.0.0 ++ fs.body.spell s.0.1) ++ s.1)) (same_Some _ _ h) ((m.0, n.0), whole)));
  again = λ x tail v p c.
      let k = both (is_none (strip key tail)) (clear fs.barred tail) c in
      let tests = new_key key fs.keys new in
      rw (
        append_assoc (spell_each key f.spell x.0) (fs.body.spell x.1) (tail),
        all_again key f F tests.0 x.0 (fs.body.spell x.1 ++ tail) (G.skips key x.1 tail tests.2 (none_of (strip key tail) k.0)) (parted fs G x.1 tail p) v.0,
        G.again x.1 tail v.1 p k.1,
      ) refl;
  skips = λ other x tail e t.
      let tests = both (apart other key) (list_all (apart other) fs.keys) e in
      rw (append_assoc (spell_each key f.spell x.0) (fs.body.spell x.1) (tail)) (each_skips key f.spell x.0 other (fs.body.spell x.1 ++ tail) tests.0 (G.skips other x.1 tail tests.1 t));
  leads = λ x. each_leads key f.spell x.0 (fs.body.spell x.1) (new_key key fs.keys new).0 (G.leads x.1);
  clean = λ x v. clean_both (spell_each key f.spell x.0) (fs.body.spell x.1) (each_clean key f F (new_key key fs.keys new).1 x.0 v.0) (G.clean x.1 v.1);
}
  where
    each_skips : {A : Type 0} (key : List ℕ) (spell : A → List ℕ) (xs : List A) (other tail : List ℕ) → apart other key ≡ true → strip other tail ≡ None → strip other (spell_each key spell xs ++ tail) ≡ None
    each_skips key spell [] other tail a t = t
    each_skips key spell (x ∷ xs) other tail a t = rw (regroup3 key (spell x) (spell_each key spell xs) tail) (strip_apart other key (spell x ++ (spell_each key spell xs ++ tail)) a)

pub in_braces_laws : {A B : Type 0} (key : List ℕ) (f : Format A) (fs : Fields B) → is_plain key ≡ true → IsFormat f → AreFields fs → ((rest : List ℕ) → clear fs.barred (125 ∷ rest) ≡ true) → IsFormat (in_braces key f fs)
unfolding in_braces
in_braces_laws key f fs plain F G closed = record {
  found = λ bs r e. bind (strip (123 ∷ key) bs) _ r e (λ u a e'. bind (f.read u) _ r e' (λ p b e''. bind (fs.body.read p.1) _ r e'' (λ q c e'''. bind (strip (125 ∷ []) q.1) _ r e''' (λ rest d h.
      let m = F.found u p b in
      let n = G.found p.1 q c in
      let whole : bs ≡ (123 ∷ (key ++ f.spell p.0 ++ fs.body.spell q.0 ++ 125 ∷ [])) ++ rest =
      strip_found (123 ∷ key) bs u a ∙ ap (λ t. 123 ∷ (key ++ t)) m.1 ∙ ap (λ t. 123 ∷ (key ++ (f.spell p.0 ++ t))) n.1
      ∙ ap (λ t. 123 ∷ (key ++ (f.spell p.0 ++ (fs.body.spell q.0 ++ t)))) (strip_found (125 ∷ []) q.1 rest d) ∙ ap (λ t. 123 ∷ t) (sym (regroup key (f.spell p.0) (fs.body.spell q.0) rest)) in
      subst (λ s. (f.valid s.0.0 × fs.body.valid s.0.1) × (bs ≡ (123 ∷ (key ++ f.spell s.0.0 ++ fs.body.spell s.0.1 ++ 125 ∷ [])) ++ s.1)) (same_Some _ _ h) ((m.0, n.0), whole)))));
  again = λ x rest v p.
      rw (regroup key (f.spell x.0) (fs.body.spell x.1) rest, strip_again key (f.spell x.0 ++ (fs.body.spell x.1 ++ 125 ∷ rest)), F.again x.0 (fs.body.spell x.1 ++ 125 ∷ rest) v.0 (parted fs G x.1 (125 ∷ rest) refl), G.again x.1 (125 ∷ rest) v.1 refl (closed rest)) refl;
  clean = λ x v. clean_behind (123 ∷ []) _ refl (clean_both (key ++ f.spell x.0 ++ fs.body.spell x.1) (125 ∷ []) (clean_both (key ++ f.spell x.0) (fs.body.spell x.1) (clean_behind key (f.spell x.0) plain (F.clean x.0 v.0)) (G.clean x.1 v.1)) (plain_clean (125 ∷ []) refl));
}
  where
    regroup : (a b c d : List ℕ) → (a ++ b ++ c ++ 125 ∷ []) ++ d ≡ a ++ (b ++ (c ++ 125 ∷ d))
    regroup a b c d = simp append_assoc

pub joined_laws : {A B : Type 0} (key : List ℕ) (fs : Fields A) (f : Format B) → is_plain key ≡ true → ((rest : List ℕ) → parts (key ++ rest) ≡ true) → ((rest : List ℕ) → clear fs.barred (key ++ rest) ≡ true)
    → IsFormatUpTo fs → IsFormat f → IsFormat (joined key fs f)
unfolding joined
joined_laws key fs f plain parted closed G F = record {
  found = λ bs r e. bind (fs.body.read bs) _ r e (λ p a e1. bind (strip key p.1) _ r e1 (λ rest b e2. bind (f.read rest) _ r e2 (λ q c d.
      let h = G.found bs p a in
      let k = F.found rest q c in
      let whole : bs ≡ (fs.body.spell p.0 ++ (key ++ f.spell q.0)) ++ q.1 =
      h.1 ∙ ap (λ t. fs.body.spell p.0 ++ t) (strip_found key p.1 rest b) ∙ ap (λ t. fs.body.spell p.0 ++ (key ++ t)) k.1 ∙ regroup (fs.body.spell p.0) key (f.spell q.0) q.1 in
      subst (λ s. (fs.body.valid s.0.0 × f.valid s.0.1) × (bs ≡ (fs.body.spell s.0.0 ++ (key ++ f.spell s.0.1)) ++ s.1)) (same_Some _ _ d) ((h.0, k.0), whole))));
  again = λ x rest v p.
      rw (sym (regroup (fs.body.spell x.0) key (f.spell x.1) rest), G.again x.0 (key ++ (f.spell x.1 ++ rest)) v.0 (parted (f.spell x.1 ++ rest)) (closed (f.spell x.1 ++ rest)), strip_again key (f.spell x.1 ++ rest), F.again x.1 rest v.1 p) refl;
  clean = λ x v. clean_both (fs.body.spell x.0) (key ++ f.spell x.1) (G.clean x.0 v.0) (clean_behind key (f.spell x.1) plain (F.clean x.1 v.1));
}
  where
    regroup : (a b c d : List ℕ) → a ++ (b ++ (c ++ d)) ≡ (a ++ (b ++ c)) ++ d
    regroup a b c d = simp append_assoc

pub list_laws : {A : Type 0} (f : Format A) → IsFormat f → Avoids (93 ∷ []) f → IsFormat (list_of f)
unfolding list_of
list_laws f F avoids = record {
  found = λ bs r e. bind (strip (91 ∷ []) bs) _ r e (λ u a e'. chosen (strip (93 ∷ []) u) _ _ _ e'
      (λ rest b c. subst (λ s. AllByRecursion f.valid s.0 × (bs ≡ spell_list f.spell s.0 ++ s.1)) (same_Some _ _ c) (tt, strip_found (91 ∷ []) bs u a ∙ ap (λ t. 91 ∷ t) (strip_found (93 ∷ []) u rest b)))
      (λ b c. bind (f.read u) _ r c (λ p d d'. bind (read_all (32 ∷ []) f.read p.1) _ r d' (λ q g g'. bind (strip (93 ∷ []) q.1) _ r g' (λ rest h h'.
      let m = F.found u p d in
      let n = all_found (32 ∷ []) f F p.1 q g in
      let whole : bs ≡ (91 ∷ (f.spell p.0 ++ spell_each (32 ∷ []) f.spell q.0 ++ 93 ∷ [])) ++ rest =
      strip_found (91 ∷ []) bs u a ∙ ap (λ t. 91 ∷ t) m.1 ∙ ap (λ t. 91 ∷ (f.spell p.0 ++ t)) n.1 ∙ ap (λ t. 91 ∷ (f.spell p.0 ++ (spell_each (32 ∷ []) f.spell q.0 ++ t))) (strip_found (93 ∷ []) q.1 rest h)
      ∙ ap (λ t. 91 ∷ t) (sym (regroup (f.spell p.0) (spell_each (32 ∷ []) f.spell q.0) rest)) in
      subst (λ s. AllByRecursion f.valid s.0 × (bs ≡ spell_list f.spell s.0 ++ s.1)) (same_Some _ _ h') ((m.0, n.0), whole))))));
  again = list_again f F avoids;
  clean = list_clean f F;
}
  where
    regroup : (a b c : List ℕ) → (a ++ b ++ 93 ∷ []) ++ c ≡ a ++ (b ++ 93 ∷ c)
    regroup a b c = simp append_assoc

    list_again : {A : Type 0} (f : Format A) → IsFormat f → Avoids (93 ∷ []) f → (xs : List A) (rest : List ℕ) → AllByRecursion f.valid xs → parts rest ≡ true → (list_of f).read (spell_list f.spell xs ++ rest) ≡ Some (xs, rest)
    list_again f F avoids [] rest v p = refl
    list_again f F avoids (x ∷ xs) rest v p =
        rw (
          regroup (f.spell x) (spell_each (32 ∷ []) f.spell xs) rest,
          avoids x (spell_each (32 ∷ []) f.spell xs ++ 93 ∷ rest) v.0,
          F.again x (spell_each (32 ∷ []) f.spell xs ++ 93 ∷ rest) v.0 (each_parted (32 ∷ []) f.spell xs (93 ∷ rest) refl refl),
          all_again (32 ∷ []) f F refl xs (93 ∷ rest) refl refl v.1,
        ) refl

    list_clean : {A : Type 0} (f : Format A) → IsFormat f → (xs : List A) → AllByRecursion f.valid xs → IsClean (spell_list f.spell xs)
    list_clean f F [] v = plain_clean (91 ∷ 93 ∷ []) refl
    list_clean f F (x ∷ xs) v =
        clean_behind (91 ∷ []) _ refl (clean_both (f.spell x ++ spell_each (32 ∷ []) f.spell xs) (93 ∷ []) (clean_both (f.spell x) (spell_each (32 ∷ []) f.spell xs) (F.clean x v.0) (each_clean (32 ∷ []) f F refl xs v.1)) (plain_clean (93 ∷ []) refl))

-- fields are a form up to what is barred
pub up_to : {A : Type 0} (fs : Fields A) → AreFields fs → IsFormatUpTo fs
up_to fs F = record { found = F.found; again = F.again; clean = F.clean }
