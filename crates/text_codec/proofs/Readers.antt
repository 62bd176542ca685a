-- What the readers answer.
use Rattle.std.proofs.Common.{◌≡◌, ◌≢◌, ℕ, ◌<◌, ◌≤◌, ◌^◌, Bor, MatchOption, List, [], ◌∷◌, ◌++◌, length, Option, Some, None, option_map, IfSome, IsSomeAnd, decimal, refl, sym, ap, ◌∙◌, lit≤}
use Rattle.std.proofs.lemmas.Option.{none-some, same_Some}
use Rattle.std.specs.List.{prefix_len}
use Rattle.std.proofs.lemmas.List.Sums.{prefix_len-le-length}
use Rattle.text_codec.specs.Lexical.{is_letter}
use Rattle.text_codec.specs.Formats.{strip, number_of}
use Rattle.std.specs.Prelude.{IsErr, IsErrAnd, IsUtf8, Result, Ok, Err, IfOk}
use Rattle.text_codec.specs.Formats.{Format, IsFormat, ◌>>=◌, read_each, read_all, read_on, onto}
use Rattle.text_codec.specs.Fields.{spaced}
use Rattle.text_codec.specs.Formats.{Answers}
use Rattle.text_codec.specs.declared.unread.Unread.{Unread}
use Rattle.text_codec.specs.declared.unread.Unread.TheVariants.{Unspelled, OutOfMemory}
use Rattle.std.specs.Prelude.{codes}
use Rattle.std.proofs.Common.{true, zero, suc, append_assoc, append-nil, length-append, arith}
use Rattle.text_codec.specs.Lexical.{quoted}
use Rattle.text_codec.specs.Quotes.{text, text_at, inside, inside_at}
use Rattle.text_codec.specs.BaseLaws.{text_laws, text_again_any}
use Rattle.text_codec.specs.StepLaws.{true_false, strip_found, strip_again}
use Rattle.text_codec.specs.BaseLaws.{number_found, number_again}
use Rattle.text_codec.specs.Braces.{braced}
use Rattle.std.specs.Prelude.{OnOk, if◌then◌else◌}
use Rattle.std.specs.Result.{is_ok}
use Rattle.std.proofs.Math.Seq.{set-append_seam}
use Rattle.std.proofs.Math.ListN.{set}

pub strip_is : (bs key : List ℕ) (r : Option (Bor (List ℕ))) → MatchOption r ((rest : List ℕ) → bs ≢ key ++ rest) (λ x. bs ≡ key ++ x.now) → option_map (λ x. x.now) r ≡ strip key bs
strip_is bs key None h = elim (strip key bs) as (λ (o : Option (List ℕ)). strip key bs ≡ o → None ≡ o) [ None ↦ λ e. refl | Some r ↦ λ e. absurd (h r (strip_found key bs r e)) ] refl
strip_is bs key (Some x) h = sym (ap (strip key) h ∙ strip_again key x.now)

pub number_exact : (w : List ℕ) (r : Option ℕ) → IfSome r (λ n. n < 2 ^ 64) → IfSome r (λ n. w ≡ decimal n) → ((n : ℕ) → n < 2 ^ 64 → w ≡ decimal n → r ≡ Some n) → r ≡ number_of (2 ^ 64) w
number_exact w None fits found only = elim (number_of (2 ^ 64) w) as (λ (o : Option ℕ). number_of (2 ^ 64) w ≡ o → None ≡ o) [ None ↦ λ e. refl | Some n ↦ λ e. let k = number_found (2 ^ 64) w n e in only n k.0 k.1 ] refl
number_exact w (Some n) fits found only = sym (ap (number_of (2 ^ 64)) found ∙ number_again (2 ^ 64) n (lit≤ tt) fits)

pub word_within : (bs : List ℕ) → prefix_len is_letter bs ≤ length bs
word_within bs = prefix_len-le-length is_letter bs

pub text_read : (bs t rest : List ℕ) → IsUtf8 t × (bs ≡ quoted t ++ rest) → text.read bs ≡ Some (t, rest)
unfolding text
text_read bs t rest h = ap text_at h.1 ∙ text_again_any t rest h.0

pub text_none : (bs : List ℕ) → ((t rest : List ℕ) → IsUtf8 t → bs ≡ quoted t ++ rest → ⊥) → text.read bs ≡ None
unfolding text
text_none bs no_text = elim (text.read bs) as (λ (o : Option (List ℕ × List ℕ)). text.read bs ≡ o → o ≡ None) [ None ↦ λ e. refl | Some p ↦ λ e. let h = text_laws.found bs p e in absurd (no_text p.0 p.1 h.0 (h.1 ∙ spell_text p.0 p.1)) ] refl
  where
    spell_text : (t rest : List ℕ) → text.spell t ++ rest ≡ quoted t ++ rest
    spell_text t rest = refl

pub text_given : (bs : List ℕ) (r : Option (List ℕ × Bor (List ℕ))) → IfSome r (λ q. IsUtf8 q.0 × (bs ≡ quoted q.0 ++ q.1.now))
    → ((t rest : List ℕ) → IsUtf8 t → bs ≡ quoted t ++ rest → IsSomeAnd r (λ q. (q.0 ≡ t) × (q.1.now ≡ rest)))
    → option_map (λ q. (q.0, q.1.now)) r ≡ text.read bs
text_given bs None found only = sym (text_none bs (λ t rest u e. only t rest u e))
text_given bs (Some q) found only = sym (text_read bs q.0 q.1.now found)

pub text_answer : {E : Type 0} (bs : List ℕ) (r : Result (Option (List ℕ × Bor (List ℕ))) E) → IfOk r (λ o. IfSome o (λ q. IsUtf8 q.0 × (bs ≡ quoted q.0 ++ q.1.now)))
    → ((t rest : List ℕ) → IsUtf8 t → bs ≡ quoted t ++ rest → IfOk r (λ o. IsSomeAnd o (λ q. (q.0 ≡ t) × (q.1.now ≡ rest))))
    → IfOk r (λ o. option_map (λ q. (q.0, q.1.now)) o ≡ text.read bs)
text_answer bs (Ok o) found only = text_given bs o found only
text_answer bs (Err e) found only = tt

-- values behind a key, one after another
shorter : {A : Type 0} (f : Format A) → IsFormat f → (bs : List ℕ) (p : A × List ℕ) → f.read bs ≡ Some p → length p.1 ≤ length bs
shorter f F bs p e = omega (arith, ap length (F.found bs p e).1, length-append (f.spell p.0) p.1)

strip_shorter : (key bs rest : List ℕ) → spaced key ≡ true → strip key bs ≡ Some rest → length rest < length bs
strip_shorter [] bs rest s e = absurd (true_false (sym s))
strip_shorter (k ∷ ks) bs rest s e = omega (arith, ap length (strip_found (k ∷ ks) bs rest e), length-append ks rest)

strip_nothing : (key bs : List ℕ) → spaced key ≡ true → length bs ≤ 0 → strip key bs ≡ None
strip_nothing [] bs s l = absurd (true_false (sym s))
strip_nothing (k ∷ ks) [] s l = refl
strip_nothing (k ∷ ks) (b ∷ bs) s l = absurd (omega (arith, l))

abbrev again_each : {A : Type 0} → A → Option (List A × List ℕ) → Option (List A × List ℕ)
again_each x o = o >>= λ q. Some (x ∷ q.0, q.1)

-- the same steps, however many are allowed
each_steps : {A : Type 0} (key : List ℕ) (f : Format A) → IsFormat f → spaced key ≡ true → (n m : ℕ) (bs : List ℕ) → length bs ≤ n → length bs ≤ m → read_each key f.read n bs ≡ read_each key f.read m bs
each_steps key f F s zero zero bs l k = refl
each_steps key f F s zero (suc m) bs l k = rw (strip_nothing key bs s l) refl
each_steps key f F s (suc n) zero bs l k = rw (strip_nothing key bs s k) refl
each_steps key f F s (suc n) (suc m) bs l k = by_option (strip key bs)
    (λ e. rw e refl)
    (λ rest e. by_option (f.read rest)
    (λ g. rw (e, g) refl)
    (λ p g.
    let less = strip_shorter key bs rest s e in
    let least = shorter f F rest p g in
    rw (e, g) (ap (again_each p.0) (each_steps key f F s n m p.1 (omega (arith, l, less, least)) (omega (arith, k, less, least))))))
  where
    by_option : {A P : Type 0} (o : Option A) → (o ≡ None → P) → ((x : A) → o ≡ Some x → P) → P
    by_option None n k = n refl
    by_option (Some x) n k = k x refl

all_step : {A : Type 0} (key : List ℕ) (f : Format A) → IsFormat f → spaced key ≡ true → (bs rest : List ℕ) (p : A × List ℕ) → strip key bs ≡ Some rest → f.read rest ≡ Some p
    → read_all key f.read bs ≡ again_each p.0 (read_all key f.read p.1)
unfolding read_all
all_step key f F s bs rest p e g =
    let less = strip_shorter key bs rest s e in
    let least = shorter f F rest p g in
    each_steps key f F s (length bs) (suc (length bs)) bs (omega arith) (omega arith) ∙ rw (e, g) (ap (again_each p.0) (each_steps key f F s (length bs) (length p.1) p.1 (omega (arith, less, least)) (omega arith)))

-- one value more was read
pub on_step : {A : Type 0} (key : List ℕ) (f : Format A) → IsFormat f → spaced key ≡ true → (xs : List A) (bs rest : List ℕ) (p : A × List ℕ) → strip key bs ≡ Some rest → f.read rest ≡ Some p
    → read_on key f.read (xs ++ p.0 ∷ []) p.1 ≡ read_on key f.read xs bs
on_step key f F s xs bs rest p e g = moved (read_all key f.read p.1) xs p.0 ∙ ap (onto xs) (sym (all_step key f F s bs rest p e g))
  where
    moved : {A : Type 0} (o : Option (List A × List ℕ)) (xs : List A) (x : A) → onto (xs ++ x ∷ []) o ≡ onto xs (again_each x o)
    moved None xs x = refl
    moved (Some q) xs x = ap (λ ys. Some (ys, q.1)) (append_assoc xs (x ∷ []) q.0)

pub on_end : {A : Type 0} (key : List ℕ) (f : Format A) → (xs : List A) (bs : List ℕ) → strip key bs ≡ None → read_on key f.read xs bs ≡ Some (xs, bs)
unfolding read_all
on_end key f xs [] e = ap (λ ys. Some (ys, [])) (append-nil xs)
on_end key f xs (b ∷ bs) e = rw e (ap (λ ys. Some (ys, b ∷ bs)) (append-nil xs))

pub on_none : {A : Type 0} (key : List ℕ) (f : Format A) → spaced key ≡ true → (xs : List A) (bs rest : List ℕ) → strip key bs ≡ Some rest → f.read rest ≡ None → read_on key f.read xs bs ≡ None
unfolding read_all
on_none key f s xs [] rest e g = absurd (none-some _ (sym (strip_nothing key [] s (omega arith)) ∙ e))
on_none key f s xs (b ∷ bs) rest e g = rw (e, g) refl

pub step_shorter : {A : Type 0} (key : List ℕ) (f : Format A) → IsFormat f → spaced key ≡ true → (bs rest : List ℕ) (p : A × List ℕ) → strip key bs ≡ Some rest → f.read rest ≡ Some p → length p.1 < length bs
step_shorter key f F s bs rest p e g = let less = strip_shorter key bs rest s e in let least = shorter f F rest p g in omega (arith, less, least)

pub failed : {A B : Type 0} (read : List ℕ → Option (A × List ℕ)) (whole : List ℕ → Option (B × List ℕ)) (mid old new : List ℕ) (e : Unread) (r : Result B Unread)
    → Answers read mid (Err e) new → IsErr r × IsErrAnd r (λ x. x ≡ e) → (read mid ≡ None → whole old ≡ None) → Answers whole old r new
failed read whole mid old new e (Ok x) a s k = absurd s.1
failed read whole mid old new Unspelled (Err Unspelled) a s k = k a
failed read whole mid old new OutOfMemory (Err Unspelled) a s k = cc
failed read whole mid old new e (Err OutOfMemory) a s k = tt

pub onto_none : {A : Type 0} (o : Option (List A × List ℕ)) → onto [] o ≡ o
onto_none None = refl
onto_none (Some p) = refl

pub name_read : (bs a r : List ℕ) → strip (codes " \"") bs ≡ Some r → strip (codes " ") bs ≡ Some a → text.read a ≡ inside.read r
unfolding text text_at inside inside_at
name_read bs a r e g =
    let whole : bs ≡ 32 ∷ 34 ∷ r = strip_found (codes " \"") bs r e in
    let same : a ≡ 34 ∷ r = same_Some a (34 ∷ r) (sym g ∙ ap (strip (codes " ")) whole) in
    ap text.read same

-- the brace in place of a space
pub put_front : (front spelled : List ℕ) → length front < length (front ++ spelled) → set (front ++ spelled) (length front) 123 ++ 125 ∷ [] ≡ front ++ braced spelled
put_front front [] l = absurd (omega (arith, l, length-append front []))
put_front front (b ∷ bs) l = ap (λ x. x ++ 125 ∷ []) (set-append_seam front b bs 123) ∙ append_assoc front (123 ∷ bs) (125 ∷ [])

pub put_last : (front spelled : List ℕ) → length (front ++ spelled) ≤ length front → (front ++ spelled) ++ 123 ∷ 125 ∷ [] ≡ front ++ braced spelled
put_last front [] l = ap (λ f. f ++ 123 ∷ 125 ∷ []) (append-nil front)
put_last front (b ∷ bs) l = absurd (omega (arith, l, length-append front (b ∷ bs)))

pub brace_put : {E : Type 0} (items mid new front spelled : List ℕ) (start : ℕ) (r : Result (Unit {0}) E) → mid ≡ set items start 123 → new ≡ (if is_ok r then mid ++ 125 ∷ [] else mid) → start < length items → items ≡ front ++ spelled → start ≡ length front
    → OnOk r (new ≡ front ++ braced spelled)
brace_put items mid new front spelled start (Err e) m n l i s = tt
brace_put items mid new front spelled start (Ok u) m n l i s =
    let within : length front < length (front ++ spelled) = omega (arith, l, ap length i, s) in
    n ∙ ap (λ x. x ++ 125 ∷ []) m ∙ ap (λ x. set x start 123 ++ 125 ∷ []) i ∙ ap (λ k. set (front ++ spelled) k 123 ++ 125 ∷ []) s ∙ put_front front spelled within
