-- What lines that are printed are, and that a text and a first bad line are one.
use Rattle.std.proofs.Common.{◌≡◌, ℕ, zero, suc, ◌+◌, ◌<◌, ◌≤◌, ◌==◌, nat_lt, true, false, List, [], ◌∷◌, ◌++◌, length, take, drop, Option, Some, refl, sym, ap, subst, ◌∙◌, arith, lit<, IsUtf8}
use Rattle.std.specs.List.{list_all, AllByRecursion}
use Rattle.std.proofs.lemmas.Bool.Decides.{nat_tests}
use Rattle.std.proofs.lemmas.Str.{IsUtf8-append, IsUtf8-nil, IsUtf8-encode, encode_ascii}
use Rattle.text_codec.specs.Lexical.{no_feed, IsClean}
use Rattle.text_codec.specs.StepLaws.{both, by_test}
use Rattle.text_lines.specs.Lines.{whole_lines, onto_first, ended, first_lines, AreLines, IsTextOf, Begins, IsFirstBad}
use Rattle.text_lines.specs.Automata.{Lined, GoesBy, Runs, Reads}

not_feed : (b : ℕ) → no_feed b ≡ true → (b == 10) ≡ false
not_feed b h = grind (arith, nat_tests)

-- the first of some lines is split off
line_split : (line rest : List ℕ) → list_all no_feed line ≡ true → whole_lines ((line ++ 10 ∷ []) ++ rest) ≡ line ∷ whole_lines rest
line_split [] rest h = refl
line_split (b ∷ bs) rest h =
    let t = both (no_feed b) (list_all no_feed bs) h in
    rw (not_feed b t.0, line_split bs rest t.1) refl

pub lines_again : (lines : List (List ℕ)) → AreLines lines → whole_lines (ended lines) ≡ lines
lines_again [] h = refl
lines_again (l ∷ ls) h = line_split l (ended ls) h.0 ∙ ap (λ r. l ∷ r) (lines_again ls h.1)

-- lines that are printed are UTF-8
feed_utf8 : IsUtf8 (10 ∷ [])
feed_utf8 = subst IsUtf8 (encode_ascii 10 (lit< tt)) (IsUtf8-encode 10 refl)

pub ended_utf8 : (lines : List (List ℕ)) → AllByRecursion IsClean lines → IsUtf8 (ended lines)
ended_utf8 [] h = IsUtf8-nil
ended_utf8 (l ∷ ls) h = IsUtf8-append (l ++ 10 ∷ []) (ended ls) (IsUtf8-append l (10 ∷ []) h.0.utf8 feed_utf8) (ended_utf8 ls h.1)

-- lines that are printed are a text
pub ended_text : {Q : Type 0} (Spells : List (List ℕ) → Q → Type 0) (lines : List (List ℕ)) (q : Q) (limit : ℕ) → AreLines lines → Spells lines q → length (ended lines) ≤ limit → IsTextOf Spells limit (ended lines) q
ended_text Spells lines q limit h s l =
    let again = lines_again lines h in
    record { within = l; whole = ap ended (sym again); spelled = subst (λ ls. Spells ls q) (sym again) s }

-- a run leads to one state
one_run : {S Q : Type 0} (L : Lined S Q) (s t u : S) (ls : List (List ℕ)) → Runs (GoesBy L) s ls t → Runs (GoesBy L) s ls u → t ≡ u
one_run L s t u [] r q = sym r ∙ q
one_run L s t u (l ∷ ls) r q = one_run L r.0 t u ls r.2 (subst (λ m. Runs (GoesBy L) m ls u) (same (sym q.1 ∙ r.1)) q.2)
  where
    same : {A : Type 0} {x y : A} → ◌≡◌ {A = Option A} (Some x) (Some y) → x ≡ y
    same h = cc

-- no lines spell two texts
pub one_text : {S Q : Type 0} (L : Lined S Q) → Reads (GoesBy L) L.start L.ends L.Spells → (ls : List (List ℕ)) (p q : Q) → L.Spells ls p → L.Spells ls q → p ≡ q
one_text L reads ls p q a b =
    let r = reads.complete ls p a in
    let k = reads.complete ls q b in
    same (sym r.2 ∙ ap L.ends (one_run L L.start r.0 k.0 ls r.1 k.1) ∙ k.2)
  where
    same : {A : Type 0} {x y : A} → ◌≡◌ {A = Option A} (Some x) (Some y) → x ≡ y
    same h = cc

-- the whole lines of any bytes have no line feed
feedless : (b : ℕ) → b == 10 ≡ false → no_feed b ≡ true
feedless b f = rw f refl

onto_lines : (b : ℕ) (ls : List (List ℕ)) → no_feed b ≡ true → AreLines ls → AreLines (onto_first b ls)
onto_lines b [] h a = tt
onto_lines b (l ∷ ls) h a = (rw (h, a.0) refl, a.1)

pub whole_are_lines : (bs : List ℕ) → AreLines (whole_lines bs)
whole_are_lines [] = tt
whole_are_lines (b ∷ bs) = by_test (b == 10)
    (λ t. rw t (refl, whole_are_lines bs))
    (λ f. rw f (onto_lines b (whole_lines bs) (feedless b f) (whole_are_lines bs)))

first_few : (n : ℕ) (ls : List (List ℕ)) → AreLines ls → AreLines (take n ls)
first_few zero ls a = tt
first_few (suc n) [] a = tt
first_few (suc n) (l ∷ ls) a = (a.0, first_few n ls a.1)

others : (n : ℕ) (ls : List (List ℕ)) → AreLines ls → AreLines (drop n ls)
others zero ls a = a
others (suc n) [] a = tt
others (suc n) (l ∷ ls) a = others n ls a.1

pub both_lines : (ls ms : List (List ℕ)) → AreLines ls → AreLines ms → AreLines (ls ++ ms)
both_lines [] ms a b = b
both_lines (l ∷ ls) ms a b = (a.0, both_lines ls ms a.1 b)

-- a text that begins with lines begins with the first of them
begins_shorter : {Q : Type 0} (Spells : List (List ℕ) → Q → Type 0) (ls : List (List ℕ)) (n m : ℕ) → AreLines ls → n ≤ m → Begins Spells (take m ls) → Begins Spells (take n ls)
begins_shorter Spells ls n m a l b = record {
  more = drop n (take m ls) ++ b.more;
  are_lines = both_lines (drop n (take m ls)) b.more (others n (take m ls) (first_few m ls a)) b.are_lines;
  text = b.text;
  spelled = subst (λ ks. Spells ks b.text) (split ls n m l b.more) b.spelled;
}
  where
    split : (ls : List (List ℕ)) (n m : ℕ) → n ≤ m → (more : List (List ℕ)) → take m ls ++ more ≡ take n ls ++ (drop n (take m ls) ++ more)
    split ls zero m l more = refl
    split ls (suc n) zero l more = absurd (omega (arith, l))
    split [] (suc n) (suc m) l more = refl
    split (k ∷ ks) (suc n) (suc m) l more = ap (λ r. k ∷ r) (split ks n m (omega (arith, l)) more)

no_later : {Q : Type 0} (Spells : List (List ℕ) → Q → Type 0) (limit : ℕ) (bytes : List ℕ) (n m : ℕ) (a : IsFirstBad Spells limit bytes n) (b : IsFirstBad Spells limit bytes m) → a.before < b.before → ⊥
no_later Spells limit bytes n m a b l =
    a.bad (omega (arith, l, b.within)) (begins_shorter Spells (first_lines limit bytes) (a.before + 1) b.before (whole_are_lines (take limit bytes)) (omega (arith, l)) b.good)

pub one_bad : {Q : Type 0} (Spells : List (List ℕ) → Q → Type 0) (limit : ℕ) (bytes : List ℕ) (n m : ℕ) → IsFirstBad Spells limit bytes n → IsFirstBad Spells limit bytes m → n ≡ m
one_bad Spells limit bytes n m a b =
    by_test (nat_lt a.before b.before) (λ t. absurd (no_later Spells limit bytes n m a b (grind (arith, nat_tests)))) (λ f.
    by_test (nat_lt b.before a.before) (λ t. absurd (no_later Spells limit bytes m n b a (grind (arith, nat_tests)))) (λ g.
    let same : a.before ≡ b.before = grind (arith, nat_tests) in
    a.number ∙ ap (λ k. k + 1) same ∙ sym b.number))
