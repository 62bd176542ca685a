-- What is spelled is UTF-8 without a line feed.
use Rattle.std.proofs.Common.{◌≡◌, ℕ, ◌<◌, ◌≤◌, ◌==◌, ◌&&◌, nat_lt, nat_le, ◌||◌, ◌/◌, ◌%◌, zero, suc, Bool, true, false, List, [], ◌∷◌, ◌++◌, length, get_or, lit<, refl, sym, subst, arith, append-nil, IsUtf8}
use lib.Utf8.{scalars, encodes, encode, scalar}
use Rattle.std.specs.List.{list_all, flat_map}
use Rattle.std.specs.Str.{IsAscii}
use Rattle.std.proofs.lemmas.Bool.Decides.{nat_tests}
use Rattle.std.proofs.lemmas.Grind.{flat_map-append}
use Rattle.std.proofs.lemmas.Str.{IsUtf8-append, IsUtf8-nil, IsUtf8-encode, IsUtf8-from_ascii, encode_ascii, inside_one}
use Rattle.text_codec.specs.Lexical.{hex_digit, is_control, escaped, quoted, is_letter, is_plain, no_feed, IsClean}
use Rattle.text_codec.specs.UnitLaws.{escaped-special, escaped-control, escaped-plain}
use Rattle.text_codec.specs.StepLaws.{both, by_test}

-- four bytes and fewer, each below 128
ascii_four : (a b c d : ℕ) → a < 128 → b < 128 → c < 128 → d < 128 → IsAscii (a ∷ b ∷ c ∷ d ∷ [])
ascii_four a b c d p q r s zero = p
ascii_four a b c d p q r s (suc zero) = q
ascii_four a b c d p q r s (suc (suc zero)) = r
ascii_four a b c d p q r s (suc (suc (suc zero))) = s
ascii_four a b c d p q r s (suc (suc (suc (suc i)))) = lit< tt

ascii_two : (a b : ℕ) → a < 128 → b < 128 → IsAscii (a ∷ b ∷ [])
ascii_two a b p q zero = p
ascii_two a b p q (suc zero) = q
ascii_two a b p q (suc (suc i)) = lit< tt

ascii_one : (a : ℕ) → a < 128 → IsAscii (a ∷ [])
ascii_one a p zero = p
ascii_one a p (suc i) = lit< tt

hex_digit_small : (d : ℕ) → d < 16 → hex_digit d < 128
hex_digit_small d h = grind (arith, nat_tests)

-- the spelling of an ASCII character
escaped_ascii : (x : ℕ) → x < 128 → IsUtf8 (escaped x)
escaped_ascii x h =
    by_test ((x == 34) || (x == 92)) (λ special. rw (escaped-special x special) (IsUtf8-from_ascii (92 ∷ x ∷ []) (ascii_two 92 x (lit< tt) h))) (λ other.
    by_test (is_control x) (λ control. rw (escaped-control x control)
    (IsUtf8-from_ascii (92 ∷ 120 ∷ hex_digit (x / 16) ∷ hex_digit (x % 16) ∷ [])
    (ascii_four 92 120 (hex_digit (x / 16)) (hex_digit (x % 16)) (lit< tt) (lit< tt) (hex_digit_small (x / 16) (omega arith)) (hex_digit_small (x % 16) (omega arith))))) (λ visible.
    let slash : x == 92 ≡ false = grind (arith, nat_tests) in
    let closed : (x == 34) || is_control x ≡ false = grind (arith, nat_tests) in
    rw (escaped-plain x slash closed) (IsUtf8-from_ascii (x ∷ []) (ascii_one x h))))

-- bytes above the control characters stand for themselves
escaped_high : (x : ℕ) → 128 ≤ x → escaped x ≡ x ∷ []
escaped_high x h =
    let slash : x == 92 ≡ false = grind (arith, nat_tests) in
    let closed : (x == 34) || is_control x ≡ false = grind (arith, nat_tests) in
    escaped-plain x slash closed

high_bytes : (bs : List ℕ) → ((k : ℕ) → k < length bs → 128 ≤ get_or bs k 0) → flat_map escaped bs ≡ bs
high_bytes [] h = refl
high_bytes (b ∷ bs) h =
    let first : 128 ≤ b = h 0 (omega arith) in
    let others : flat_map escaped bs ≡ bs = high_bytes bs (λ k l. h (suc k) (omega arith)) in
    rw (escaped_high b first, others) refl

by_order : {A : Type 0} (a b : ℕ) → (a < b → A) → (b ≤ a → A) → A
by_order a b f g = by_test (nat_lt a b) (λ t. f (grind (arith, nat_tests))) (λ t. g (grind (arith, nat_tests)))

-- each byte of a character that is not ASCII is high
all_high : (c k : ℕ) → 128 ≤ c → k < length (encode c) → 128 ≤ get_or (encode c) k 0
all_high c k high l =
    by_order (get_or (encode c) k 0) 128 (λ small.
    let same : c ≡ get_or (encode c) k 0 = inside_one c [] (encode c) k (sym (append-nil (encode c))) l small in
    absurd (omega arith)) (λ more. more)

-- the spelling of a character
char_is_utf8 : (c : ℕ) → scalar c ≡ true → IsUtf8 (flat_map escaped (encode c))
char_is_utf8 c s =
    by_order c 128 (λ low. rw (encode_ascii c low) (IsUtf8-append (escaped c) [] (escaped_ascii c low) IsUtf8-nil))
    (λ high. rw (high_bytes (encode c) (λ k l. all_high c k high l)) (IsUtf8-encode c s))

chars_are_utf8 : (cs : List ℕ) → scalars cs ≡ true → IsUtf8 (flat_map escaped (encodes cs))
chars_are_utf8 [] s = IsUtf8-nil
chars_are_utf8 (c ∷ cs) s =
    let parts = both (scalar c) (scalars cs) s in
    rw (flat_map-append escaped (encode c) (encodes cs)) (IsUtf8-append (flat_map escaped (encode c)) (flat_map escaped (encodes cs)) (char_is_utf8 c parts.0) (chars_are_utf8 cs parts.1))

inside_utf8 : (text : List ℕ) → IsUtf8 text → IsUtf8 (flat_map escaped text)
inside_utf8 text (cs, (s, e)) = subst (λ (t : List ℕ). IsUtf8 (flat_map escaped t)) e (chars_are_utf8 cs s)

-- no line feed
feedless_both : (a b : List ℕ) → list_all no_feed a ≡ true → list_all no_feed b ≡ true → list_all no_feed (a ++ b) ≡ true
feedless_both [] b p q = q
feedless_both (x ∷ xs) b p q = let t = both (no_feed x) (list_all no_feed xs) p in rw (t.0, feedless_both xs b t.1 q) refl

pub nil_clean : IsClean []
nil_clean = record { one_line = refl; utf8 = IsUtf8-nil }

pub clean_both : (a b : List ℕ) → IsClean a → IsClean b → IsClean (a ++ b)
clean_both a b A B = record { one_line = feedless_both a b A.one_line B.one_line; utf8 = IsUtf8-append a b A.utf8 B.utf8 }

-- bytes of ASCII that pass a test
small_clean : (test : ℕ → Bool) → ((b : ℕ) → test b ≡ true → (no_feed b ≡ true) × (b < 128)) → (bs : List ℕ) → list_all test bs ≡ true → IsClean bs
small_clean test small bs h = record { one_line = feedless test small bs h; utf8 = IsUtf8-from_ascii bs (ascii test small bs h) }
  where
    feedless : (test : ℕ → Bool) → ((b : ℕ) → test b ≡ true → (no_feed b ≡ true) × (b < 128)) → (bs : List ℕ) → list_all test bs ≡ true → list_all no_feed bs ≡ true
    feedless test small [] h = refl
    feedless test small (b ∷ bs) h = let t = both (test b) (list_all test bs) h in rw ((small b t.0).0, feedless test small bs t.1) refl

    ascii : (test : ℕ → Bool) → ((b : ℕ) → test b ≡ true → (no_feed b ≡ true) × (b < 128)) → (bs : List ℕ) → list_all test bs ≡ true → IsAscii bs
    ascii test small [] h i = lit< tt
    ascii test small (b ∷ bs) h zero = (small b (both (test b) (list_all test bs) h).0).1
    ascii test small (b ∷ bs) h (suc i) = ascii test small bs (both (test b) (list_all test bs) h).1 i

letter_small : (b : ℕ) → is_letter b ≡ true → (no_feed b ≡ true) × (b < 128)
letter_small b h = (grind (arith, nat_tests), grind (arith, nat_tests))

plain_small : (b : ℕ) → (nat_le 32 b && nat_le b 126) ≡ true → (no_feed b ≡ true) × (b < 128)
plain_small b h = (grind (arith, nat_tests), grind (arith, nat_tests))

pub letters_clean : (w : List ℕ) → list_all is_letter w ≡ true → IsClean w
letters_clean w h = small_clean is_letter letter_small w h

pub plain_clean : (bs : List ℕ) → is_plain bs ≡ true → IsClean bs
plain_clean bs h = small_clean (λ b. nat_le 32 b && nat_le b 126) plain_small bs h

-- a plain byte in front, a plain key in front, and a plain end
pub clean_behind : (key bs : List ℕ) → is_plain key ≡ true → IsClean bs → IsClean (key ++ bs)
clean_behind key bs h c = clean_both key bs (plain_clean key h) c

-- texts
not_ten : (b : ℕ) → 10 < b → no_feed b ≡ true
not_ten b h = grind (arith, nat_tests)

hex_feedless : (d : ℕ) → d < 16 → no_feed (hex_digit d) ≡ true
hex_feedless d h = grind (arith, nat_tests)

unit_feedless : (x : ℕ) → list_all no_feed (escaped x) ≡ true
unit_feedless x =
    by_test ((x == 34) || (x == 92)) (λ special. let big : 10 < x = grind (arith, nat_tests) in rw (escaped-special x special, not_ten x big) refl) (λ other.
    by_test (is_control x) (λ control.
    let small : x < 128 = grind (arith, nat_tests) in
    rw (escaped-control x control, hex_feedless (x / 16) (omega (arith, small)), hex_feedless (x % 16) (omega arith)) refl) (λ visible.
    let slash : x == 92 ≡ false = grind (arith, nat_tests) in
    let closed : (x == 34) || is_control x ≡ false = grind (arith, nat_tests) in
    let big : 10 < x = grind (arith, nat_tests) in
    rw (escaped-plain x slash closed, not_ten x big) refl))

units_feedless : (t : List ℕ) → list_all no_feed (flat_map escaped t) ≡ true
units_feedless [] = refl
units_feedless (x ∷ xs) = feedless_both (escaped x) (flat_map escaped xs) (unit_feedless x) (units_feedless xs)

-- a text in its quotes, without the first one and with it
pub inside_clean : (t : List ℕ) → IsUtf8 t → IsClean (flat_map escaped t ++ 34 ∷ [])
inside_clean t v = clean_both (flat_map escaped t) (34 ∷ []) (record { one_line = units_feedless t; utf8 = inside_utf8 t v }) (plain_clean (34 ∷ []) refl)

pub quoted_clean : (t : List ℕ) → IsUtf8 t → IsClean (quoted t)
quoted_clean t v = clean_behind (34 ∷ []) (flat_map escaped t ++ 34 ∷ []) refl (inside_clean t v)
