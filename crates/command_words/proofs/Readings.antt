-- What is read of a name and the values behind it.
use Rattle.std.proofs.Common.{◌≡◌, ℕ, ◌<◌, ◌≤◌, ◌^◌, List, [], ◌∷◌, Option, Some, None, option_map, decimal, lit≤, sym, ap, subst, ◌∙◌, arith}
use Rattle.std.specs.Option.{SomeIff}
use Rattle.std.proofs.lemmas.Option.{none-some, same_Some}
use Rattle.clap.specs.Words.{Row}
use Rattle.text_codec.specs.Formats.{number_of, strip}
use Rattle.text_codec.specs.BaseLaws.{number_found, number_again, greatest_small}
use Rattle.text_codec.specs.StepLaws.{strip_found, strip_again}
use Rattle.drmaa_types.specs.Moments.{greatest}
use Rattle.command_words.specs.Commands.{Finds}
use Rattle.command_words.specs.CommandLaws.{decimal_same}

-- ---- numbers

-- the number that the word spells, if any
pub number_finds : (w : List ℕ) (o : Option ℕ) → o ≡ number_of (2 ^ 64) w → Finds (λ n. (n < 2 ^ 64) × (w ≡ decimal n)) o
number_finds w None e = λ n h. none-some n (e ∙ ap (number_of (2 ^ 64)) h.1 ∙ number_again (2 ^ 64) n (lit≤ tt) h.0)
number_finds w (Some n) e = number_found (2 ^ 64) w n (sym e)

-- it spells one number alone, which is out of the range
pub number_outside : (w : List ℕ) (m most : ℕ) → m < 2 ^ 64 → w ≡ decimal m → most < 2 ^ 32 → ((1 ≤ m) → (m ≤ most) → ⊥)
    → (n : ℕ) → (1 ≤ n) × (n ≤ most) × (w ≡ decimal n) → ⊥
number_outside w m most a is small outside n h =
    let fits : n < 2 ^ 64 = omega (arith, h.1, small) in
    let same : n ≡ m = decimal_same n m fits a (sym h.2 ∙ is) in
    outside (subst (λ (k : ℕ). 1 ≤ k) same h.0) (subst (λ (k : ℕ). k ≤ most) same h.1)

pub number_above : (w : List ℕ) (m most : ℕ) → m < 2 ^ 64 → w ≡ decimal m → most < 2 ^ 32 → ((m ≤ most) → ⊥)
    → (n : ℕ) → (n ≤ most) × (w ≡ decimal n) → ⊥
number_above w m most a is small outside n h =
    let fits : n < 2 ^ 64 = omega (arith, h.0, small) in
    let same : n ≡ m = decimal_same n m fits a (sym h.1 ∙ is) in
    outside (subst (λ (k : ℕ). k ≤ most) same h.0)

-- ---- moments

-- a moment that the word spells
abbrev pub Moments : List ℕ → ℕ → Type 0
Moments w m = (m ≤ greatest) × (w ≡ 64 ∷ decimal m)

behind_mark : (w : List ℕ) (n : ℕ) → w ≡ 64 ∷ decimal n → strip (64 ∷ []) w ≡ Some (decimal n)
behind_mark w n e = ap (strip (64 ∷ [])) e ∙ strip_again (64 ∷ []) (decimal n)

-- behind `@` there is no number
pub no_moment : (w rest : List ℕ) → Some rest ≡ strip (64 ∷ []) w → ((n : ℕ) → (n < 2 ^ 64) × (rest ≡ decimal n) → ⊥)
    → (m : ℕ) → Moments w m → ⊥
no_moment w rest e missing m h = missing m (omega (arith, h.0, greatest_small), same_Some rest (decimal m) (e ∙ behind_mark w m h.1))

-- there is one
pub moment_finds : (w rest : List ℕ) (n : ℕ) (o : Option ℕ) → Some rest ≡ strip (64 ∷ []) w → (n < 2 ^ 64) × (rest ≡ decimal n)
    → SomeIff o (n ≤ greatest) n → Finds (Moments w) o
moment_finds w rest n None e number is = λ m h.
    let fits : m < 2 ^ 64 = omega (arith, h.0, greatest_small) in
    let same : m ≡ n = decimal_same m n fits number.0 (sym (same_Some rest (decimal m) (e ∙ behind_mark w m h.1)) ∙ number.1) in
    is (subst (λ (k : ℕ). k ≤ greatest) same h.0)
moment_finds w rest n (Some m) e number is =
    let whole : w ≡ 64 ∷ rest = strip_found (64 ∷ []) w rest (sym e) in (
      subst (λ (k : ℕ). k ≤ greatest) (sym is.1) is.0,
      whole ∙ ap (λ (r : List ℕ). 64 ∷ r) (number.1 ∙ ap decimal (sym is.1)),
    )

-- ---- what the matches hold

-- the name and the matches of one subcommand
abbrev rows_in : Option (List ℕ × List Row) → Option (List Row)
rows_in = option_map (λ p. p.1)

abbrev both_of : {X : Type 0} → (X → List ℕ) → (X → List Row) → Option X → Option (List ℕ × List Row)
both_of f g = option_map (λ b. (f b, g b))

pub pair_by : {X : Type 0} (o : Option X) (f : X → List ℕ) (g : X → List Row) (n : List ℕ) (r : List Row) → Some n ≡ option_map f o
    → Some r ≡ rows_in (both_of f g o) → both_of f g o ≡ Some (n, r)
pair_by None f g n r a b = absurd (none-some n (sym a))
pair_by (Some x) f g n r a b =
    let first : n ≡ f x = same_Some n (f x) a in
    let second : r ≡ g x = same_Some r (g x) b in
    λ i. Some (sym first i, sym second i)
