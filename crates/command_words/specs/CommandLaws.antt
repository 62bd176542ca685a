-- The laws of commands: words are those of one at most.
use Rattle.std.proofs.Common.{◌≡◌, ℕ, ◌<◌, ◌≤◌, ◌^◌, ◌⊎◌, List, [], ◌∷◌, length, Option, Some, None, decimal, lit≤, refl, sym, ap, ◌∙◌, inl, inr, arith}
use Rattle.std.specs.Prelude.{find}
use Rattle.std.specs.Str.{bytes_eq}
use Rattle.std.proofs.lemmas.Option.{none-some, same_Some}
use Rattle.text_codec.specs.Formats.{number_of}
use Rattle.text_codec.specs.BaseLaws.{number_again, greatest_small}
use Rattle.drmaa_types.specs.Moments.{greatest}
use Rattle.command_words.specs.declared.commands.Command.{Command}
use Rattle.command_words.specs.declared.commands.Command.TheVariants.{Serial, Threads, Table, Check, Migrate, Json, Forecast, Continue, Recur, Soak}
use Rattle.command_words.specs.declared.commands.Unit.{Unit as StepUnit}
use Rattle.command_words.specs.declared.commands.Unit.TheVariants.{Days, Weeks, Months}
use Rattle.command_words.specs.declared.commands.RecurWords.{RecurWords}
use Rattle.command_words.specs.declared.commands.SoakWords.{SoakWords}
use Rattle.command_words.specs.Commands.{AreRanged, AreSoakWords, AsksFor, recur_values, soak_values, unit_word, words_of}

-- numbers that are written alike
pub decimal_same : (m n : ℕ) → m < 2 ^ 64 → n < 2 ^ 64 → decimal m ≡ decimal n → m ≡ n
decimal_same m n a b e =
    same_Some m n (sym (number_again (2 ^ 64) m (lit≤ tt) a) ∙ ap (number_of (2 ^ 64)) e ∙ number_again (2 ^ 64) n (lit≤ tt) b)

below_bound : (n bound : ℕ) → n ≤ bound → bound < 2 ^ 64 → n < 2 ^ 64
below_bound n bound a b = omega (arith, a, b)

-- units
unit_named : List ℕ → Option StepUnit
unit_named w = find (λ unit. bytes_eq (unit_word unit) w) (Days ∷ Weeks ∷ Months ∷ [])

unit_again : (unit : StepUnit) → unit_named (unit_word unit) ≡ Some unit
unfolding unit_named
unit_again Days = refl
unit_again Weeks = refl
unit_again Months = refl

unit_same : (u v : StepUnit) → unit_word u ≡ unit_word v → u ≡ v
unit_same u v e = same_Some u v (sym (unit_again u) ∙ ap unit_named e ∙ unit_again v)

-- the words behind `recur`
record SameParts (r s : RecurWords) : Type 0 where
  session : r.session ≡ s.session
  unit : unit_word r.unit ≡ unit_word s.unit
  number : decimal r.number ≡ decimal s.number
  count : decimal r.count ≡ decimal s.count
  start : decimal r.start ≡ decimal s.start
  duration : decimal r.duration ≡ decimal s.duration
  slots : decimal r.slots ≡ decimal s.slots

same_parts : (r s : RecurWords) → recur_values r ≡ recur_values s → SameParts r s
same_parts r s e = record { session = cc; unit = cc; number = cc; count = cc; start = cc; duration = cc; slots = cc }

greatest_fits : greatest < 2 ^ 64
greatest_fits = greatest_small

recur_same : (r s : RecurWords) → AreRanged r → AreRanged s → recur_values r ≡ recur_values s → r ≡ s
recur_same r s a b e =
    let parts = same_parts r s e in
    let unit = unit_same r.unit s.unit parts.unit in
    let number = decimal_same r.number s.number (below_bound _ 1_000 a.number.1 (lit≤ tt)) (below_bound _ 1_000 b.number.1 (lit≤ tt)) parts.number in
    let count = decimal_same r.count s.count (below_bound _ 1_000 a.count.1 (lit≤ tt)) (below_bound _ 1_000 b.count.1 (lit≤ tt)) parts.count in
    let start = decimal_same r.start s.start (below_bound _ greatest a.start greatest_fits) (below_bound _ greatest b.start greatest_fits) parts.start in
    let duration = decimal_same r.duration s.duration a.duration b.duration parts.duration in
    let slots = decimal_same r.slots s.slots (below_bound _ 65_535 a.slots.1 (lit≤ tt)) (below_bound _ 65_535 b.slots.1 (lit≤ tt)) parts.slots in
    λ i. record {
      session = parts.session i;
      unit = unit i;
      number = number i;
      count = count i;
      start = start i;
      duration = duration i;
      slots = slots i;
    }

-- ---- the first word, and those behind it
abbrev first_of : List (List ℕ) → List ℕ
first_of [] = []
first_of (w ∷ ws) = w

abbrev rest_of : List (List ℕ) → List (List ℕ)
rest_of [] = []
rest_of (w ∷ ws) = ws

-- the words behind `soak`
abbrev second_of : List (List ℕ) → List ℕ
second_of [] = []
second_of (w ∷ ws) = first_of ws

soak_same : (s t : SoakWords) → AreSoakWords s → AreSoakWords t → soak_values s ≡ soak_values t → s ≡ t
soak_same s t a b e =
    let steps = decimal_same s.steps t.steps (below_bound _ 100_000 a.0 (lit≤ tt)) (below_bound _ 100_000 b.0 (lit≤ tt)) (ap first_of e) in
    let seed = decimal_same s.seed t.seed (below_bound _ 2_147_483_647 a.1 (lit≤ tt)) (below_bound _ 2_147_483_647 b.1 (lit≤ tt)) (ap second_of e) in
    λ i. record { steps = steps i; seed = seed i }

-- the command of one word
abbrev named_by : List (List ℕ) → Option Command
named_by [] = None
named_by (w ∷ []) =
    find (λ command. bytes_eq (first_of (words_of command)) w) (Serial ∷ Threads ∷ Table ∷ Check ∷ Migrate ∷ Json ∷ Forecast ∷ Continue ∷ [])
named_by (w ∷ v ∷ ws) = None

by_word : (command : Command) → (named_by (words_of command) ≡ Some command) ⊎ (named_by (words_of command) ≡ None)
by_word Serial = inl refl
by_word Threads = inl refl
by_word Table = inl refl
by_word Check = inl refl
by_word Migrate = inl refl
by_word Json = inl refl
by_word Forecast = inl refl
by_word Continue = inl refl
by_word (Recur r) = inr refl
by_word (Soak s) = inr refl

word_same : (a b : Command) → named_by (words_of a) ≡ Some a → words_of a ≡ words_of b → a ≡ b
word_same a b is e = elim (by_word b) [
  | inl same ↦ same_Some a b (sym is ∙ ap named_by e ∙ same)
  | inr other ↦ absurd (none-some a (sym other ∙ sym (ap named_by e) ∙ is))
]

-- which of the two it is, the first word says
recur_or_soak : (r : RecurWords) (s : SoakWords) → words_of (Recur r) ≡ words_of (Soak s) → ⊥
recur_or_soak r s e = let bad : 5 ≡ 4 = ap (λ ws. length (first_of ws)) e in omega (arith, bad)

pub one_command : (ws : List (List ℕ)) (a b : Command) → AsksFor ws a → AsksFor ws b → a ≡ b
one_command ws (Recur r) (Recur s) h g = ap Recur (recur_same r s h.0 g.0 (ap rest_of (sym h.1 ∙ g.1)))
one_command ws (Soak s) (Soak t) h g = ap Soak (soak_same s t h.0 g.0 (ap rest_of (sym h.1 ∙ g.1)))
one_command ws (Recur r) (Soak s) h g = absurd (recur_or_soak r s (sym h.1 ∙ g.1))
one_command ws (Soak s) (Recur r) h g = absurd (recur_or_soak r s (sym g.1 ∙ h.1))
one_command ws (Recur r) b h g = sym (word_same b (Recur r) refl (sym g.1 ∙ h.1))
one_command ws (Soak s) b h g = sym (word_same b (Soak s) refl (sym g.1 ∙ h.1))
one_command ws a b h g = word_same a b refl (sym h.1 ∙ g.1)
