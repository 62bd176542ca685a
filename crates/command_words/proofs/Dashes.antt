-- No word of a command begins with `-`.
use Rattle.std.proofs.Common.{◌≡◌, ℕ, ◌+◌, ◌==◌, ◌<◌, ◌^◌, false, List, [], ◌∷◌, ◌++◌, decimal, refl, subst, sym, arith}
use Rattle.std.proofs.lemmas.Bool.Decides.{nat_tests}
use Rattle.std.proofs.lemmas.Fmt.{decimal_by_steps}
use Rattle.command_words.specs.declared.commands.Command.{Command}
use Rattle.command_words.specs.declared.commands.Command.TheVariants.{Serial, Threads, Table, Check, Migrate, Json, Forecast, Continue, Recur, Soak}
use Rattle.command_words.specs.declared.commands.Unit.{Unit as StepUnit}
use Rattle.command_words.specs.declared.commands.Unit.TheVariants.{Days, Weeks, Months}
use Rattle.command_words.specs.declared.commands.RecurWords.{RecurWords}
use Rattle.command_words.specs.declared.commands.SoakWords.{SoakWords}
use Rattle.command_words.specs.Commands.{AreRanged, AreSoakWords, AsksFor, IsPlain, IsRanged, begins_dash, recur_values, soak_values, unit_word, words_of}

-- there is a first byte, and it is not `-`
abbrev Undashed : List ℕ → Type 0
Undashed [] = ⊥
Undashed (b ∷ bs) = (b == 45) ≡ false

undashed_more : (xs ys : List ℕ) → Undashed xs → Undashed (xs ++ ys)
undashed_more [] ys h = absurd h
undashed_more (x ∷ xs) ys h = h

undashed_is : (w : List ℕ) → Undashed w → begins_dash w ≡ false
undashed_is [] h = refl
undashed_is (b ∷ bs) h = h

digit_undashed : (d : ℕ) → (48 + d == 45) ≡ false
digit_undashed d = grind (arith, nat_tests)

number_undashed : (n : ℕ) → n < 2 ^ 64 → begins_dash (decimal n) ≡ false
number_undashed n h =
    undashed_is (decimal n)
    (decimal_by_steps (λ (m : ℕ) (ds : List ℕ). Undashed ds) (λ d l. digit_undashed d) (λ d ds l r. undashed_more ds _ r) n h)

unit_undashed : (unit : StepUnit) → begins_dash (unit_word unit) ≡ false
unit_undashed Days = refl
unit_undashed Weeks = refl
unit_undashed Months = refl

recur_plain : (r : RecurWords) → AreRanged r → IsPlain (recur_values r)
recur_plain r a =
    rw (
      a.session,
      unit_undashed r.unit,
      number_undashed r.number (omega (arith, a.number.1)),
      number_undashed r.count (omega (arith, a.count.1)),
      number_undashed r.duration a.duration,
      number_undashed r.slots (omega (arith, a.slots.1)),
    ) refl

soak_plain : (s : SoakWords) → AreSoakWords s → IsPlain (soak_values s)
soak_plain s a = rw (number_undashed s.steps (omega (arith, a.0)), number_undashed s.seed (omega (arith, a.1))) refl

words_plain : (command : Command) → IsRanged command → IsPlain (words_of command)
words_plain Serial a = refl
words_plain Threads a = refl
words_plain Table a = refl
words_plain Check a = refl
words_plain Migrate a = refl
words_plain Json a = refl
words_plain Forecast a = refl
words_plain Continue a = refl
words_plain (Recur r) a = recur_plain r a
words_plain (Soak s) a = soak_plain s a

pub asked_plain : (ws : List (List ℕ)) (command : Command) → AsksFor ws command → IsPlain ws
asked_plain ws command h = subst IsPlain (sym h.1) (words_plain command h.0)
