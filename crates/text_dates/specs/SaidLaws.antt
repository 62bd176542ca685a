-- The laws of moments in two spellings.
use Rattle.std.proofs.Common.{◌≡◌, ℕ, suc, ◌+◌, ◌/◌, ◌<◌, ◌==◌, true, false, List, ◌∷◌, ◌++◌, Option, Some, None, decimal, codes, refl, ap, subst, ◌∙◌, arith}
use Rattle.std.proofs.lemmas.Bool.Decides.{nat_tests}
use Rattle.std.proofs.lemmas.Option.{same_Some}
use Rattle.drmaa_types.specs.Moments.{greatest}
use Rattle.text_codec.specs.Lexical.{parts, IsClean}
use Rattle.text_codec.specs.Formats.{IsFormat, strip, number, mapped}
use Rattle.text_codec.specs.Exact.{beside, before, two}
use Rattle.text_codec.specs.StepLaws.{bind, chosen, strip_found}
use Rattle.text_codec.specs.CleanLaws.{clean_behind}
use Rattle.text_codec.specs.BaseLaws.{number_laws, greatest_small}
use Rattle.text_dates.specs.declared.dates.DateTime.{DateTime}
use Rattle.text_dates.specs.declared.said.Said.{Said}
use Rattle.text_dates.specs.Dates.{moment_of, day, time, digits, date}
use Rattle.text_dates.specs.DateLaws.{date_laws, dated_digits, moment_is, is_moment}
use Rattle.text_dates.specs.Said.{spell_said, Agrees, said}

seconds_laws : IsFormat (number (suc greatest))
seconds_laws = number_laws (suc greatest) greatest_small

-- no date begins with @
no_sign : (d : DateTime) (rest : List ℕ) → d.year < 10_000 → ◌≡◌ {A = Option (List ℕ)} (strip (codes "@") (date.spell d ++ rest)) None
unfolding date digits day time mapped before beside two
no_sign d rest l =
    let digit : (48 + d.year / 100 / 10) == 64 ≡ false = grind (arith, nat_tests) in
    rw digit refl

year_below : (d : DateTime) → date.valid d → d.year < 10_000
unfolding date digits day time mapped before beside two
year_below d v = omega (arith, v.0.0.0)

said_found : (bs : List ℕ) (r : Said × List ℕ) → said.read bs ≡ Some r → Agrees r.0.dated r.0.moment × (bs ≡ spell_said r.0.dated r.0.moment ++ r.1)
unfolding said number
said_found bs r e =
    let P : Said × List ℕ → Type 0 = λ s. Agrees s.0.dated s.0.moment × (bs ≡ spell_said s.0.dated s.0.moment ++ s.1) in
    chosen (strip (codes "@") bs) _ _ _ e
    (λ rest a b. bind ((number (suc greatest)).read rest) _ r b (λ p c d.
    let h = seconds_laws.found rest p c in
    subst P (same_Some _ _ d) (h.0, strip_found (codes "@") bs rest a ∙ ap (λ t. 64 ∷ t) h.1)))
    (λ a b. bind (date.read bs) _ r b (λ p c d. bind (moment_of p.0) _ r d (λ m f g.
    let h = date_laws.found bs p c in
    subst P (same_Some _ _ g) (moment_is p.0 m f, h.1))))

said_again : (o : Option DateTime) (m : ℕ) (rest : List ℕ) → Agrees o m → parts rest ≡ true → said.read (spell_said o m ++ rest) ≡ Some (record { dated = o; moment = m }, rest)
unfolding said number
said_again None m rest v p = rw (seconds_laws.again m rest v p) refl
said_again (Some d) m rest v p =
    let here = is_moment d m v in
    let valid = dated_digits d m here in
    rw (no_sign d rest (year_below d valid), date_laws.again d rest valid p, here) refl

said_clean : (o : Option DateTime) (m : ℕ) → Agrees o m → IsClean (spell_said o m)
unfolding number
said_clean None m v = clean_behind (codes "@") (decimal m) refl (seconds_laws.clean m v)
said_clean (Some d) m v = date_laws.clean d (dated_digits d m (is_moment d m v))

pub said_laws : IsFormat said
unfolding said
said_laws = record {
  found = said_found;
  again = λ s rest v p. said_again s.dated s.moment rest v p;
  clean = λ s v. said_clean s.dated s.moment v;
}
