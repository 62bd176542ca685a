-- Moments in the spelling that was chosen: our profile.
use Rattle.std.specs.Prelude.{ℕ, suc, ◌<◌, List, ◌∷◌, Option, Some, None, decimal, codes}
use Rattle.drmaa_types.specs.Moments.{greatest}
use Rattle.text_codec.specs.Formats.{Format, ◌>>=◌, choose, strip, number}
use Rattle.text_dates.specs.declared.dates.DateTime.{DateTime}
use Rattle.text_dates.specs.declared.said.Said.{Said}
use Rattle.text_dates.specs.Dates.{IsAt, moment_of, date}

-- a date, or the number of seconds behind @
abbrev pub spell_said : Option DateTime → ℕ → List ℕ
spell_said None m = 64 ∷ decimal m
spell_said (Some d) m = date.spell d

-- the moment is one, and the date's where there is a date
abbrev pub Agrees : Option DateTime → ℕ → Type 0
Agrees None m = m < suc greatest
Agrees (Some d) m = IsAt d m

-- the moment of a date that was read
abbrev pub dated : DateTime × List ℕ → Option (Said × List ℕ)
dated p = moment_of p.0 >>= λ m. Some (record { dated = Some p.0; moment = m }, p.1)

-- a moment in one of its two spellings
unfoldable pub said : Format Said
said = record {
  spell = λ s. spell_said s.dated s.moment;
  valid = λ s. Agrees s.dated s.moment;
  read = λ bs. choose (strip (codes "@") bs)
      (λ rest. (number (suc greatest)).read rest >>= λ p. Some (record { dated = None; moment = p.0 }, p.1))
      (date.read bs >>= dated);
}
