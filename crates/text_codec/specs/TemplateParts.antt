-- The parts of templates that have a form of their own: our profile.
use Rattle.std.specs.Prelude.{ℕ, ◌^◌, Option, Some, None, codes}
use Rattle.drmaa_types.specs.declared.template_parts.Pair.{Pair}
use Rattle.drmaa_types.specs.declared.template_parts.ResourceLimit.{ResourceLimit}
use Rattle.drmaa_types.specs.declared.template_parts.Start.{Start}
use Rattle.drmaa_types.specs.declared.template_parts.Start.TheVariants.{At, Now}
use Rattle.text_codec.specs.Formats.{Format, number, moment, pair, mapped, or_else}
use Rattle.text_codec.specs.Quotes.{text}
use Rattle.text_codec.specs.Words.{capitals}

-- a variable and its value
unfoldable pub variable : Format Pair
variable = mapped (λ p. record { name = p.0; value = p.1 }) (λ v. (v.name, v.value)) (pair text text)

-- a limit: a word of capitals, and a number
unfoldable pub resource_limit : Format ResourceLimit
resource_limit = mapped (λ p. record { name = p.0; value = p.1 }) (λ l. (l.name, l.value)) (pair capitals (number (2 ^ 64)))

-- when a reservation is to start
abbrev pub make_start : Option ℕ → Start
make_start None = Now
make_start (Some m) = At m

abbrev pub start_part : Start → Option ℕ
start_part Now = None
start_part (At m) = Some m

unfoldable pub start : Format Start
start = mapped make_start start_part (or_else (codes "now") moment)
