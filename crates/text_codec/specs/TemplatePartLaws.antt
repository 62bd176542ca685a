-- The laws of the parts of templates.
use Rattle.std.proofs.Common.{◌≡◌, ℕ, ◌^◌, Option, Some, None, codes, refl}
use Rattle.drmaa_types.specs.declared.template_parts.Start.{Start}
use Rattle.drmaa_types.specs.declared.template_parts.Start.TheVariants.{At, Now}
use Rattle.text_codec.specs.Formats.{IsFormat, number, moment, pair}
use Rattle.text_codec.specs.FormatLaws.{pair_laws, mapped_laws, or_else_laws}
use Rattle.text_codec.specs.BaseLaws.{text_laws, moment_laws, moment_avoids, number_laws_64}
use Rattle.text_codec.specs.Quotes.{text}
use Rattle.text_codec.specs.Words.{capitals}
use Rattle.text_codec.specs.WordLaws.{capitals_laws}
use Rattle.text_codec.specs.TemplateParts.{variable, resource_limit, make_start, start_part, start}

pub variable_laws : IsFormat variable
unfolding variable
variable_laws = mapped_laws _ _ (pair text text) (pair_laws text text text_laws text_laws) (λ x v. refl) (λ y v. refl)

pub resource_limit_laws : IsFormat resource_limit
unfolding resource_limit
resource_limit_laws = mapped_laws _ _ (pair capitals (number (2 ^ 64))) (pair_laws capitals _ capitals_laws number_laws_64) (λ x v. refl) (λ y v. refl)

pub start_laws : IsFormat start
unfolding start
start_laws = mapped_laws make_start start_part _ (or_else_laws (codes "now") moment refl moment_laws (moment_avoids 110 (codes "ow") refl)) (λ x v. here x) (λ y v. there y)
  where
    here : (x : Option ℕ) → start_part (make_start x) ≡ x
    here None = refl
    here (Some m) = refl

    there : (y : Start) → make_start (start_part y) ≡ y
    there Now = refl
    there (At m) = refl
