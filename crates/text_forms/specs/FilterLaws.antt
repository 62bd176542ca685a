-- The laws of filters: a line for each item.
use Rattle.std.proofs.Common.{◌^◌, codes, refl}
use Rattle.text_codec.specs.Formats.{number, moment}
use Rattle.text_codec.specs.Fields.{AreFields, field, no_more}
use Rattle.text_codec.specs.FieldLaws.{no_more_laws, field_laws}
use Rattle.text_codec.specs.BaseLaws.{text_laws, moment_laws, number_laws_64, number_laws_32, number_laws_8}
use Rattle.text_codec.specs.Quotes.{text}
use Rattle.text_codec.specs.Numbers.{job_id}
use Rattle.text_codec.specs.NumberLaws.{job_id_laws}
use Rattle.text_codec.specs.ValueWords.{state_form}
use Rattle.text_codec.specs.ValueWordLaws.{state_laws}
use Rattle.text_forms.specs.Filters.{sought_fields, filter_fields}

pub sought_laws : AreFields sought_fields
unfolding sought_fields field no_more
sought_laws =
    field_laws (codes " status=") (number (2 ^ 8)) _ number_laws_8 (
    field_laws (codes " wallclock=") (number (2 ^ 64)) _ number_laws_64 (
    field_laws (codes " submitted=") moment _ moment_laws (
    field_laws (codes " dispatched=") moment _ moment_laws (
    field_laws (codes " finished=") moment _ moment_laws no_more_laws refl)
    refl) refl) refl) refl

pub filter_laws : AreFields filter_fields
unfolding filter_fields sought_fields field no_more
filter_laws =
    field_laws (codes " id=") job_id _ job_id_laws (
    field_laws (codes " name=") text _ text_laws (
    field_laws (codes " state=") state_form _ state_laws (
    field_laws (codes " slots=") (number (2 ^ 32)) _ number_laws_32 (
    field_laws (codes " queue=") text _ text_laws sought_laws refl)
    refl) refl) refl) refl
