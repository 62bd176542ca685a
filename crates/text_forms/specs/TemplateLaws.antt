-- The laws of templates: a line for each field.
use Rattle.std.proofs.Common.{◌≡◌, ℕ, ◌^◌, true, List, ◌∷◌, codes, refl}
use Rattle.std.specs.List.{list_all}
use Rattle.text_codec.specs.Formats.{IsFormat, number, moment}
use Rattle.text_codec.specs.Fields.{AreFields, clear, field, flag, repeated, no_more}
use Rattle.text_codec.specs.FormatLaws.{mapped_laws, checked_laws}
use Rattle.text_codec.specs.FieldLaws.{no_more_laws, field_laws, flag_laws, repeated_laws, in_braces_laws}
use Rattle.text_codec.specs.Braces.{braces}
use Rattle.text_codec.specs.BraceLaws.{braces_laws}
use Rattle.text_codec.specs.BaseLaws.{text_laws, moment_laws, number_laws_64, number_laws_32}
use Rattle.text_codec.specs.Integers.{integer}
use Rattle.text_codec.specs.IntegerLaws.{integer_laws_32}
use Rattle.text_codec.specs.Quotes.{text}
use Rattle.text_codec.specs.Numbers.{reservation_id}
use Rattle.text_codec.specs.NumberLaws.{reservation_id_laws}
use Rattle.text_codec.specs.ValueWords.{attribute_form}
use Rattle.text_codec.specs.ValueWordLaws.{attribute_laws}
use Rattle.text_codec.specs.TemplateParts.{variable, resource_limit, start}
use Rattle.text_codec.specs.TemplatePartLaws.{variable_laws, resource_limit_laws, start_laws}
use Rattle.text_forms.specs.Templates.{is_other, other_form, late_fields, placed_fields, path_fields, early_fields, late_parts, placed_parts, path_parts, early_parts, make_template, any_template, template, count_fields, frame_fields, frame_parts, make_frame, any_frame, frame}

pub other_laws : IsFormat other_form
unfolding other_form
other_laws = checked_laws is_other attribute_form attribute_laws

pub late_laws : AreFields late_fields
unfolding late_fields field repeated no_more
late_laws =
    field_laws (codes " priority ") (integer (2 ^ 31)) _ integer_laws_32 (
    field_laws (codes " start ") moment _ moment_laws (
    field_laws (codes " deadline ") moment _ moment_laws (
    repeated_laws (codes " limit ") resource_limit _ resource_limit_laws (
    repeated_laws (codes " other ") attribute_form _ attribute_laws no_more_laws refl)
    refl) refl) refl) refl

pub placed_laws : AreFields placed_fields
unfolding placed_fields late_fields field flag repeated no_more
placed_laws =
    flag_laws (codes " join") _ (
    field_laws (codes " reservation ") reservation_id _ reservation_id_laws (
    field_laws (codes " queue ") text _ text_laws (
    field_laws (codes " minslots ") (number (2 ^ 32)) _ number_laws_32 (
    field_laws (codes " maxslots ") (number (2 ^ 32)) _ number_laws_32 late_laws refl)
    refl) refl) refl) refl

pub path_laws : AreFields path_fields
unfolding path_fields placed_fields late_fields field flag repeated no_more
path_laws =
    field_laws (codes " directory ") text _ text_laws (
    field_laws (codes " name ") text _ text_laws (
    field_laws (codes " input ") text _ text_laws (
    field_laws (codes " output ") text _ text_laws (
    field_laws (codes " error ") text _ text_laws placed_laws refl)
    refl) refl) refl) refl

pub early_laws : AreFields early_fields
unfolding early_fields path_fields placed_fields late_fields field flag repeated no_more
early_laws =
    repeated_laws (codes " arg ") text _ text_laws (
    flag_laws (codes " hold") _ (
    flag_laws (codes " rerunnable") _ (
    repeated_laws (codes " env ") variable _ variable_laws path_laws refl)
    refl) refl) refl

pub any_template_laws : IsFormat any_template
unfolding any_template early_parts path_parts placed_parts late_parts early_fields path_fields placed_fields late_fields field flag repeated no_more
any_template_laws = mapped_laws make_template _ _ (in_braces_laws (codes "command ") text early_fields refl text_laws early_laws closed) (λ x v. refl) (λ y v. refl)
  where
    closed : (rest : List ℕ) → clear early_fields.barred (125 ∷ rest) ≡ true
    closed rest = refl

pub template_laws : IsFormat template
unfolding template
template_laws = checked_laws (λ t. list_all is_other t.others) any_template any_template_laws

pub count_laws : AreFields count_fields
unfolding count_fields field repeated no_more
count_laws =
    field_laws (codes " minslots ") (number (2 ^ 32)) _ number_laws_32 (
    field_laws (codes " maxslots ") (number (2 ^ 32)) _ number_laws_32 (
    repeated_laws (codes " other ") attribute_form _ attribute_laws no_more_laws refl)
    refl) refl

pub frame_fields_laws : AreFields frame_fields
unfolding frame_fields count_fields field repeated no_more
frame_fields_laws =
    field_laws (codes " name ") text _ text_laws (
    field_laws (codes " start ") start _ start_laws (
    field_laws (codes " end ") moment _ moment_laws (
    field_laws (codes " duration ") (number (2 ^ 64)) _ number_laws_64 count_laws refl)
    refl) refl) refl

pub any_frame_laws : IsFormat any_frame
unfolding any_frame frame_fields count_fields field repeated no_more
any_frame_laws = mapped_laws make_frame frame_parts (braces frame_fields) (braces_laws frame_fields frame_fields_laws refl closed) (λ x v. refl) (λ y v. refl)
  where
    closed : (rest : List ℕ) → clear frame_fields.barred (125 ∷ rest) ≡ true
    closed rest = refl

pub frame_laws : IsFormat frame
unfolding frame
frame_laws = checked_laws (λ t. list_all is_other t.others) any_frame any_frame_laws
