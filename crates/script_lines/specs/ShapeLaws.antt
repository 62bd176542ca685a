-- The laws of what stands behind the words of lines: a line for each part, and that no line has more that is barred.
use Rattle.std.proofs.Common.{◌≡◌, ℕ, ◌^◌, true, [], Option, Some, None, codes, lit≤, refl, arith}
use Rattle.drmaa_types.specs.declared.moments.Timeout.{Timeout}
use Rattle.drmaa_types.specs.declared.moments.Timeout.TheVariants.{Seconds, Infinite}
use Rattle.text_codec.specs.Formats.{IsFormat, number}
use Rattle.text_codec.specs.Fields.{AreFields, always, field, repeated, no_more}
use Rattle.text_codec.specs.Sums.{covers}
use Rattle.text_codec.specs.FormatLaws.{mapped_laws, or_else_laws}
use Rattle.text_codec.specs.FieldLaws.{no_more_laws, field_laws, always_laws, repeated_laws}
use Rattle.text_codec.specs.BaseLaws.{text_laws, number_laws_64, number_laws_32, number_laws_8, number_avoids}
use Rattle.text_codec.specs.WordLaws.{name_laws}
use Rattle.text_codec.specs.Quotes.{text}
use Rattle.text_codec.specs.Words.{name}
use Rattle.text_dates.specs.Said.{said}
use Rattle.text_dates.specs.SaidLaws.{said_laws}
use Rattle.text_codec.specs.ValueWords.{state_form, kind_form}
use Rattle.text_codec.specs.ValueWordLaws.{state_laws, kind_laws}
use Rattle.script_lines.specs.Refs.{reference}
use Rattle.script_lines.specs.RefLaws.{ref_laws}
use Rattle.script_lines.specs.Lines.{line_barred}
use Rattle.script_lines.specs.Shapes.{text_fields, name_fields, ref_fields, said_fields, create_fields, open_fields, two_fields, reserve_fields, exit_fields, kind_fields, make_timeout, timeout_part, timeout_form, wait_fields, ran_fields, run_fields, bound_form, index_fields, member_fields, bulk_fields, sought_fields, standing_fields, filter_fields, jobs_fields}

pub text_behind : AreFields text_fields
unfolding text_fields
text_behind = always_laws (codes " ") text _ refl text_laws no_more_laws

pub name_behind : AreFields name_fields
unfolding name_fields
name_behind = always_laws (codes " ") name _ refl name_laws no_more_laws

pub ref_behind : AreFields ref_fields
unfolding ref_fields
ref_behind = always_laws (codes " ") reference _ refl ref_laws no_more_laws

pub said_behind : AreFields said_fields
unfolding said_fields
said_behind = always_laws (codes " ") said _ refl said_laws no_more_laws

pub create_behind : AreFields create_fields
unfolding create_fields no_more
create_behind = always_laws (codes " ") name _ refl name_laws (field_laws (codes " ") text _ text_laws no_more_laws refl)

pub open_behind : AreFields open_fields
unfolding open_fields
open_behind = always_laws (codes " ") name _ refl name_laws (always_laws (codes " ") text _ refl text_laws no_more_laws)

pub two_behind : AreFields two_fields
unfolding two_fields
two_behind = always_laws (codes " ") reference _ refl ref_laws (always_laws (codes " ") reference _ refl ref_laws no_more_laws)

pub reserve_behind : AreFields reserve_fields
unfolding reserve_fields
reserve_behind =
    always_laws (codes " ") name _ refl name_laws (
    always_laws (codes " ") reference _ refl ref_laws (
    always_laws (codes " ") name _ refl name_laws no_more_laws))

pub exit_behind : AreFields exit_fields
unfolding exit_fields
exit_behind = always_laws (codes " ") reference _ refl ref_laws (always_laws (codes " ") (number (2 ^ 8)) _ refl number_laws_8 no_more_laws)

pub kind_behind : AreFields kind_fields
unfolding kind_fields
kind_behind = always_laws (codes " ") reference _ refl ref_laws (always_laws (codes " ") kind_form _ refl kind_laws no_more_laws)

part_of_made : (x : Option ℕ) → timeout_part (make_timeout x) ≡ x
part_of_made None = refl
part_of_made (Some seconds) = refl

made_of_part : (t : Timeout) → make_timeout (timeout_part t) ≡ t
made_of_part Infinite = refl
made_of_part (Seconds seconds) = refl

timeout_laws : IsFormat timeout_form
unfolding timeout_form
timeout_laws =
    mapped_laws make_timeout timeout_part _
    (or_else_laws (codes "infinite") (number (2 ^ 64)) refl number_laws_64 (number_avoids (2 ^ 64) 105 (lit≤ tt) (λ a b. absurd (omega (arith, b))) (codes "nfinite")))
    (λ x v. part_of_made x) (λ t v. made_of_part t)

pub wait_behind : AreFields wait_fields
unfolding wait_fields no_more
wait_behind =
    always_laws (codes " ") reference _ refl ref_laws (
    always_laws (codes " ") timeout_form _ refl timeout_laws (
    repeated_laws (codes " ") reference _ ref_laws no_more_laws refl))

pub run_behind : AreFields run_fields
unfolding run_fields ran_fields no_more
run_behind =
    always_laws (codes " ") name _ refl name_laws (
    always_laws (codes " ") reference _ refl ref_laws (
    always_laws (codes " ") name _ refl name_laws (
    field_laws (codes " reserved ") reference _ ref_laws no_more_laws refl)))

bound_laws : IsFormat bound_form
unfolding bound_form
bound_laws = or_else_laws (codes "-") (number (2 ^ 32)) refl number_laws_32 (number_avoids (2 ^ 32) 45 (lit≤ tt) (λ a b. absurd (omega (arith, a))) [])

index_laws : AreFields index_fields
unfolding index_fields no_more
index_laws =
    always_laws (codes " ") (number (2 ^ 32)) _ refl number_laws_32 (
    always_laws (codes " ") (number (2 ^ 32)) _ refl number_laws_32 (
    always_laws (codes " ") (number (2 ^ 32)) _ refl number_laws_32 (
    always_laws (codes " ") bound_form _ refl bound_laws (
    field_laws (codes " reserved ") reference _ ref_laws no_more_laws refl))))

pub bulk_behind : AreFields bulk_fields
unfolding bulk_fields member_fields
bulk_behind =
    always_laws (codes " ") name _ refl name_laws (
    always_laws (codes " ") reference _ refl ref_laws (
    always_laws (codes " ") name _ refl name_laws index_laws))

sought_laws : AreFields sought_fields
unfolding sought_fields field no_more
sought_laws =
    field_laws (codes " status=") (number (2 ^ 8)) _ number_laws_8 (
    field_laws (codes " wallclock=") (number (2 ^ 64)) _ number_laws_64 (
    field_laws (codes " submitted=") said _ said_laws (
    field_laws (codes " dispatched=") said _ said_laws (
    field_laws (codes " finished=") said _ said_laws no_more_laws refl)
    refl) refl) refl) refl

filter_laws : AreFields filter_fields
unfolding filter_fields standing_fields sought_fields field no_more
filter_laws =
    field_laws (codes " id=") reference _ ref_laws (
    field_laws (codes " name=") text _ text_laws (
    field_laws (codes " state=") state_form _ state_laws (
    field_laws (codes " slots=") (number (2 ^ 32)) _ number_laws_32 (
    field_laws (codes " queue=") text _ text_laws sought_laws refl)
    refl) refl) refl) refl

pub jobs_behind : AreFields jobs_fields
unfolding jobs_fields
jobs_behind = always_laws (codes " ") reference _ refl ref_laws filter_laws

pub text_covered : covers line_barred text_fields.barred ≡ true
unfolding text_fields always no_more
text_covered = refl

pub name_covered : covers line_barred name_fields.barred ≡ true
unfolding name_fields always no_more
name_covered = refl

pub ref_covered : covers line_barred ref_fields.barred ≡ true
unfolding ref_fields always no_more
ref_covered = refl

pub said_covered : covers line_barred said_fields.barred ≡ true
unfolding said_fields always no_more
said_covered = refl

pub create_covered : covers line_barred create_fields.barred ≡ true
unfolding create_fields always field no_more
create_covered = refl

pub open_covered : covers line_barred open_fields.barred ≡ true
unfolding open_fields always no_more
open_covered = refl

pub two_covered : covers line_barred two_fields.barred ≡ true
unfolding two_fields always no_more
two_covered = refl

pub reserve_covered : covers line_barred reserve_fields.barred ≡ true
unfolding reserve_fields always no_more
reserve_covered = refl

pub exit_covered : covers line_barred exit_fields.barred ≡ true
unfolding exit_fields always no_more
exit_covered = refl

pub kind_covered : covers line_barred kind_fields.barred ≡ true
unfolding kind_fields always no_more
kind_covered = refl

pub wait_covered : covers line_barred wait_fields.barred ≡ true
unfolding wait_fields always repeated no_more
wait_covered = refl

pub run_covered : covers line_barred run_fields.barred ≡ true
unfolding run_fields ran_fields always field no_more
run_covered = refl

pub bulk_covered : covers line_barred bulk_fields.barred ≡ true
unfolding bulk_fields member_fields index_fields always field no_more
bulk_covered = refl

pub jobs_covered : covers line_barred jobs_fields.barred ≡ true
unfolding jobs_fields filter_fields standing_fields sought_fields always field no_more
jobs_covered = refl
