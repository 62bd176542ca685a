-- The laws of infos: a line for each field.
use Rattle.std.proofs.Common.{◌≡◌, ◌^◌, Option, codes, refl, ap}
use Rattle.drmaa_types.specs.declared.identifiers.JobId.{JobId}
use Rattle.drmaa_types.specs.declared.states.Note.{Note}
use Rattle.text_codec.specs.Formats.{IsFormat, number, moment}
use Rattle.text_codec.specs.Fields.{AreFields, field, always, no_more, in_braces}
use Rattle.text_codec.specs.FormatLaws.{mapped_laws}
use Rattle.text_codec.specs.FieldLaws.{no_more_laws, field_laws, always_laws, in_braces_laws}
use Rattle.text_codec.specs.BaseLaws.{text_laws, moment_laws, number_laws_64, number_laws_32}
use Rattle.text_codec.specs.Quotes.{text}
use Rattle.text_codec.specs.Numbers.{job_id, array_id, reservation_id, exit}
use Rattle.text_codec.specs.NumberLaws.{job_id_laws, array_id_laws, reservation_id_laws, exit_laws}
use Rattle.text_codec.specs.ValueWords.{state_form, note_form}
use Rattle.text_codec.specs.ValueWordLaws.{state_laws, note_laws, note_of, note_there}
use Rattle.text_codec.specs.Infos.{Names, end_fields, time_fields, stand_fields, name_fields, end_parts, time_parts, stand_parts, name_parts, make_info, info_parts, job_info, booked_part, booked_fields, make_booked, booked_parts, reservation_info}

pub end_laws : AreFields end_fields
unfolding end_fields field no_more
end_laws =
    field_laws (codes " dispatched ") moment _ moment_laws (
    field_laws (codes " finished ") moment _ moment_laws (
    field_laws (codes " exit ") exit _ exit_laws (
    field_laws (codes " note ") note_form _ note_laws no_more_laws refl)
    refl) refl) refl

pub time_laws : AreFields time_fields
unfolding time_fields end_fields field always no_more
time_laws =
    field_laws (codes " wallclock ") (number (2 ^ 64)) _ number_laws_64 (
    always_laws (codes " submitted ") moment _ refl moment_laws end_laws)
    refl

pub stand_laws : AreFields stand_fields
unfolding stand_fields time_fields end_fields field always no_more
stand_laws =
    always_laws (codes " state ") state_form _ refl state_laws (
    field_laws (codes " slots ") (number (2 ^ 32)) _ number_laws_32 (
    always_laws (codes " queue ") text _ refl text_laws time_laws)
    refl)

pub name_laws : AreFields name_fields
unfolding name_fields stand_fields time_fields end_fields field always no_more
name_laws =
    field_laws (codes " session ") text _ text_laws (
    field_laws (codes " name ") text _ text_laws (
    field_laws (codes " array ") array_id _ array_id_laws (
    field_laws (codes " index ") (number (2 ^ 32)) _ number_laws_32 stand_laws refl)
    refl) refl) refl

pub job_info_laws : IsFormat job_info
unfolding job_info name_parts stand_parts time_parts end_parts in_braces name_fields stand_fields time_fields end_fields field always no_more
job_info_laws = mapped_laws make_info info_parts _ (in_braces_laws (codes "job ") job_id name_fields refl job_id_laws name_laws (λ rest. refl)) here (λ y v. ap (λ n. record y { note = n }) (note_there y.note))
  where
    here : (x : JobId × Names) → job_id.valid x.0 × name_fields.body.valid x.1 → info_parts (make_info x) ≡ x
    here x v = ap (λ (n : Option Note). (x.0, (x.1.0, (x.1.1.0, (x.1.1.1.0, (x.1.1.1.1.0, (x.1.1.1.1.1.0, (x.1.1.1.1.1.1.0, (x.1.1.1.1.1.1.1.0, (x.1.1.1.1.1.1.1.1.0, (x.1.1.1.1.1.1.1.1.1.0, (x.1.1.1.1.1.1.1.1.1.1.0, (x.1.1.1.1.1.1.1.1.1.1.1.0, (x.1.1.1.1.1.1.1.1.1.1.1.1.0, (n, tt))))))))))))))) (note_of x.1.1.1.1.1.1.1.1.1.1.1.1.1.0 v.1.1.1.1.1.1.1.1.1.1.1.1.1.0)

pub booked_laws : AreFields booked_fields
unfolding booked_fields field always no_more
booked_laws =
    field_laws (codes " session ") text _ text_laws (
    field_laws (codes " name ") text _ text_laws (
    always_laws (codes " slots ") (number (2 ^ 32)) _ refl number_laws_32 (
    always_laws (codes " from ") moment _ refl moment_laws (
    always_laws (codes " until ") moment _ refl moment_laws no_more_laws)))
    refl) refl

pub reservation_info_laws : IsFormat reservation_info
unfolding reservation_info booked_part in_braces booked_fields field always no_more
reservation_info_laws = mapped_laws make_booked booked_parts _ (in_braces_laws (codes "reservation ") reservation_id booked_fields refl reservation_id_laws booked_laws (λ rest. refl)) (λ x v. refl) (λ y v. refl)
