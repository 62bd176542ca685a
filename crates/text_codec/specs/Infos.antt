-- Infos in braces: our profile.
use Rattle.std.specs.Prelude.{ℕ, ◌^◌, List, [], ◌∷◌, ◌++◌, Option, codes}
use Rattle.drmaa_types.specs.declared.identifiers.ArrayId.{ArrayId}
use Rattle.drmaa_types.specs.declared.identifiers.JobId.{JobId}
use Rattle.drmaa_types.specs.declared.identifiers.ReservationId.{ReservationId}
use Rattle.drmaa_types.specs.declared.states.JobState.{JobState}
use Rattle.drmaa_types.specs.declared.states.Exit.{Exit}
use Rattle.drmaa_types.specs.declared.states.Note.{Note}
use Rattle.drmaa_types.specs.declared.infos.JobInfo.{JobInfo}
use Rattle.drmaa_types.specs.declared.infos.ReservationInfo.{ReservationInfo}
use Rattle.text_codec.specs.Formats.{Format, number, moment, mapped}
use Rattle.text_codec.specs.Fields.{Fields, field, always, no_more, in_braces}
use Rattle.text_codec.specs.Quotes.{text}
use Rattle.text_codec.specs.Numbers.{job_id, array_id, reservation_id, exit}
use Rattle.text_codec.specs.ValueWords.{state_form, note_form, make_note, note_part}

-- the fields of a job's info, in groups, the last one first
abbrev pub Ends : Type 0
Ends = Option ℕ × (Option ℕ × (Option Exit × (Option Note × Unit {0})))

unfoldable pub end_fields : Fields Ends
end_fields =
    field (codes " dispatched ") moment (
    field (codes " finished ") moment (
    field (codes " exit ") exit (
    field (codes " note ") note_form no_more)))

abbrev pub Times : Type 0
Times = Option ℕ × (ℕ × Ends)

unfoldable pub time_fields : Fields Times
time_fields =
    field (codes " wallclock ") (number (2 ^ 64)) (
    always (codes " submitted ") moment end_fields)

abbrev pub Stands : Type 0
Stands = JobState × (Option ℕ × (List ℕ × Times))

unfoldable pub stand_fields : Fields Stands
stand_fields =
    always (codes " state ") state_form (
    field (codes " slots ") (number (2 ^ 32)) (
    always (codes " queue ") text time_fields))

abbrev pub Names : Type 0
Names = Option (List ℕ) × (Option (List ℕ) × (Option ArrayId × (Option ℕ × Stands)))

unfoldable pub name_fields : Fields Names
name_fields =
    field (codes " session ") text (
    field (codes " name ") text (
    field (codes " array ") array_id (
    field (codes " index ") (number (2 ^ 32)) stand_fields)))

unfoldable pub end_parts : JobInfo → Ends
end_parts i = (i.dispatched, (i.finished, (i.exit, (note_part i.note, tt))))

unfoldable pub time_parts : JobInfo → Times
time_parts i = (i.wallclock, (i.submitted, end_parts i))

unfoldable pub stand_parts : JobInfo → Stands
stand_parts i = (i.state, (i.slots, (i.queue, time_parts i)))

unfoldable pub name_parts : JobInfo → Names
name_parts i = (i.session, (i.name, (i.array, (i.index, stand_parts i))))

abbrev pub make_info : JobId × Names → JobInfo
make_info p =
    let stands = p.1.1.1.1.1 in
    let ends = stands.1.1.1.1.1 in
    record {
      job = p.0;
      session = p.1.0;
      name = p.1.1.0;
      array = p.1.1.1.0;
      index = p.1.1.1.1.0;
      state = stands.0;
      slots = stands.1.0;
      queue = stands.1.1.0;
      wallclock = stands.1.1.1.0;
      submitted = stands.1.1.1.1.0;
      dispatched = ends.0;
      finished = ends.1.0;
      exit = ends.1.1.0;
      note = make_note ends.1.1.1.0;
    }

abbrev pub info_parts : JobInfo → JobId × Names
info_parts i = (i.job, name_parts i)

unfoldable pub job_info : Format JobInfo
job_info = mapped make_info info_parts (in_braces (codes "job ") job_id name_fields)

-- a reservation's info
abbrev pub Booked : Type 0
Booked = Option (List ℕ) × (Option (List ℕ) × (ℕ × (ℕ × (ℕ × Unit {0}))))

unfoldable pub booked_fields : Fields Booked
booked_fields =
    field (codes " session ") text (
    field (codes " name ") text (
    always (codes " slots ") (number (2 ^ 32)) (
    always (codes " from ") moment (
    always (codes " until ") moment no_more))))

unfoldable pub booked_part : ReservationInfo → Booked
booked_part i = (i.session, (i.name, (i.slots, (i.from, (i.until, tt)))))

abbrev pub booked_parts : ReservationInfo → ReservationId × Booked
booked_parts i = (i.reservation, booked_part i)

abbrev pub make_booked : ReservationId × Booked → ReservationInfo
make_booked p = record { reservation = p.0; session = p.1.0; name = p.1.1.0; slots = p.1.1.1.0; from = p.1.1.1.1.0; until = p.1.1.1.1.1.0 }

abbrev pub braced_booked : List ℕ → ReservationInfo → List ℕ
braced_booked key i = 123 ∷ (key ++ reservation_id.spell i.reservation ++ booked_fields.body.spell (booked_part i) ++ 125 ∷ [])

unfoldable pub reservation_info : Format ReservationInfo
reservation_info = mapped make_booked booked_parts (in_braces (codes "reservation ") reservation_id booked_fields)
