-- The laws of the lines of template blocks: two for each.
use Rattle.std.proofs.Common.{◌≡◌, ℕ, ◌^◌, ◌+◌, ◌/◌, ◌<◌, ◌==◌, true, false, List, [], ◌++◌, Option, Some, None, codes, refl, arith}
use Rattle.text_codec.specs.Formats.{IsFormat, Avoids, number, strip, mapped}
use Rattle.text_codec.specs.Exact.{beside, before, two}
use Rattle.text_codec.specs.Fields.{AreFields, IsFormatUpTo, always, no_more}
use Rattle.text_codec.specs.FormatLaws.{mapped_laws, or_else_laws}
use Rattle.text_codec.specs.FieldLaws.{no_more_laws, always_laws}
use Rattle.text_codec.specs.BaseLaws.{number_laws_64, number_laws_32}
use Rattle.text_codec.specs.Integers.{integer}
use Rattle.text_codec.specs.IntegerLaws.{integer_laws_32}
use Rattle.text_codec.specs.Sums.{read_sum, sum_of, covers, IsArm, Stands}
use Rattle.text_codec.specs.SumLaws.{alone_found, fielded_found, alone_stands, fielded_stands, sum_laws}
use Rattle.text_dates.specs.declared.dates.DateTime.{DateTime}
use Rattle.text_dates.specs.declared.said.Said.{Said}
use Rattle.text_dates.specs.Dates.{date, digits, day, time}
use Rattle.text_dates.specs.DateLaws.{dated_digits, is_moment}
use Rattle.text_dates.specs.Said.{spell_said, Agrees, said}
use Rattle.std.proofs.lemmas.Bool.Decides.{nat_tests}
use Rattle.text_dates.specs.SaidLaws.{said_laws}
use Rattle.text_codec.specs.TemplateParts.{variable, resource_limit}
use Rattle.text_forms.specs.Templates.{other_form}
use Rattle.text_codec.specs.TemplatePartLaws.{variable_laws, resource_limit_laws}
use Rattle.text_forms.specs.TemplateLaws.{other_laws}
use Rattle.script_lines.specs.declared.fields.Beginning.{Beginning}
use Rattle.script_lines.specs.declared.fields.Beginning.TheVariants.{Now, At}
use Rattle.script_lines.specs.declared.fields.JobField.{JobField}
use Rattle.script_lines.specs.declared.fields.JobField.TheVariants as job
use Rattle.script_lines.specs.declared.fields.JobFieldWord.{JobFieldWord}
use Rattle.script_lines.specs.declared.fields.JobFieldWord.TheVariants as of
use Rattle.script_lines.specs.declared.fields.ReservationField.{ReservationField}
use Rattle.script_lines.specs.declared.fields.ReservationField.TheVariants as reservation
use Rattle.script_lines.specs.declared.fields.ReservationFieldWord.{ReservationFieldWord}
use Rattle.script_lines.specs.declared.fields.ReservationFieldWord.TheVariants as by
use Rattle.script_lines.specs.declared.fields.TheConstants.{JOB_FIELD_WORDS, RESERVATION_FIELD_WORDS}
use Rattle.script_lines.specs.Shapes.{text_fields, said_fields}
use Rattle.script_lines.specs.ShapeLaws.{text_behind, said_behind}
use Rattle.script_lines.specs.WholeLaws.{sum_found, sum_again}
use Rattle.script_lines.specs.TemplateFields.{variable_fields, count_fields, duration_fields, integer_fields, limit_fields, other_fields, make_beginning, beginning_part, beginning, beginning_fields, job_word, job_form, job_arms, job_field_sum, read_job_field, reservation_word, reservation_form, reservation_arms, reservation_field_sum, read_reservation_field}

variable_behind : AreFields variable_fields
unfolding variable_fields
variable_behind = always_laws (codes " ") variable _ refl variable_laws no_more_laws

count_behind : AreFields count_fields
unfolding count_fields
count_behind = always_laws (codes " ") (number (2 ^ 32)) _ refl number_laws_32 no_more_laws

duration_behind : AreFields duration_fields
unfolding duration_fields
duration_behind = always_laws (codes " ") (number (2 ^ 64)) _ refl number_laws_64 no_more_laws

integer_behind : AreFields integer_fields
unfolding integer_fields
integer_behind = always_laws (codes " ") (integer (2 ^ 31)) _ refl integer_laws_32 no_more_laws

limit_behind : AreFields limit_fields
unfolding limit_fields
limit_behind = always_laws (codes " ") resource_limit _ refl resource_limit_laws no_more_laws

other_behind : AreFields other_fields
unfolding other_fields
other_behind = always_laws (codes " ") other_form _ refl other_laws no_more_laws

year_below : (d : DateTime) → date.valid d → d.year < 10_000
unfolding date digits day time mapped before beside two
year_below d v = omega (arith, v.0.0.0)

-- no moment begins with now
no_now : (o : Option DateTime) (m : ℕ) (rest : List ℕ) → Agrees o m → ◌≡◌ {A = Option (List ℕ)} (strip (codes "now") (spell_said o m ++ rest)) None
unfolding date digits day time mapped before beside two
no_now None m rest v = refl
no_now (Some d) m rest v =
    let l = year_below d (dated_digits d m (is_moment d m v)) in
    let digit : (48 + d.year / 100 / 10) == 110 ≡ false = grind (arith, nat_tests) in
    rw digit refl

said_avoids : Avoids (codes "now") said
unfolding said
said_avoids s rest v = no_now s.dated s.moment rest v

beginning_laws : IsFormat beginning
unfolding beginning
beginning_laws = mapped_laws make_beginning beginning_part _ (or_else_laws (codes "now") said refl said_laws said_avoids) (λ x v. here x) (λ y v. there y)
  where
    here : (x : Option Said) → beginning_part (make_beginning x) ≡ x
    here None = refl
    here (Some m) = refl

    there : (y : Beginning) → make_beginning (beginning_part y) ≡ y
    there Now = refl
    there (At m) = refl

beginning_behind : AreFields beginning_fields
unfolding beginning_fields
beginning_behind = always_laws (codes " ") beginning _ refl beginning_laws no_more_laws

text_bare : covers [] text_fields.barred ≡ true
unfolding text_fields always no_more
text_bare = refl

said_bare : covers [] said_fields.barred ≡ true
unfolding said_fields always no_more
said_bare = refl

variable_bare : covers [] variable_fields.barred ≡ true
unfolding variable_fields always no_more
variable_bare = refl

count_bare : covers [] count_fields.barred ≡ true
unfolding count_fields always no_more
count_bare = refl

duration_bare : covers [] duration_fields.barred ≡ true
unfolding duration_fields always no_more
duration_bare = refl

integer_bare : covers [] integer_fields.barred ≡ true
unfolding integer_fields always no_more
integer_bare = refl

limit_bare : covers [] limit_fields.barred ≡ true
unfolding limit_fields always no_more
limit_bare = refl

other_bare : covers [] other_fields.barred ≡ true
unfolding other_fields always no_more
other_bare = refl

beginning_bare : covers [] beginning_fields.barred ≡ true
unfolding beginning_fields always no_more
beginning_bare = refl

job_found : (k : JobFieldWord) → IsArm job_form (job_word k) (job_arms k)
job_found of.Command = fielded_found job_form (job_word of.Command) text_fields _ text_behind (λ x. refl)
job_found of.Arg = fielded_found job_form (job_word of.Arg) text_fields _ text_behind (λ x. refl)
job_found of.Hold = alone_found job_form (job_word of.Hold) job.Hold refl
job_found of.Rerunnable = alone_found job_form (job_word of.Rerunnable) job.Rerunnable refl
job_found of.Env = fielded_found job_form (job_word of.Env) variable_fields _ variable_behind (λ x. refl)
job_found of.Directory = fielded_found job_form (job_word of.Directory) text_fields _ text_behind (λ x. refl)
job_found of.Name = fielded_found job_form (job_word of.Name) text_fields _ text_behind (λ x. refl)
job_found of.Input = fielded_found job_form (job_word of.Input) text_fields _ text_behind (λ x. refl)
job_found of.Output = fielded_found job_form (job_word of.Output) text_fields _ text_behind (λ x. refl)
job_found of.Error = fielded_found job_form (job_word of.Error) text_fields _ text_behind (λ x. refl)
job_found of.Join = alone_found job_form (job_word of.Join) job.Join refl
job_found of.Queue = fielded_found job_form (job_word of.Queue) text_fields _ text_behind (λ x. refl)
job_found of.MinSlots = fielded_found job_form (job_word of.MinSlots) count_fields _ count_behind (λ x. refl)
job_found of.MaxSlots = fielded_found job_form (job_word of.MaxSlots) count_fields _ count_behind (λ x. refl)
job_found of.Priority = fielded_found job_form (job_word of.Priority) integer_fields _ integer_behind (λ x. refl)
job_found of.Start = fielded_found job_form (job_word of.Start) said_fields _ said_behind (λ x. refl)
job_found of.Deadline = fielded_found job_form (job_word of.Deadline) said_fields _ said_behind (λ x. refl)
job_found of.Limit = fielded_found job_form (job_word of.Limit) limit_fields _ limit_behind (λ x. refl)
job_found of.Other = fielded_found job_form (job_word of.Other) other_fields _ other_behind (λ x. refl)

job_stands : (f : JobField) → Stands (read_sum job_word JOB_FIELD_WORDS job_arms) [] f (job_form f)
job_stands (job.Command x) = fielded_stands job_word JOB_FIELD_WORDS job_arms [] of.Command text_fields (λ p. job.Command p.0) text_behind (x, tt) refl refl (λ bs. refl) text_bare
job_stands (job.Arg x) = fielded_stands job_word JOB_FIELD_WORDS job_arms [] of.Arg text_fields (λ p. job.Arg p.0) text_behind (x, tt) refl refl (λ bs. refl) text_bare
job_stands job.Hold = alone_stands job_word JOB_FIELD_WORDS job_arms [] of.Hold job.Hold refl refl (λ bs. refl)
job_stands job.Rerunnable = alone_stands job_word JOB_FIELD_WORDS job_arms [] of.Rerunnable job.Rerunnable refl refl (λ bs. refl)
job_stands (job.Env x) = fielded_stands job_word JOB_FIELD_WORDS job_arms [] of.Env variable_fields (λ p. job.Env p.0) variable_behind (x, tt) refl refl (λ bs. refl) variable_bare
job_stands (job.Directory x) = fielded_stands job_word JOB_FIELD_WORDS job_arms [] of.Directory text_fields (λ p. job.Directory p.0) text_behind (x, tt) refl refl (λ bs. refl) text_bare
job_stands (job.Name x) = fielded_stands job_word JOB_FIELD_WORDS job_arms [] of.Name text_fields (λ p. job.Name p.0) text_behind (x, tt) refl refl (λ bs. refl) text_bare
job_stands (job.Input x) = fielded_stands job_word JOB_FIELD_WORDS job_arms [] of.Input text_fields (λ p. job.Input p.0) text_behind (x, tt) refl refl (λ bs. refl) text_bare
job_stands (job.Output x) = fielded_stands job_word JOB_FIELD_WORDS job_arms [] of.Output text_fields (λ p. job.Output p.0) text_behind (x, tt) refl refl (λ bs. refl) text_bare
job_stands (job.Error x) = fielded_stands job_word JOB_FIELD_WORDS job_arms [] of.Error text_fields (λ p. job.Error p.0) text_behind (x, tt) refl refl (λ bs. refl) text_bare
job_stands job.Join = alone_stands job_word JOB_FIELD_WORDS job_arms [] of.Join job.Join refl refl (λ bs. refl)
job_stands (job.Queue x) = fielded_stands job_word JOB_FIELD_WORDS job_arms [] of.Queue text_fields (λ p. job.Queue p.0) text_behind (x, tt) refl refl (λ bs. refl) text_bare
job_stands (job.MinSlots x) = fielded_stands job_word JOB_FIELD_WORDS job_arms [] of.MinSlots count_fields (λ p. job.MinSlots p.0) count_behind (x, tt) refl refl (λ bs. refl) count_bare
job_stands (job.MaxSlots x) = fielded_stands job_word JOB_FIELD_WORDS job_arms [] of.MaxSlots count_fields (λ p. job.MaxSlots p.0) count_behind (x, tt) refl refl (λ bs. refl) count_bare
job_stands (job.Priority x) = fielded_stands job_word JOB_FIELD_WORDS job_arms [] of.Priority integer_fields (λ p. job.Priority p.0) integer_behind (x, tt) refl refl (λ bs. refl) integer_bare
job_stands (job.Start x) = fielded_stands job_word JOB_FIELD_WORDS job_arms [] of.Start said_fields (λ p. job.Start p.0) said_behind (x, tt) refl refl (λ bs. refl) said_bare
job_stands (job.Deadline x) = fielded_stands job_word JOB_FIELD_WORDS job_arms [] of.Deadline said_fields (λ p. job.Deadline p.0) said_behind (x, tt) refl refl (λ bs. refl) said_bare
job_stands (job.Limit x) = fielded_stands job_word JOB_FIELD_WORDS job_arms [] of.Limit limit_fields (λ p. job.Limit p.0) limit_behind (x, tt) refl refl (λ bs. refl) limit_bare
job_stands (job.Other x) = fielded_stands job_word JOB_FIELD_WORDS job_arms [] of.Other other_fields (λ p. job.Other p.0) other_behind (x, tt) refl refl (λ bs. refl) other_bare

job_field_laws : IsFormatUpTo job_field_sum
unfolding job_field_sum
job_field_laws = sum_laws job_word JOB_FIELD_WORDS job_arms job_form [] job_found job_stands

pub job_field_found : (l : List ℕ) (x : JobField) → read_job_field l ≡ Some x → (job_form x).valid × (l ≡ (job_form x).text)
unfolding read_job_field job_field_sum sum_of
job_field_found = sum_found job_field_sum job_field_laws

pub job_field_again : (x : JobField) → (job_form x).valid → read_job_field (job_form x).text ≡ Some x
unfolding read_job_field job_field_sum sum_of
job_field_again = sum_again job_field_sum job_field_laws refl

reservation_found : (k : ReservationFieldWord) → IsArm reservation_form (reservation_word k) (reservation_arms k)
reservation_found by.Name = fielded_found reservation_form (reservation_word by.Name) text_fields _ text_behind (λ x. refl)
reservation_found by.Start = fielded_found reservation_form (reservation_word by.Start) beginning_fields _ beginning_behind (λ x. refl)
reservation_found by.End = fielded_found reservation_form (reservation_word by.End) said_fields _ said_behind (λ x. refl)
reservation_found by.Duration = fielded_found reservation_form (reservation_word by.Duration) duration_fields _ duration_behind (λ x. refl)
reservation_found by.MinSlots = fielded_found reservation_form (reservation_word by.MinSlots) count_fields _ count_behind (λ x. refl)
reservation_found by.MaxSlots = fielded_found reservation_form (reservation_word by.MaxSlots) count_fields _ count_behind (λ x. refl)
reservation_found by.Other = fielded_found reservation_form (reservation_word by.Other) other_fields _ other_behind (λ x. refl)

reservation_stands : (f : ReservationField) → Stands (read_sum reservation_word RESERVATION_FIELD_WORDS reservation_arms) [] f (reservation_form f)
reservation_stands (reservation.Name x) = fielded_stands reservation_word RESERVATION_FIELD_WORDS reservation_arms [] by.Name text_fields (λ p. reservation.Name p.0) text_behind (x, tt) refl refl (λ bs. refl) text_bare
reservation_stands (reservation.Start x) = fielded_stands reservation_word RESERVATION_FIELD_WORDS reservation_arms [] by.Start beginning_fields (λ p. reservation.Start p.0) beginning_behind (x, tt) refl refl (λ bs. refl) beginning_bare
reservation_stands (reservation.End x) = fielded_stands reservation_word RESERVATION_FIELD_WORDS reservation_arms [] by.End said_fields (λ p. reservation.End p.0) said_behind (x, tt) refl refl (λ bs. refl) said_bare
reservation_stands (reservation.Duration x) = fielded_stands reservation_word RESERVATION_FIELD_WORDS reservation_arms [] by.Duration duration_fields (λ p. reservation.Duration p.0) duration_behind (x, tt) refl refl (λ bs. refl) duration_bare
reservation_stands (reservation.MinSlots x) = fielded_stands reservation_word RESERVATION_FIELD_WORDS reservation_arms [] by.MinSlots count_fields (λ p. reservation.MinSlots p.0) count_behind (x, tt) refl refl (λ bs. refl) count_bare
reservation_stands (reservation.MaxSlots x) = fielded_stands reservation_word RESERVATION_FIELD_WORDS reservation_arms [] by.MaxSlots count_fields (λ p. reservation.MaxSlots p.0) count_behind (x, tt) refl refl (λ bs. refl) count_bare
reservation_stands (reservation.Other x) = fielded_stands reservation_word RESERVATION_FIELD_WORDS reservation_arms [] by.Other other_fields (λ p. reservation.Other p.0) other_behind (x, tt) refl refl (λ bs. refl) other_bare

reservation_field_laws : IsFormatUpTo reservation_field_sum
unfolding reservation_field_sum
reservation_field_laws = sum_laws reservation_word RESERVATION_FIELD_WORDS reservation_arms reservation_form [] reservation_found reservation_stands

pub reservation_field_found : (l : List ℕ) (x : ReservationField) → read_reservation_field l ≡ Some x → (reservation_form x).valid × (l ≡ (reservation_form x).text)
unfolding read_reservation_field reservation_field_sum sum_of
reservation_field_found = sum_found reservation_field_sum reservation_field_laws

pub reservation_field_again : (x : ReservationField) → (reservation_form x).valid → read_reservation_field (reservation_form x).text ≡ Some x
unfolding read_reservation_field reservation_field_sum sum_of
reservation_field_again = sum_again reservation_field_sum reservation_field_laws refl
