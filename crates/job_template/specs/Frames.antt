-- Where a reservation may lie, and what is wrong with its template: our profile.
use Rattle.std.specs.Prelude.{ℕ, ◌+◌, ◌-◌, Bool, not, ◌&&◌, ◌||◌, ◌==◌, nat_le, nat_lt, List, [], ◌∷◌, ◌++◌, Option, Some, None, is_some}
use Rattle.std.specs.Option.{option_map}
use Rattle.drmaa_types.specs.Moments.{greatest}
use Rattle.drmaa_types.specs.declared.refusals.Refusal.{Refusal}
use Rattle.drmaa_types.specs.declared.refusals.Refusal.TheVariants.{InvalidArgument, OutOfResource}
use Rattle.drmaa_types.specs.declared.refusals.Which.TheVariants as which
use Rattle.drmaa_types.specs.declared.refusals.Limit.TheVariants as resource
use Rattle.job_template.specs.declared.templates.Frame.{Frame}
use Rattle.job_template.specs.declared.templates.ReservationTemplate.{ReservationTemplate}
use Rattle.drmaa_types.specs.declared.template_parts.Start.{Start}
use Rattle.drmaa_types.specs.declared.template_parts.Start.TheVariants as start
use Rattle.job_template.specs.Texts.{most_text, is_bad_name, reservation_text_length}
use Rattle.job_template.specs.Unsupported.{other_tests}
use Rattle.job_template.specs.Wants.{least_slots, greatest_slots}

-- a start NOW is the current moment
abbrev pub moment_of : ℕ → Start → ℕ
moment_of now (start.At moment) = moment
moment_of now start.Now = now

-- which of start, end and duration are set
abbrev pub starts : ReservationTemplate → Bool
starts t = is_some t.start_time

abbrev pub ends : ReservationTemplate → Bool
ends t = is_some t.end_time

abbrev pub lasts : ReservationTemplate → Bool
lasts t = is_some t.duration

-- start, end and duration are all set: the reservation may lie anywhere between
abbrev pub is_loose : ReservationTemplate → Bool
is_loose t = starts t && ends t && lasts t

-- where a reservation may lie, and for how long
pub record Interval : Type 0 where
  pub from : ℕ
  pub until : ℕ
  pub span : ℕ

-- The interval of a start, an end and a duration, as they are set. The last three have no meaning, and are refused.
abbrev pub interval : ℕ → Option ℕ → Option ℕ → Option ℕ → Interval
interval now (Some start) (Some end) (Some duration) = record { from = start; until = end; span = duration }
interval now (Some start) (Some end) None = record { from = start; until = end; span = end - start }
interval now (Some start) None (Some duration) = record { from = start; until = start + duration; span = duration }
interval now None (Some end) (Some duration) = record { from = end - duration; until = end; span = duration }
interval now None None (Some duration) = record { from = now; until = now + duration; span = duration }
interval now None (Some end) None = record { from = now; until = end; span = end - now }
interval now (Some start) None None = record { from = start; until = start; span = 0 }
interval now None None None = record { from = now; until = now; span = 0 }

abbrev pub interval_of : ℕ → ReservationTemplate → Interval
interval_of now t = interval now (option_map (moment_of now) t.start_time) t.end_time t.duration

abbrev pub frame_of : ℕ → ReservationTemplate → Frame
frame_of now t = record {
  from = (interval_of now t).from;
  until = (interval_of now t).until;
  span = (interval_of now t).span;
  min = least_slots t.min_slots;
  max = greatest_slots t.min_slots t.max_slots;
}

-- ---- what is wrong with a template, in order

abbrev pub name_tests : ReservationTemplate → List (Bool × Refusal)
name_tests t =
    (nat_lt most_text (reservation_text_length t), OutOfResource resource.TemplateText) ∷
    (is_bad_name t.reservation_name, InvalidArgument which.ReservationName) ∷ []

-- The start is before now; an end stands alone; the start that end and duration give is before now; or there is neither.
abbrev pub start_tests : ℕ → ReservationTemplate → Frame → List (Bool × Refusal)
start_tests now t f =
    (starts t && nat_lt f.from now, InvalidArgument which.StartTime) ∷
    (not (starts t) && ends t && not (lasts t), InvalidArgument which.StartTime) ∷
    (not (starts t) && ends t && lasts t && nat_lt f.until (now + f.span), InvalidArgument which.StartTime) ∷
    (not (ends t) && not (lasts t), InvalidArgument which.Duration) ∷ []

-- the end is not after the start; the duration is 0, longer than the frame, or ends after the greatest moment
abbrev pub length_tests : ReservationTemplate → Frame → List (Bool × Refusal)
length_tests t f =
    (starts t && ends t && nat_le f.until f.from, InvalidArgument which.EndTime) ∷
    (lasts t && ((f.span == 0) || nat_lt f.until (f.from + f.span) || nat_lt greatest f.until), InvalidArgument which.Duration) ∷ []

-- the least number of slots is 0, or the greatest is below it
abbrev pub slot_tests : ℕ → ℕ → List (Bool × Refusal)
slot_tests min max =
    (min == 0, InvalidArgument which.MinSlots) ∷
    (nat_lt max min, InvalidArgument which.MaxSlots) ∷ []

abbrev pub frame_tests : ℕ → ReservationTemplate → List (Bool × Refusal)
frame_tests now t =
    name_tests t ++ start_tests now t (frame_of now t) ++ length_tests t (frame_of now t) ++
    slot_tests (frame_of now t).min (frame_of now t).max ++ other_tests t.others
