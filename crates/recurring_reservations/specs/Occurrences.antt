-- Reservations that recur: our profile. An occurrence is counted from the first, and not from the one before it.
use Rattle.std.specs.Prelude.{◌≡◌, ℕ, ◌+◌, ◌*◌, ◌<◌, ◌≤◌, Bool, true, ◌||◌, ◌==◌, nat_lt, List, [], ◌∷◌, length, map, slice_index, Option, Some, None, is_some, is_none}
use Rattle.std.specs.Option.{option_map_or}
use Rattle.drmaa_types.specs.Moments.{greatest}
use Rattle.drmaa_types.specs.Refusals.{first_refusal}
use Rattle.drmaa_types.specs.declared.refusals.Refusal.{Refusal}
use Rattle.drmaa_types.specs.declared.refusals.Refusal.TheVariants.{InvalidArgument}
use Rattle.drmaa_types.specs.declared.refusals.Which.TheVariants as which
use Rattle.job_template.specs.declared.templates.ReservationTemplate.{ReservationTemplate}
use Rattle.drmaa_types.specs.declared.template_parts.Start.{Start}
use Rattle.drmaa_types.specs.declared.template_parts.Start.TheVariants as start
use Rattle.recurring_reservations.specs.declared.recurrences.Every.{Every}
use Rattle.recurring_reservations.specs.declared.recurrences.Every.TheVariants.{Days, Weeks, Months}
use Rattle.recurring_reservations.specs.declared.recurrences.Recurring.{Recurring}
use Rattle.recurring_reservations.specs.Dates.{IsMonthsLater}

-- ---- one occurrence

-- the number in `every`
abbrev pub number_in : Every → ℕ
number_in (Days n) = n
number_in (Weeks n) = n
number_in (Months n) = n

-- Occurrence i of a start, from 0 on: so many days of 86,400 seconds later, seven times as many, or so many months.
abbrev pub IsOccurrence : ℕ → Every → ℕ → ℕ → Type 0
IsOccurrence m (Days n) i x = x ≡ m + 86_400 * n * i
IsOccurrence m (Weeks n) i x = x ≡ m + 7 * (86_400 * n * i)
IsOccurrence m (Months n) i x = IsMonthsLater m (n * i) x

-- ---- when there are none

-- the most occurrences, and the greatest number in `every`
abbrev pub most : ℕ
most = 1_000

-- it is not from 1 to 1,000
abbrev pub is_bad_number : ℕ → Bool
is_bad_number n = (n == 0) || nat_lt most n

-- the moment at which the first is to start: none where the start is unset, or NOW
abbrev pub start_in : Option Start → Option ℕ
start_in None = None
start_in (Some start.Now) = None
start_in (Some (start.At moment)) = Some moment

-- the duration is unset, or 0
abbrev pub is_no_duration : Option ℕ → Bool
is_no_duration duration = option_map_or (λ (seconds : ℕ). seconds == 0) duration true

-- what is wrong with a recurring reservation, in order, before its occurrences are looked at
abbrev pub recurring_tests : Recurring → List (Bool × Refusal)
recurring_tests r =
    (is_none (start_in r.template.start_time), InvalidArgument which.StartTime) ∷
    (is_some r.template.end_time, InvalidArgument which.EndTime) ∷
    (is_no_duration r.template.duration, InvalidArgument which.Duration) ∷
    (is_bad_number r.count || is_bad_number (number_in r.every), InvalidArgument which.Indices) ∷ []

abbrev pub first_start : Recurring → ℕ
first_start r = option_map_or (λ (moment : ℕ). moment) (start_in r.template.start_time) 0

-- how many seconds each is to last
abbrev pub lasting : Recurring → ℕ
lasting r = option_map_or (λ (seconds : ℕ). seconds) r.template.duration 0

-- an occurrence plus the duration is above the greatest moment
pub record IsLate (m : ℕ) (every : Every) (count seconds : ℕ) : Type 0 where
  pub place : ℕ
  pub listed : place < count
  pub from : ℕ
  pub occurs : IsOccurrence m every place from
  pub above : greatest < from + seconds

-- why there are no occurrences, but for want of memory: the first test that holds, or an occurrence that would end too late
pub data HasNone (r : Recurring) (reason : Refusal) : Type 0 where
  by_test : first_refusal (recurring_tests r) ≡ Some reason → HasNone r reason
  by_end : first_refusal (recurring_tests r) ≡ None → IsLate (first_start r) r.every r.count (lasting r) → reason ≡ InvalidArgument which.EndTime → HasNone r reason

-- ---- all of them

-- the starts of all occurrences, in order, each of which ends in time
pub record AreStarts (m : ℕ) (every : Every) (count seconds : ℕ) (starts : List ℕ) : Type 0 where
  pub number : length starts ≡ count
  pub each : (i : ℕ) → i < count → IsOccurrence m every i (slice_index starts i)
  pub within : (i : ℕ) → i < count → slice_index starts i + seconds ≤ greatest

-- the template with this start
abbrev pub from_moment : ReservationTemplate → ℕ → ReservationTemplate
from_moment t moment = record t { start_time = Some (start.At moment) }

-- the templates of all occurrences, in order: each is the template with the start of the occurrence
pub record AreOccurrences (r : Recurring) (templates : List ReservationTemplate) : Type 0 where
  pub tested : first_refusal (recurring_tests r) ≡ None
  pub starts : List ℕ
  pub occur : AreStarts (first_start r) r.every r.count (lasting r) starts
  pub templates_are : templates ≡ map (from_moment r.template) starts
