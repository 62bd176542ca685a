-- The laws of months: what the calendar of `jiff` has of them, and that later months have later days.
use Rattle.std.proofs.Common.{◌≡◌, ℕ, zero, suc, ◌+◌, ◌*◌, ◌%◌, ◌<◌, ◌≤◌, min, refl, sym, ap, subst, ◌∙◌, arith, ℤ, pos, negsuc, ◌+ℤ◌, ◌<ℤ◌, ◌≤ℤ◌, unsigned_abs}
use Rattle.std.proofs.lemmas.Int.{by_lt_z}
use Rattle.jiff_core.specs.declared.civil.date.Date.{Date}
use Rattle.jiff_core.specs.declared.span.Span.{Span}
use Rattle.jiff_core.specs.declared.unit.Unit.TheVariants.{Month, Hour, Minute, Second, Millisecond, Microsecond, Nanosecond}
use Rattle.jiff_core.specs.Calendar.{IsEpochDay, IsCivilDate, day_count, days_from_civil, days_in_month}
use Rattle.jiff_core.specs.Date.{epoch_day, month_length}
use Rattle.jiff_core.specs.Span.{IsOnly, span_months, span_days, clock_days}
use Rattle.jiff_core.proofs.SignedLemmas.{signed_arith}
use Rattle.jiff_core.proofs.CalendarLemmas.{day_count-epoch, days_from_civil-day_count, day_count-lt_year, day_count-day_of_year, day_count-later_year, day_count-end, day_count_bounds, days_in_month_bounds}
use Rattle.jiff_core.proofs.DateLemmas.{civil, epoch_day_injective, epoch_day_range}
use Rattle.jiff_span.specs.Add.{date_add, CanAddToDate}
use Rattle.jiff_span.specs.Months.{month_number, shifted_year, shifted_month, shifted_day, add_months, IsShiftable}
use Rattle.jiff_span.proofs.DifferenceLemmas.{signed_zero}
use Rattle.jiff_span.proofs.MonthLemmas.{shifted_month_in, shifted_number, shifted_civil, days_from_civil-month, add_months-zero, add_months-forward}
use Rattle.drmaa_types.specs.Moments.{greatest}
use Rattle.recurring_reservations.specs.Dates.{IsDateOf, IsMonthsLater, IsBeyond}

-- ---- what a span of months does to a date

no_clock : (s : Span) (n : ℤ) → IsOnly Month n s → clock_days s ≡ pos 0
no_clock s n h =
    let a = h.others Hour (omega arith) in
    let b = h.others Minute (omega arith) in
    let c = h.others Second (omega arith) in
    let d = h.others Millisecond (omega arith) in
    let e = h.others Microsecond (omega arith) in
    let f = h.others Nanosecond (omega arith) in
    signed_zero s.negative _ (omega arith)

-- a span of months moves the date by that many
pub date_add-months : (date : Date) (n : ℤ) (s : Span) → IsOnly Month n s → date_add date s ≡ add_months date n
date_add-months date n s h =
    let m : span_months s ≡ n = omega (arith, signed_arith, h.months) in
    let d : span_days s ≡ pos 0 = omega (arith, signed_arith, h.days) in
    let k : clock_days s ≡ pos 0 = no_clock s n h in
    rw (m, d, k) (omega (arith, signed_arith))

-- which a date can take exactly where the library has the year and the day
pub can_add-months : (date : Date) (n : ℤ) (s : Span) → IsOnly Month n s → IsShiftable date n → IsEpochDay (add_months date n) → CanAddToDate date s
can_add-months date n s h year day =
    let m : span_months s ≡ n = omega (arith, signed_arith, h.months) in
    (subst (IsShiftable date) (sym m) year, subst IsEpochDay (sym (date_add-months date n s h)) day)

pub added-shiftable : (date : Date) (n : ℤ) (s : Span) → IsOnly Month n s → CanAddToDate date s → IsShiftable date n
added-shiftable date n s h can =
    let m : span_months s ≡ n = omega (arith, signed_arith, h.months) in
    subst (IsShiftable date) m can.0

-- ---- where the calendar ends

-- a day from 1970 on has a year from 0 on
pub late-year : (date : Date) → pos 0 ≤ℤ epoch_day date → pos 0 ≤ℤ date.year
late-year date since =
    by_lt_z date.year (pos 0)
    (λ early. absurd (omega (arith, signed_arith, day_count-epoch, days_from_civil-day_count date.year date.month date.day, day_count-lt_year date.year date.month date.day (pos 1970) 1 1 (civil date) (omega arith) (omega (arith, signed_arith)))))
    (λ late. late)

-- each day after the year 9999 has a greater number than those of the calendar
pub far-day : (y : ℤ) (m d : ℕ) → pos 9999 <ℤ y → 1 ≤ d → pos 2_932_896 <ℤ days_from_civil y m d
far-day y m d far first =
    let year : 7_304_850 ≤ day_count y 1 1 =
    by_lt_z (pos 10000) y
    (λ lt. omega (arith, day_count-end, day_count-later_year (pos 10000) y (omega (arith, signed_arith)) lt))
    (λ le. (let e : y ≡ pos 10000 = omega (arith, signed_arith) in rw e (omega (arith, day_count-end)))) in
    omega (arith, signed_arith, day_count-epoch, days_from_civil-day_count y m d, day_count-day_of_year y m d first)

-- each day of the calendar has a number of the calendar
pub civil-day : (y : ℤ) (m d : ℕ) → IsCivilDate y m d → IsEpochDay (days_from_civil y m d)
civil-day y m d h = omega (arith, signed_arith, days_from_civil-day_count y m d, day_count_bounds y m d h)

shifted-first : (date : Date) (n : ℤ) → 1 ≤ shifted_day date n
shifted-first date n =
    let long = days_in_month_bounds (shifted_year date n) (shifted_month date n) in
    let day = date.day_in in
    omega arith

-- a shift into a year that the calendar does not have
pub far-months : (date : Date) (n : ℤ) → pos 9999 <ℤ shifted_year date n → pos 2_932_896 <ℤ add_months date n
far-months date n far = far-day (shifted_year date n) (shifted_month date n) (shifted_day date n) far (shifted-first date n)

-- by more months than a span has
pub many-months : (date : Date) (k : ℕ) → pos 0 ≤ℤ epoch_day date → 239_976 < k → pos 2_932_896 <ℤ add_months date (pos k)
many-months date k since many =
    let year = late-year date since in
    let number = shifted_number date (pos k) in
    let month = shifted_month_in date (pos k) in
    far-months date (pos k) (omega (arith, signed_arith))

-- by so many that the date can't take them
pub unadded-months : (date : Date) (k : ℕ) (s : Span) → pos 0 ≤ℤ epoch_day date → IsOnly Month (pos k) s → (CanAddToDate date s → ⊥) → pos 2_932_896 <ℤ add_months date (pos k)
unadded-months date k s since only cannot =
    by_lt_z (pos 9999) (shifted_year date (pos k)) (far-months date (pos k)) (λ near.
    let year = late-year date since in
    let number = shifted_number date (pos k) in
    let month = shifted_month_in date (pos k) in
    let shiftable : IsShiftable date (pos k) = (omega (arith, signed_arith), near) in
    absurd (cannot (can_add-months date (pos k) s only shiftable (civil-day _ _ _ (shifted_civil date (pos k) shiftable)))))

-- no shift goes back
pub since-months : (date : Date) (k : ℕ) → IsShiftable date (pos k) → epoch_day date ≤ℤ add_months date (pos k)
since-months date zero shiftable = rw (add_months-zero date) (omega (arith, signed_arith))
since-months date (suc k) shiftable =
    let later = add_months-forward date (pos (suc k)) shiftable (omega (arith, signed_arith)) in
    omega (arith, signed_arith)

-- ---- moments

since-abs : (z : ℤ) → pos 0 ≤ℤ z → pos (unsigned_abs z) ≡ z
since-abs (pos n) since = refl
since-abs (negsuc n) since = absurd (omega (arith, signed_arith))

-- the second of a day
pub later-moment : (m k x : ℕ) (date : Date) (day : ℤ) → IsDateOf m date → day ≡ add_months date (pos k) → pos 0 ≤ℤ day → x ≡ unsigned_abs day * 86_400 + m % 86_400 → IsMonthsLater m k x
later-moment m k x date day dated is since value =
    let whole : pos (unsigned_abs day) ≡ day = since-abs day since in
    record {
      date = date;
      dated = dated;
      value = rw (← is, ← whole) (omega (arith, signed_arith));
    }

-- a day after the calendar's is after the greatest moment
pub far-moment : (m k : ℕ) (date : Date) → IsDateOf m date → pos 2_932_896 <ℤ add_months date (pos k) → IsBeyond (IsMonthsLater m k)
unfolding greatest
far-moment m k date dated far =
    let day = add_months date (pos k) in
    let x = unsigned_abs day * 86_400 + m % 86_400 in
    (x, later-moment m k x date day dated refl (omega (arith, signed_arith)) refl, omega (arith, signed_arith))

-- ---- one moment is so many months later

same-date : (m : ℕ) (a b : Date) → IsDateOf m a → IsDateOf m b → (a.year ≡ b.year) × (a.month ≡ b.month) × (a.day ≡ b.day)
same-date m a b first second = epoch_day_injective a b (first ∙ sym second)

same-months : (a b : Date) (n : ℤ) → (a.year ≡ b.year) × (a.month ≡ b.month) × (a.day ≡ b.day) → add_months a n ≡ add_months b n
same-months a b n same = rw (same.0, same.1, same.2) refl

pub one-later : (m k x y : ℕ) → IsMonthsLater m k x → IsMonthsLater m k y → x ≡ y
one-later m k x y first second =
    let days = same-months first.date second.date (pos k) (same-date m first.date second.date first.dated second.dated) in
    let one = first.value in
    let other = second.value in
    omega (arith, signed_arith, days)

-- ---- later months are later

-- by more months to a later day, where the earlier is one of the calendar
pub months-rise : (date : Date) (i j : ℕ) → IsShiftable date (pos i) → i < j → add_months date (pos i) <ℤ add_months date (pos j)
months-rise date i j shiftable less =
    let number = shifted_number date (pos i) in
    let next = shifted_number date (pos j) in
    let month = shifted_month_in date (pos j) in
    days_from_civil-month _ _ _ _ _ _ (shifted_civil date (pos i) shiftable) month.0 month.1 (shifted-first date (pos j)) (omega (arith, signed_arith))

-- a day of a moment has a year of the calendar
pub near-year : (date : Date) (k : ℕ) → pos 0 ≤ℤ epoch_day date → add_months date (pos k) ≤ℤ pos 2_932_896 → IsShiftable date (pos k)
near-year date k since within =
    by_lt_z (pos 9999) (shifted_year date (pos k))
    (λ far. absurd (let beyond = far-months date (pos k) far in omega (arith, signed_arith)))
    (λ near.
    let year = late-year date since in
    let number = shifted_number date (pos k) in
    let month = shifted_month_in date (pos k) in
    (omega (arith, signed_arith), near))

pub later-rise : (m i j x y : ℕ) → IsMonthsLater m i x → IsMonthsLater m j y → x ≤ greatest → i < j → x < y
unfolding greatest
later-rise m i j x y first second within less =
    let date = first.date in
    let dated = first.dated in
    let one = first.value in
    let other = second.value in
    let days = same-months second.date date (pos j) (same-date m second.date date second.dated dated) in
    let shiftable = near-year date i (omega (arith, signed_arith)) (omega (arith, signed_arith)) in
    let rise = months-rise date i j shiftable less in
    omega (arith, signed_arith, days)

-- ---- the date that is reached

pub record IsReached (date later : Date) (months : ℕ) : Type 0 where
  pub year : later.year ≡ shifted_year date (pos months)
  pub month : later.month ≡ shifted_month date (pos months)
  pub day : later.day ≡ shifted_day date (pos months)

pub reached : (date later : Date) (months : ℕ) → epoch_day later ≡ add_months date (pos months) → IsReached date later months
reached date later months is =
    by_lt_z (pos 9999) (shifted_year date (pos months))
    (λ far. absurd (let beyond = far-months date (pos months) far in let range = epoch_day_range later in omega (arith, signed_arith, is)))
    (λ near.
    let number = shifted_number date (pos months) in
    let month = shifted_month_in date (pos months) in
    let first = date.month_in in
    let since = date.year_in in
    let shiftable : IsShiftable date (pos months) = (omega (arith, signed_arith), near) in
    let is_civil = shifted_civil date (pos months) shiftable in
    let there : Date = record { year = shifted_year date (pos months); month = shifted_month date (pos months); day = shifted_day date (pos months); year_in = is_civil.0; month_in = is_civil.1; day_in = is_civil.2 } in
    let same = epoch_day_injective later there is in
    record { year = same.0; month = same.1; day = same.2 })

-- it is in the month that is so many months later
pub reached-month : (date later : Date) (months : ℕ) → epoch_day later ≡ add_months date (pos months) → month_number later ≡ month_number date +ℤ pos months
reached-month date later months is =
    let there = reached date later months is in
    rw (there.year, there.month) (sym (shifted_number date (pos months)))

-- at the same day, or at the month's last where it is shorter
pub reached-day : (date later : Date) (months : ℕ) → epoch_day later ≡ add_months date (pos months) → later.day ≡ min date.day (month_length later)
reached-day date later months is =
    let there = reached date later months is in
    there.day ∙ ap (λ (y : ℤ). min date.day (days_in_month y (shifted_month date (pos months)))) (sym there.year)
    ∙ ap (λ (m : ℕ). min date.day (days_in_month later.year m)) (sym there.month)

-- so from a 31st on it is the month's last
pub reached-last : (date later : Date) (months : ℕ) → epoch_day later ≡ add_months date (pos months) → date.day ≡ 31 → later.day ≡ month_length later
reached-last date later months is last =
    let day = reached-day date later months is in
    let long = days_in_month_bounds later.year later.month in
    omega arith
