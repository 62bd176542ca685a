-- Dates with a time of day in UTC, and their moments: our profile. The calendar is the proleptic Gregorian one.
use Rattle.std.specs.Prelude.{◌≡◌, ℕ, ◌+◌, ◌*◌, ◌/◌, ◌%◌, ◌≤◌, ◌&&◌, nat_le, Bool, [], ℤ, pos, negsuc, ◌+ℤ◌, ◌*ℤ◌, Option, Some, None, codes, if◌then◌else◌}
use Rattle.jiff.specs.Words.{IsDate, days_in_month}
use Rattle.jiff_core.specs.Calendar.{days_from_civil}
use Rattle.drmaa_types.specs.Moments.{greatest}
use Rattle.text_codec.specs.Formats.{Format, ◌>>=◌, mapped}
use Rattle.text_codec.specs.Exact.{beside, before, two}
use Rattle.text_dates.specs.declared.dates.DateTime.{DateTime}

-- The calendar has the date, the day has the time, and this is the number of seconds since the start of 1970: the day
-- number times 86,400 plus the seconds of the day.
pub record IsAt (d : DateTime) (m : ℕ) : Type 0 where
  pub date : IsDate (pos d.year) (pos d.month) (pos d.day)
  pub hour : d.hour ≤ 23
  pub minute : d.minute ≤ 59
  pub second : d.second ≤ 59
  pub value : (days_from_civil (pos d.year) d.month d.day *ℤ pos 86_400) +ℤ pos (d.hour * 3600 + d.minute * 60 + d.second) ≡ pos m
  pub within : m ≤ greatest

-- whether the calendar has this date, of a year from 0 on
abbrev pub is_date : ℕ → ℕ → ℕ → Bool
is_date y m d = nat_le y 9999 && (nat_le 1 m && nat_le m 12) && (nat_le 1 d && nat_le d (days_in_month (pos y) m))

-- the number of the date's day
abbrev pub day_number : DateTime → Option ℤ
day_number d = if is_date d.year d.month d.day then Some (days_from_civil (pos d.year) d.month d.day) else None

-- how many seconds of its day have passed
abbrev pub second_of_day : DateTime → Option ℕ
second_of_day d =
    if nat_le d.hour 23 && nat_le d.minute 59 && nat_le d.second 59 then Some (d.hour * 3600 + d.minute * 60 + d.second) else None

-- the moment so many seconds after the start of 1970
abbrev pub moment_at : ℤ → Option ℕ
moment_at (pos n) = if nat_le n greatest then Some n else None
moment_at (negsuc n) = None

-- the moment of a date
unfoldable pub moment_of : DateTime → Option ℕ
moment_of d = day_number d >>= λ day. second_of_day d >>= λ second. moment_at ((day *ℤ pos 86_400) +ℤ pos second)

-- YYYY-MM-DDTHH:MM:SSZ, in pairs of digits
unfoldable pub day : Format ((ℕ × ℕ) × (ℕ × ℕ))
day = beside (codes "-") (beside [] two two) (beside (codes "-") two two)

unfoldable pub time : Format (ℕ × (ℕ × ℕ))
time = beside (codes ":") two (beside (codes ":") two two)

unfoldable pub digits : Format (((ℕ × ℕ) × (ℕ × ℕ)) × (ℕ × (ℕ × ℕ)))
digits = before (codes "Z") (beside (codes "T") day time)

-- a date from its pairs of digits, and back
abbrev pub made : ((ℕ × ℕ) × (ℕ × ℕ)) × (ℕ × (ℕ × ℕ)) → DateTime
made p = record { year = p.0.0.0 * 100 + p.0.0.1; month = p.0.1.0; day = p.0.1.1; hour = p.1.0; minute = p.1.1.0; second = p.1.1.1 }

abbrev pub pairs : DateTime → ((ℕ × ℕ) × (ℕ × ℕ)) × (ℕ × (ℕ × ℕ))
pairs d = (((d.year / 100, d.year % 100), (d.month, d.day)), (d.hour, (d.minute, d.second)))

-- a date of twenty bytes
unfoldable pub date : Format DateTime
date = mapped made pairs digits
