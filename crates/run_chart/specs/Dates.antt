-- How a moment is spelled on the axis: our profile.
use Rattle.std.specs.Prelude.{ℕ, ◌+◌, ◌-◌, ◌*◌, ◌/◌, ◌%◌, ◌==◌, ◌&&◌, nat_lt, nat_le, Bool, false, List, Option, Some, None, decimal, if◌then◌else◌}
use Rattle.text_dates.specs.declared.dates.DateTime.{DateTime}
use Rattle.text_dates.specs.Dates.{moment_of, date, day, time, pairs}

-- ---- a date is reckoned, in spans of 400 years of which each begins with 1 March; day 0 is 1 January 1970

abbrev pub passed_days : ℕ → ℕ
passed_days day = (day + 719_468) % 146_097

-- whole years: every fourth has a day more, but for every hundredth, but for the last
abbrev pub passed_years : ℕ → ℕ
passed_years days = (days - ((days / 1_460 - days / 36_524) + days / 146_096)) / 365

abbrev pub day_of_year : ℕ → ℕ
day_of_year days = days - ((passed_years days * 365 + passed_years days / 4) - passed_years days / 100)

-- five months have 153 days
abbrev pub passed_months : ℕ → ℕ
passed_months days = (days * 5 + 2) / 153

abbrev pub month_of : ℕ → ℕ
month_of months = if nat_lt months 10 then months + 3 else (months - 9) % 256

abbrev pub day_of : ℕ → ℕ → ℕ
day_of days months = (days - (months * 153 + 2) / 5 + 1) % 256

-- January and February are of the next year
abbrev pub year_of : ℕ → ℕ → ℕ → ℕ
year_of day years months = ((day + 719_468) / 146_097 * 400 + years + (if nat_lt months 10 then 0 else 1)) % 65_536

abbrev pub date_from : ℕ → ℕ → ℕ → ℕ → DateTime
date_from day passed days second = record {
  year = year_of day (passed_years passed) (passed_months days);
  month = month_of (passed_months days);
  day = day_of days (passed_months days);
  hour = second / 3_600;
  minute = second / 60 % 60;
  second = second % 60;
}

unfoldable pub reckoned : ℕ → DateTime
reckoned moment =
    date_from (moment / 86_400) (passed_days (moment / 86_400)) (day_of_year (passed_days (moment / 86_400))) (moment % 86_400)

-- ---- and taken where it is the moment's

abbrev pub is_at : Option ℕ → ℕ → Bool
is_at None moment = false
is_at (Some m) moment = m == moment

-- the date of a moment of a real clock, which is one from September 2001 on
abbrev pub date_of : ℕ → Option DateTime
date_of moment =
    if nat_le 1_000_000_000 moment && is_at (moment_of (reckoned moment)) moment then Some (reckoned moment) else None

unfoldable pub day_text : DateTime → List ℕ
day_text d = day.spell (pairs d).0

unfoldable pub time_text : DateTime → List ℕ
time_text d = time.spell (pairs d).1

-- a date as scripts spell it, and else the number of seconds
abbrev pub dated_text : ℕ → Option DateTime → List ℕ
dated_text moment None = decimal moment
dated_text moment (Some d) = date.spell d

unfoldable pub moment_text : ℕ → List ℕ
moment_text moment = dated_text moment (date_of moment)
