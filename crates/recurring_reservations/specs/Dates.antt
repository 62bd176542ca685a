-- Moments that are some months after another, in the calendar of `jiff`: our profile.
use Rattle.std.specs.Prelude.{◌≡◌, ℕ, ◌<◌, ◌/◌, ◌%◌, pos, ◌+ℤ◌, ◌*ℤ◌}
use Rattle.jiff.specs.Words.{epoch_day, add_months}
use Rattle.jiff_core.specs.declared.civil.date.Date.{Date}
use Rattle.drmaa_types.specs.Moments.{greatest}

-- the calendar's date of the day in which a moment lies
abbrev pub IsDateOf : ℕ → Date → Type 0
IsDateOf m date = epoch_day date ≡ pos (m / 86_400)

-- So many months after a moment: in the month that is so many months later, at the lesser of the moment's day and that
-- month's length, and at the moment's second of the day.
pub record IsMonthsLater (m months x : ℕ) : Type 0 where
  pub date : Date
  pub dated : IsDateOf m date
  pub value : pos x ≡ add_months date (pos months) *ℤ pos 86_400 +ℤ pos (m % 86_400)

-- what is meant lies after the greatest moment
abbrev pub IsBeyond : (ℕ → Type 0) → Type 0
IsBeyond Is = (x : ℕ) × Is x × (greatest < x)
