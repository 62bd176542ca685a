-- What time leaves as it is: our profile.
use Rattle.std.specs.Prelude.{◌≡◌, ◌⊎◌, ℕ, ◌/◌, ◌^◌, ◌<◌, ◌≤◌, Bool, true, false, not, ◌&&◌, List, get_or, length, if◌then◌else◌}
use Rattle.std.specs.List.{AllByRecursion}
use Rattle.std.specs.Option.{option_map_or}
use Rattle.drmaa_types.specs.States.{is_waiting, is_started}
use Rattle.drmaa_types.specs.declared.moments.End.{End}
use Rattle.drmaa_types.specs.declared.moments.End.TheVariants.{At, Never}
use Rattle.drmaa_model.specs.declared.reservations.Accepted.{Accepted}
use Rattle.drmaa_model.specs.declared.rows.Row.{Row}
use Rattle.drmaa_model.specs.Courses.{is_unasked, optional_end}
use Rattle.drmaa_model.specs.Plan.{Plan}
use Rattle.drmaa_model.specs.Time.{lasts, is_past, is_stranded, lapses, is_due}
use Rattle.plan_book.specs.declared.alarm_blocks.Alarm.{Alarm}
use Rattle.plan_book.specs.declared.rows.Places.{Places}

-- the job neither ends nor is asked to end
abbrev pub is_left : ℕ → List Accepted → Row → Bool
is_left moment rs row = not (lapses moment rs row) && not (is_due moment rs row)

-- before this end time leaves the job as it is
abbrev pub IsLeftUntil : End → List Accepted → Row → Type 0
IsLeftUntil end rs row = (moment : ℕ) → is_past moment end ≡ false → is_left moment rs row ≡ true

-- before this end the reservation lasts
abbrev pub LastsUntil : End → Accepted → Type 0
LastsUntil end r = (moment : ℕ) → is_past moment end ≡ false → lasts moment r ≡ true

-- ---- the alarm, of jobs in blocks of so many numbers

abbrev pub block_of : ℕ → ℕ
block_of number = number / 64

-- the end of the block that a number is of
abbrev pub end_of : List End → ℕ → End
end_of ends number = get_or ends (block_of number) Never

-- none of these blocks, which are given by their places
abbrev pub IsOutside : Places → ℕ → Type 0
IsOutside blocks k = (k < blocks.from) ⊎ (blocks.until ≤ k)

-- their blocks have ends
abbrev pub AreCovered : List End → List Row → Type 0
AreCovered ends rows = AllByRecursion (λ (row : Row). block_of row.job.0 < length ends) rows

-- its block has an end, before which time leaves the job as it is
pub record IsAlarmed (ends : List End) (rs : List Accepted) (row : Row) : Type 0 where
  pub covered : block_of row.job.0 < length ends
  pub left : IsLeftUntil (end_of ends row.job.0) rs row

-- time leaves the job as it is at this moment, and until the end of its block
pub record IsSpared (moment : ℕ) (ends : List End) (rs : List Accepted) (row : Row) : Type 0 where
  pub now : is_left moment rs row ≡ true
  pub left : IsLeftUntil (end_of ends row.job.0) rs row

-- nothing of it has come by this moment
pub record IsAhead (moment : ℕ) (alarm : Alarm) : Type 0 where
  pub lasting : is_past moment alarm.lasting ≡ false
  pub ends : (k : ℕ) → is_past moment (get_or alarm.ends.items k Never) ≡ false

-- Time leaves each job as it is before the end of its block, and each reservation lasts until the alarm's; before what is soonest nothing
-- of this has come. There are no more blocks than numbers.
pub record IsQuiet (alarm : Alarm) (p : Plan) : Type 0 where
  pub rows : AllByRecursion (IsAlarmed alarm.ends.items p.reservations) p.rows
  pub reservations : AllByRecursion (LastsUntil alarm.lasting) p.reservations
  pub soonest : (moment : ℕ) → is_past moment alarm.soonest ≡ false → IsAhead moment alarm
  pub few : length alarm.ends.items ≤ 2 ^ 58

-- time acts at once where the job names a reservation that is gone
abbrev pub unless_stranded : Bool → End → End
unless_stranded stranded end = if stranded then At 0 else end

-- The first moment at which time may act on a job: a waiting one may lapse, and a started one may be asked to end.
abbrev pub acts_at : List Accepted → Row → End
acts_at rs row =
    if is_waiting row.course.state
    then unless_stranded (is_stranded rs row) (optional_end row.wants.deadline)
    else if is_started row.course.state && is_unasked row.course.kill
    then unless_stranded (is_stranded rs row) (option_map_or (λ (end : End). end) row.course.planned Never)
    else Never
