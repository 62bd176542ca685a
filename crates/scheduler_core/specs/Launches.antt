-- What is made ready of a launch before anything changes.
use Rattle.std.specs.Prelude.{◌≡◌, ℕ, ◌+◌, ◌-◌, ◌<◌, ◌≤◌, Bool, true, false, ◌&&◌, min, filter, Option, Some, None, MatchOption}
use Rattle.std.specs.Option.{option_and_then, option_map, option_map_or}
use Rattle.drmaa_types.specs.Queues.{queue_at}
use Rattle.drmaa_types.specs.declared.queues.QueueSpec.{QueueSpec}
use Rattle.drmaa_types.specs.declared.identifiers.ReservationId.{ReservationId}
use Rattle.drmaa_types.specs.declared.moments.End.{End}
use Rattle.drmaa_model.specs.declared.rows.Wants.{Wants}
use Rattle.drmaa_model.specs.Load.{in_queue, fits}
use Rattle.drmaa_model.specs.Time.{lasts}
use Rattle.drmaa_model.specs.TimeLaws.{timed}
use Rattle.reservation_calendar.specs.declared.bookings.Key.TheVariants.{Job}
use Rattle.plan_book.specs.declared.moves.Booked.{Booked}
use Rattle.plan_book.specs.declared.moves.Booked.TheVariants.{Same, Books}
use Rattle.drmaa_model.specs.declared.replies.Launch.{Launch}
use Rattle.drmaa_model.specs.declared.rows.Row.{Row}
use Rattle.drmaa_model.specs.Courses.{launched, planned_end}
use Rattle.drmaa_model.specs.Launching.{launch_of}
use Rattle.drmaa_model.specs.NextLaunch.{held, is_ready, has_room_in, has_slots_in, next_launch}
use Rattle.drmaa_model.specs.Plan.{Plan}
use Rattle.scheduler_core.specs.declared.launches.NextLaunch.{NextLaunch}
use Rattle.plan_book.specs.declared.moves.Move.{Move}
use Rattle.plan_book.specs.declared.moves.Edit.TheVariants.{Keep}

-- the plan as it is seen at a moment, before time changes any job
abbrev pub seen : ℕ → Plan → Plan
seen moment p = record p { moment = moment; reservations = filter (lasts moment) p.reservations }

-- a job as it will be then
abbrev pub seen_row : ℕ → Plan → Row → Row
seen_row moment p row = timed moment (filter (lasts moment) p.reservations) row

-- a job, as it will be, is ready for its minSlots
abbrev pub may_launch : ℕ → Plan → Row → Bool
may_launch moment p row = is_ready (seen moment p) row.wants.min row

-- there are slots within the limit of the queue that a job asks for, where it asks for one
abbrev pub room_of : Plan → ℕ → Wants → Bool
room_of p slots wants = option_map_or (has_room_in p slots) wants.queue true

-- the slots that an ordinary job which asks for this may have
abbrev pub free_of : Plan → ℕ → Wants → Bool
free_of p slots wants = fits p slots p.moment (planned_end wants p.moment) && room_of p slots wants

-- the slots that a job which asks for this may have
abbrev pub slots_of : Plan → ℕ → Wants → Bool
slots_of p slots wants = option_map_or (has_slots_in p slots) wants.reservation (free_of p slots wants)

-- the slots that are left within the limit of that queue
abbrev pub queue_left : Plan → Wants → Option ℕ
queue_left p wants =
    option_and_then (λ (place : ℕ). option_map (λ (queue : QueueSpec). queue.limit - in_queue place p.rows) (queue_at place p.queues)) wants.queue

-- so many at most, and no more than are left
abbrev pub capped : ℕ → Option ℕ → ℕ
capped most left = option_map_or (min most) left most

-- the most slots that a job may have beside what is held
pub record IsMost (p : Plan) (wants : Wants) (n : ℕ) : Type 0 where
  pub least : wants.min ≤ n
  pub most : n ≤ wants.max
  pub free : held p.rows + n ≤ p.total
  pub has : slots_of p n wants ≡ true
  pub no_more : (m : ℕ) → n < m → m ≤ wants.max → held p.rows + m ≤ p.total → slots_of p m wants ≡ false

-- what a launch does to the calendar: an ordinary job takes slots of it
abbrev pub launch_booking : Row → ℕ → ℕ → End → Booked
launch_booking row moment slots planned = option_map_or (λ (r : ReservationId). Same) row.wants.reservation (Books (record { key = Job row.job; slots = slots; from = moment; until = planned }))

abbrev pub launch-move : ℕ → Row → ℕ → Move
launch-move moment row slots = record {
  job = row.job;
  home = row.home;
  before = row.course;
  after = launched moment slots (planned_end row.wants moment) row.course;
  orders = Keep;
  booked = launch_booking row moment slots (planned_end row.wants moment);
}

-- the launch of this row at a moment with so many slots
pub record IsLaunchOf (row : Row) (moment slots : ℕ) (next : NextLaunch) : Type 0 where
  pub move_is : next.m ≡ launch-move moment row slots
  pub launch_is : next.launch ≡ launch_of row slots

-- what is handed out
abbrev pub handed_out : NextLaunch → Launch
handed_out next = next.launch

-- the launch that is next in a plan
pub record IsNext (p : Plan) (next : NextLaunch) : Type 0 where
  pub row : Row
  pub slots : ℕ
  pub first : next_launch p ≡ Some (row, slots)
  pub is : IsLaunchOf row p.moment slots next

abbrev pub IsNextIn : Plan → Option NextLaunch → Type 0
IsNextIn p o = MatchOption o (next_launch p ≡ None) (IsNext p)
