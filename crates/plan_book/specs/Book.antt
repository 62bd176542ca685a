-- How a book is read: the plan that it keeps, and the room that it has.
use Rattle.std.specs.Prelude.{◌≡◌, ℕ, max, filter, ◌+◌, ◌-◌, ◌<◌, ◌≤◌, ◌&&◌, ◌==◌, not, true, false, Bool, List, ◌++◌, Some, length, vec_len, vec_capacity, if◌then◌else◌}
use Rattle.drmaa_types.specs.Queues.{most_queues}
use Rattle.drmaa_types.specs.States.{is_state}
use Rattle.drmaa_types.specs.declared.identifiers.JobId.{JobId}
use Rattle.drmaa_types.specs.declared.states.SignalKind.{SignalKind}
use Rattle.drmaa_model.specs.declared.courses.Course.{Course}
use Rattle.drmaa_model.specs.declared.courses.Order.{Order}
use Rattle.drmaa_model.specs.declared.rows.Row.{Row}
use Rattle.drmaa_model.specs.Fit.{IsFit}
use Rattle.drmaa_model.specs.Controlling.{orders_for}
use Rattle.drmaa_model.specs.Launching.{take_first}
use Rattle.drmaa_model.specs.Reporting.{orders_without, drop_first, signal_number}
use Rattle.drmaa_model.specs.Plan.{Plan}
use Rattle.drmaa_model.specs.Rows.{row_of, go_on}
use Rattle.drmaa_model.specs.Size.{weight}
use Rattle.drmaa_model.specs.Time.{lasts}
use Rattle.drmaa_model.specs.TimeLaws.{timed}
use Rattle.reservation_calendar.specs.Schedules.{Schedule}
pub use Rattle.plan_book.specs.Owed.{owes, owes_kill, owed, owed_kills}
use Rattle.plan_book.specs.Quiet.{IsQuiet}
use Rattle.plan_book.specs.Ties.{IsTied}
use Rattle.plan_book.specs.declared.book.Book.{Book}
use Rattle.plan_book.specs.declared.moves.Move.{Move}
use Rattle.plan_book.specs.declared.moves.Edit.{Edit}
use Rattle.plan_book.specs.declared.moves.Edit.TheVariants.{Keep, Add, Clear, Take, Drop}

-- The plan of a book. The one place that knows how it is kept.
abbrev pub plan_of : Book → Plan
plan_of b = record {
  total = b.total;
  queues = b.queues;
  moment = b.moment;
  rows = b.rows.items;
  reservations = b.reservations.items;
  orders = b.orders.items;
  changes = b.changes.items;
  next_job = b.next_job;
  next_array = b.next_array;
  next_reservation = b.next_reservation;
}

-- the bookings that it keeps beside it
abbrev pub calendar_of : Book → Schedule
calendar_of b = b.calendar

-- the course of a job once time has come to a moment
abbrev pub course_then : ℕ → Plan → Row → Course
course_then at p row = (timed (max p.moment at) (filter (lasts (max p.moment at)) p.reservations) row).course

pub record HasRoom (b : Book) : Type 0 where
  pub changes : vec_len b.changes + owed b.rows.items ≤ vec_capacity b.changes
  pub orders : vec_len b.orders + owed_kills b.rows.items ≤ vec_capacity b.orders

-- there is memory for one more reservation
abbrev pub HasPlace : Book → Type 0
HasPlace b = vec_len b.reservations < vec_capacity b.reservations

-- how many changes more there is room for
abbrev pub spare : Book → ℕ
spare b = vec_capacity b.changes - (vec_len b.changes + owed b.rows.items)

-- a machine has at most so many queues
abbrev pub HasFewQueues : Plan → Type 0
HasFewQueues p = length p.queues ≤ most_queues

-- what every book keeps
pub record IsBook (b : Book) : Type 0 where
  pub room : HasRoom b
  pub fit : IsFit (plan_of b)
  pub light : weight (plan_of b) ≤ 4_000_000
  pub queues : HasFewQueues (plan_of b)
  pub tied : IsTied b.calendar (plan_of b)
  pub quiet : IsQuiet b.alarm (plan_of b)

-- the order is of this kind and for this job, and was handed out or was not
abbrev pub is_order : JobId → SignalKind → Bool → Order → Bool
is_order job kind taken order = (if taken then order.taken else not order.taken) && (order.job.0 == job.0) && (signal_number order.kind == signal_number kind)

-- what a move does to the orders
abbrev pub edited : Edit → JobId → List Order → List Order
edited Keep job orders = orders
edited (Add kind) job orders = orders ++ orders_for job (Some kind)
edited Clear job orders = orders_without job orders
edited (Take kind) job orders = take_first (is_order job kind false) orders
edited (Drop kind) job orders = drop_first (is_order job kind true) orders

-- one job goes on
abbrev pub moved : ℕ → Move → Plan → Plan
moved entry m p = record (go_on entry m.job m.after p) { orders = edited m.orders m.job p.orders }

-- how many orders more there is room for
abbrev pub spare_orders : Book → ℕ
spare_orders b = vec_capacity b.orders - (vec_len b.orders + owed_kills b.rows.items)

-- a move is of a kept job, from the course that it has
pub record IsMove (p : Plan) (m : Move) : Type 0 where
  pub row : Row
  pub found : row_of m.job p.rows ≡ Some row
  pub home : m.home ≡ row.home
  pub before : m.before ≡ row.course

-- how many changes a move adds
abbrev pub changed : Move → ℕ
changed m = if is_state m.before.state m.after.state then 0 else 1

-- how many orders it adds
abbrev pub added_orders : Edit → ℕ
added_orders Keep = 0
added_orders (Add kind) = 1
added_orders Clear = 0
added_orders (Take kind) = 0
added_orders (Drop kind) = 0

-- how much room it wants beside what is promised
abbrev pub grows : Move → ℕ
grows m = (owes m.after + changed m) - owes m.before

abbrev pub more_orders : Move → ℕ
more_orders m = (owes_kill m.after + added_orders m.orders) - owes_kill m.before

-- Jobs come in, and so many array numbers are used.
abbrev pub joined : List Row → ℕ → Plan → Plan
joined rows arrays p = record p {
  rows = p.rows ++ rows;
  next_job = p.next_job + length rows;
  next_array = p.next_array + arrays;
}
