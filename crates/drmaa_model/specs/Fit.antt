-- What is true of every plan that a legal history leads to: our profile.
use Rattle.drmaa_model.specs.Load.{load, booked, in_reservation, in_queue, in_array}
use Rattle.drmaa_types.specs.Moments.{greatest}
use Rattle.drmaa_types.specs.Queues.{queue_at}
use Rattle.drmaa_types.specs.declared.queues.QueueSpec.{QueueSpec}
use Rattle.drmaa_model.specs.declared.reservations.Accepted.{Accepted}
use Rattle.drmaa_types.specs.declared.identifiers.ArrayId.{ArrayId}
use Rattle.std.specs.Prelude.{◌≡◌, ◌≢◌, ℕ, ◌<◌, ◌≤◌, true, false, List, [], ◌∷◌, length, Some, None, IfSome, IsSome}
use Rattle.std.specs.Option.{option_map_or}
use Rattle.std.specs.List.{AllByRecursion}
use Rattle.drmaa_types.specs.States.{is_started, is_waiting}
use Rattle.drmaa_types.specs.declared.identifiers.ReservationId.{ReservationId}
use Rattle.drmaa_types.specs.declared.states.JobState.TheVariants.{Undetermined}
use Rattle.drmaa_model.specs.declared.courses.Course.{Course}
use Rattle.drmaa_model.specs.declared.courses.Order.{Order}
use Rattle.drmaa_model.specs.declared.courses.Phase.TheVariants.{Idle}
use Rattle.drmaa_model.specs.declared.courses.Kill.TheVariants as kill
use Rattle.drmaa_model.specs.declared.rows.Row.{Row}
use Rattle.drmaa_model.specs.declared.rows.Wants.{Wants}
use Rattle.drmaa_model.specs.Launching.{is_alive}
use Rattle.drmaa_model.specs.Plan.{Plan}
use Rattle.drmaa_model.specs.Rows.{row_of}
use Rattle.drmaa_model.specs.NextLaunch.{held}

-- the numbers rise
abbrev pub IsRising : {X : Type 0} → (X → ℕ) → List X → Type 0
IsRising number [] = Unit {0}
IsRising number (x ∷ xs) = AllByRecursion (λ y. number x < number y) xs × IsRising number xs

-- The numbers rise, so that no two are alike, and each is below the next one.
pub record AreNumbered {X : Type 0} (number : X → ℕ) (next : ℕ) (xs : List X) : Type 0 where
  pub rising : IsRising number xs
  pub below : AllByRecursion (λ x. number x < next) xs

abbrev pub number_of : Row → ℕ
number_of row = row.job.0

-- A job is sound: what it asks for has a meaning, and its phase, slots and planned end go with its state.
pub record IsSound (wants : Wants) (course : Course) : Type 0 where
  pub least : 1 ≤ wants.min
  pub range : wants.min ≤ wants.max
  pub known : course.state ≢ Undetermined
  -- a job that is not started holds nothing
  pub idle : is_started course.state ≡ false → (course.phase ≡ Idle) × (course.held ≡ 0)
  -- a started one has a process, and holds a number of slots that it asked for
  pub started : is_started course.state ≡ true → (course.phase ≢ Idle) × (wants.min ≤ course.held) × (course.held ≤ wants.max)
  -- the planned end is set exactly while it is started
  pub planned : is_started course.state ≡ true → IsSome course.planned
  pub unplanned : is_started course.state ≡ false → course.planned ≡ None
  -- no kill is asked of a job that waits
  pub spared : is_waiting course.state ≡ true → course.kill ≡ kill.No
  -- a limit of time is not 0
  pub limit : IfSome wants.limit (λ (seconds : ℕ). 1 ≤ seconds)

-- an order's job is started, and a taken order's job is Alive
pub record IsFor (rows : List Row) (order : Order) : Type 0 where
  pub started : option_map_or (λ (row : Row). is_started row.course.state) (row_of order.job rows) false ≡ true
  pub alive : order.taken ≡ true → option_map_or (λ (row : Row). is_alive row.course.phase) (row_of order.job rows) false ≡ true

abbrev pub reservation_number : Accepted → ℕ
reservation_number a = a.reservation.0

-- no more members than the bound hold slots in the array of a job
abbrev pub IsBound : List Row → Row → Type 0
IsBound rows row = IfSome row.wants.bound (λ (bound : ℕ). IfSome row.wants.array (λ (array : ArrayId). in_array array rows ≤ bound))

-- members of one array have one bound
abbrev pub IsAlike : Row → Row → Type 0
IsAlike row other = (array : ArrayId) → row.wants.array ≡ Some array → other.wants.array ≡ Some array → row.wants.bound ≡ other.wants.bound

-- when a job was last launched
abbrev pub launched_at : Course → ℕ
launched_at course = option_map_or (λ (moment : ℕ). moment) course.dispatched 0

pub record IsFit (p : Plan) : Type 0 where
  -- started jobs fit the slots
  pub within : held p.rows ≤ p.total
  pub sound : AllByRecursion (λ (row : Row). IsSound row.wants row.course) p.rows
  pub jobs : AreNumbered number_of p.next_job p.rows
  -- a job names no reservation that is yet to come
  pub reserved : AllByRecursion (λ (row : Row). IfSome row.wants.reservation (λ (r : ReservationId). r.0 < p.next_reservation)) p.rows
  -- nor is it a member of an array that is yet to come
  pub arrays : AllByRecursion (λ (row : Row). IfSome row.wants.array (λ (a : ArrayId). a.0 < p.next_array)) p.rows
  -- each launch is a change
  pub attempts : AllByRecursion (λ (row : Row). row.course.attempt ≤ length p.changes) p.rows
  pub asked : AllByRecursion (IsFor p.rows) p.orders
  -- what is taken from now on fits the slots at every moment
  pub loads : (x : ℕ) → p.moment ≤ x → x ≤ greatest → load p x ≤ p.total
  -- the accepted reservations fit the slots at every moment
  pub books : (x : ℕ) → x ≤ greatest → booked p.reservations x ≤ p.total
  -- the jobs that name a reservation hold no more than it has
  pub inside : AllByRecursion (λ (a : Accepted). in_reservation a.reservation p.rows ≤ a.slots) p.reservations
  -- the ordinary jobs of a queue hold no more than its limit
  pub queued : (place : ℕ) → IfSome (queue_at place p.queues) (λ (queue : QueueSpec). in_queue place p.rows ≤ queue.limit)
  pub bounds : AllByRecursion (IsBound p.rows) p.rows
  pub alike : AllByRecursion (λ (row : Row). AllByRecursion (IsAlike row) p.rows) p.rows
  pub accepted : AreNumbered reservation_number p.next_reservation p.reservations
  -- no job was launched later than now
  pub dispatched : AllByRecursion (λ (row : Row). launched_at row.course ≤ p.moment) p.rows
