-- The launch of the next job, and the signal that is delivered next: our profile.
use Rattle.std.specs.Prelude.{ℕ, ◌+◌, Bool, true, false, not, ◌&&◌, List, [], ◌∷◌, find, Option, None, if◌then◌else◌}
use Rattle.std.specs.Option.{option_map, option_map_or}
use Rattle.job_template.specs.Launch.{launch_words}
use Rattle.drmaa_model.specs.declared.courses.Order.{Order}
use Rattle.drmaa_model.specs.declared.courses.Phase.{Phase}
use Rattle.drmaa_model.specs.declared.courses.Phase.TheVariants.{Idle, Launching, Alive}
use Rattle.drmaa_model.specs.declared.replies.Launch.{Launch}
use Rattle.drmaa_model.specs.declared.replies.Signal.{Signal}
use Rattle.drmaa_model.specs.declared.rows.Row.{Row}
use Rattle.drmaa_model.specs.Courses.{planned_end, launched}
use Rattle.drmaa_model.specs.Operation.{Operation}
use Rattle.drmaa_model.specs.NextLaunch.{next_launch}
use Rattle.drmaa_model.specs.Plan.{Plan}
use Rattle.drmaa_model.specs.Rows.{row_of, go_on}

-- ---- launching

abbrev pub launch_of : Row → ℕ → Launch
launch_of row slots = record {
  job = row.job;
  attempt = row.course.attempt + 1;
  slots = slots;
  words = launch_words row.template;
}

abbrev pub launch_row : ℕ → Row → ℕ → Plan → Plan
launch_row entry row slots p = go_on entry row.job (launched p.moment slots (planned_end row.wants p.moment) row.course) p

-- the next job is launched; none where no job is ready
abbrev pub launch : Operation (Option Launch)
launch = record {
  refusal = λ p. None;
  told = λ p. option_map (λ (next : Row × ℕ). launch_of next.0 next.1) (next_launch p);
  effect = λ entry p. option_map_or (λ (next : Row × ℕ). launch_row entry next.0 next.1 p) (next_launch p) p;
}

-- ---- signals

abbrev pub is_alive : Phase → Bool
is_alive Idle = false
is_alive Launching = false
is_alive Alive = true

-- the order is not taken, and the process that it is for is there
abbrev pub is_due_now : List Row → Order → Bool
is_due_now rows order = not order.taken && option_map_or (λ (row : Row). is_alive row.course.phase) (row_of order.job rows) false

-- the first order that can be delivered, in order of asking
abbrev pub next_signal : Plan → Option Order
next_signal p = find (is_due_now p.rows) p.orders

-- how often a job was launched
abbrev pub attempt_of : Plan → Order → ℕ
attempt_of p order = option_map_or (λ (row : Row). row.course.attempt) (row_of order.job p.rows) 0

abbrev pub signal_of : Plan → Order → Signal
signal_of p order = record { job = order.job; attempt = attempt_of p order; kind = order.kind }

-- the first one that meets the test is taken
abbrev pub take_first : (Order → Bool) → List Order → List Order
take_first test [] = []
take_first test (order ∷ orders) = if test order then record order { taken = true } ∷ orders else order ∷ take_first test orders

abbrev pub signal : Operation (Option Signal)
signal = record {
  refusal = λ p. None;
  told = λ p. option_map (signal_of p) (next_signal p);
  effect = λ entry p. record p { orders = take_first (is_due_now p.rows) p.orders };
}
