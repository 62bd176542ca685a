-- What jobs may still add with no memory: our profile.
use Rattle.std.specs.Prelude.{ℕ, ◌&&◌, List, sum_by, if◌then◌else◌}
use Rattle.drmaa_types.specs.States.{is_waiting, is_started}
use Rattle.drmaa_model.specs.declared.courses.Course.{Course}
use Rattle.drmaa_model.specs.declared.courses.Phase.{Phase}
use Rattle.drmaa_model.specs.declared.courses.Phase.TheVariants.{Idle, Launching, Alive}
use Rattle.drmaa_model.specs.declared.rows.Row.{Row}
use Rattle.drmaa_model.specs.Courses.{is_unasked}

-- The changes that a job may still make with no memory: to its end, or to the queue and then to its end.
abbrev pub owes : Course → ℕ
owes course = if is_waiting course.state then 1 else if is_started course.state then 2 else 0

-- the order that time may ask
abbrev pub owes_kill : Course → ℕ
owes_kill course = if is_started course.state && is_unasked course.kill then 1 else 0

abbrev pub owed : List Row → ℕ
owed rows = sum_by (λ (row : Row). owes row.course) rows

abbrev pub owed_kills : List Row → ℕ
owed_kills rows = sum_by (λ (row : Row). owes_kill row.course) rows

-- the reports of a start and an end that the process of a job in this phase may still bring
abbrev pub reports_due : Phase → ℕ
reports_due Idle = 0
reports_due Launching = 2
reports_due Alive = 1

abbrev pub reports_to_come : List Row → ℕ
reports_to_come rows = sum_by (λ (row : Row). reports_due row.course.phase) rows
