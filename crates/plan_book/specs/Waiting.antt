-- Jobs that wait to be launched.
use Rattle.std.specs.Prelude.{◌≡◌, true, List}
use Rattle.std.specs.List.{AllByRecursion}
use Rattle.drmaa_types.specs.States.{is_waiting}
use Rattle.drmaa_model.specs.declared.rows.Row.{Row}

abbrev pub AreWaiting : List Row → Type 0
AreWaiting rows = AllByRecursion (λ (row : Row). is_waiting row.course.state ≡ true) rows
