-- The first moment after another, as it is looked for.
use Rattle.std.specs.Prelude.{ℕ, min, List, Option, Some, None}
use Rattle.std.specs.List.{list_any}
use Rattle.drmaa_model.specs.declared.reservations.Accepted.{Accepted}
use Rattle.drmaa_model.specs.declared.rows.Row.{Row}
use Rattle.drmaa_model.specs.Events.{is_row_event, bounds_at, first_after}

-- the lesser of two moments, where there are any
abbrev pub earlier : Option ℕ → Option ℕ → Option ℕ
earlier None second = second
earlier (Some first) None = Some first
earlier (Some first) (Some second) = Some (min first second)

-- the first event of any of the jobs
abbrev pub first_row_event : ℕ → List Row → Option ℕ
first_row_event after rows = first_after after (λ x. list_any (is_row_event x) rows)

-- the first start or end of any of the reservations
abbrev pub first_bound : ℕ → List Accepted → Option ℕ
first_bound after rs = first_after after (λ x. list_any (bounds_at x) rs)
