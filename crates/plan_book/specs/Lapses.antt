-- What time adds for one job once it has come to its moment: our profile.
use Rattle.std.specs.Prelude.{ℕ, List, [], ◌∷◌, if◌then◌else◌}
use Rattle.drmaa_types.specs.declared.changes.Change.{Change}
use Rattle.drmaa_model.specs.declared.courses.Order.{Order}
use Rattle.drmaa_model.specs.declared.reservations.Accepted.{Accepted}
use Rattle.drmaa_model.specs.declared.rows.Row.{Row}
use Rattle.drmaa_model.specs.Time.{lapses, lapsed, is_due, kill_order}
use Rattle.drmaa_model.specs.TimeLaws.{expiry}

-- the change of a waiting job whose time is over
abbrev pub ends : ℕ → ℕ → List Accepted → Row → List Change
ends entry moment rs row = if lapses moment rs row then expiry entry row ∷ [] else []

-- the order for a started job whose time is over
abbrev pub kills : ℕ → List Accepted → Row → List Order
kills moment rs row = if is_due moment rs row then kill_order row ∷ [] else []

-- that order, after the waiting jobs have ended
abbrev pub kills_then : ℕ → List Accepted → Row → List Order
kills_then moment rs row = kills moment rs (lapsed moment rs row)
