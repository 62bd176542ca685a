-- What a control call wants of the jobs that it acts on.
use Rattle.std.specs.Prelude.{ℕ, Bool, true, false, List, length, filter, if◌then◌else◌}
use Rattle.drmaa_types.specs.declared.states.Control.{Control}
use Rattle.drmaa_types.specs.declared.states.Control.TheVariants.{Suspend, Resume, Hold, Release, Terminate}
use Rattle.drmaa_model.specs.declared.calls.Target.{Target}
use Rattle.drmaa_model.specs.declared.rows.Row.{Row}
use Rattle.drmaa_types.specs.declared.changes.Change.{Change}
use Rattle.drmaa_model.specs.Controlling.{control_step, is_controlled}
use Rattle.drmaa_model.specs.Rows.{change_of}
use Rattle.drmaa_model.specs.Growth.{is_growing}

-- on how many jobs a call acts
abbrev pub acted : Target → Control → List Row → ℕ
acted t what rows = length (filter (is_controlled t what) rows)

-- the room for changes that it wants beside what is promised; a termination uses that of its jobs
abbrev pub growth : Control → ℕ → ℕ
growth what n = if is_growing what then n else 0

-- the call may ask for a signal that was not promised
abbrev pub may_add_order : Control → Bool
may_add_order Suspend = true
may_add_order Resume = true
may_add_order Hold = false
may_add_order Release = false
may_add_order Terminate = true

-- the room for orders that it wants at most
abbrev pub most_orders : Control → ℕ → ℕ
most_orders what n = if may_add_order what then n else 0

-- the change of a job on which it acts, where its state changes
abbrev pub noted : ℕ → ℕ → Target → Control → Row → List Change
noted entry moment t what row = change_of entry row (control_step moment t what row)
