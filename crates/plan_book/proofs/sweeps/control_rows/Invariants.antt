use Rattle.std.proofs.Common.{◌≡◌, ◌++◌, map, take, drop}
use Rattle.drmaa_model.specs.Controlling.{control_step}
use Rattle.plan_book.proofs.sweeps.control_rows.Given as goal

abbrev pub invariant-loop-row : goal.invariant-loop-row
invariant-loop-row l = l.rows ≡ map (control_step l.moment l.target l.what) (take l.row-index l.initial.rows) ++ drop l.row-index l.initial.rows
