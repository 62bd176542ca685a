use Rattle.std.proofs.Common.{◌≡◌, ◌++◌, map, take, drop}
use Rattle.drmaa_model.specs.declared.rows.Row.{Row}
use Rattle.drmaa_model.specs.Effects.{left_by}
use Rattle.plan_book.proofs.homes.leave_rows.Given as goal

abbrev pub invariant-loop-row : goal.invariant-loop-row
invariant-loop-row l = l.row-items ≡ map (λ (x : Row). record x { home = left_by l.home x.home }) (take l.row-index l.initial.row-items) ++ drop l.row-index l.initial.row-items
