use Rattle.std.proofs.Common.{◌≡◌, ◌++◌, List, map, filter, drop}
use Rattle.std.specs.Option.{option_copied, option_map}
use Rattle.drmaa_model.specs.declared.rows.Row.{Row}
use Rattle.drmaa_model.specs.NextLaunch.{best_of}
use Rattle.plan_book.specs.Book.{plan_of}
use Rattle.scheduler_core.specs.Demands.{IsUnmet}
use Rattle.scheduler_core.specs.Firsts.{first_of}
use Rattle.scheduler_core.specs.Launches.{seen_row, may_launch}
use Rattle.scheduler_core.specs.Sums.{IsKnown}
use Rattle.scheduler_core.proofs.ready.best_among.Given as goal

-- whatever jobs come behind them
abbrev pub invariant-loop-row : goal.invariant-loop-row
invariant-loop-row l =
    let p = plan_of l.book in
    let at = seen_row l.moment p in
    let test = may_launch l.moment p in
    ((rest : List Row) → first_of (option_map at (option_copied l.best)) (best_of (filter test (map at (drop l.row-index l.rows ++ rest))))
    ≡ first_of (option_map at (option_copied l.before)) (best_of (filter test (map at (l.rows ++ rest)))))
    × IsKnown p.rows l.known × IsUnmet l.moment p l.unmet
