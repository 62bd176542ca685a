use Rattle.std.proofs.Common.{◌≡◌, map, filter, drop}
use Rattle.std.specs.Option.{option_copied, option_map}
use Rattle.drmaa_model.specs.NextLaunch.{best_of}
use Rattle.plan_book.specs.Blocks.{rows_in}
use Rattle.plan_book.specs.Book.{plan_of}
use Rattle.scheduler_core.specs.Demands.{IsUnmet}
use Rattle.scheduler_core.specs.Launches.{seen_row, may_launch}
use Rattle.scheduler_core.specs.Sums.{IsKnown}
use Rattle.scheduler_core.specs.Firsts.{first_of}
use Rattle.scheduler_core.proofs.ready.first_ready_at.Given as goal

abbrev pub invariant-loop-block : goal.invariant-loop-block
invariant-loop-block l =
    let p = plan_of l.book in
    let at = seen_row l.moment p in
    let test = may_launch l.moment p in
    (first_of (option_map at (option_copied l.best)) (best_of (filter test (map at (rows_in (drop l.block-index l.block-items))))) ≡ best_of (filter test (map at (rows_in l.block-items))))
    × IsKnown p.rows l.known × IsUnmet l.moment p l.unmet
