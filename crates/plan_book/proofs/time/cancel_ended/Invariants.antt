use Rattle.std.proofs.Common.{◌≡◌, drop}
use Rattle.plan_book.specs.Ties.{let_go_of}
use Rattle.plan_book.proofs.time.cancel_ended.Given as goal

abbrev pub invariant-loop-r : goal.invariant-loop-r
invariant-loop-r l = let_go_of l.moment (drop l.r-index l.r-items) l.calendar ≡ let_go_of l.moment l.r-items l.fn.calendar
