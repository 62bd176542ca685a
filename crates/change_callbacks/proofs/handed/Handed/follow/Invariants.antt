use Rattle.std.proofs.Common.{◌≡◌, ◌++◌, take}
use Rattle.change_callbacks.proofs.handed.Handed.follow.Given as goal

abbrev pub invariant-loop-change : goal.invariant-loop-change
invariant-loop-change l = l.self.changes ≡ l.fn.self.changes ++ take l.change-index l.changes
