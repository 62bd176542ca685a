use Rattle.std.proofs.Common.{◌≡◌, ◌<◌, ℕ, Some, false}
use Rattle.slab.specs.Slab.{get}
use Rattle.attendant.specs.Acts.{is_run}
use Rattle.attendant.specs.declared.reaper.Held.{Held}
use Rattle.attendant.proofs.reaping.find_child.Given as goal

abbrev pub invariant-loop-key : goal.invariant-loop-key
invariant-loop-key g l = (k : ℕ) → k < l.key → (held : Held g.row.T.Denot) → get l.children k ≡ Some held → is_run l.signal.job l.signal.attempt held.job held.attempt ≡ false
