use Rattle.std.proofs.Common.{◌≡◌, length}
use Rattle.std.specs.List.{All}
use Rattle.turn_lock.specs.Tokens.{BelongsTo, IsFree}
use Rattle.sharing_tests.proofs.turns.open_all.Given as goal

-- no more passes are open than rounds were made, and each holds no turn
abbrev pub invariant-loop-number : goal.invariant-loop-number
invariant-loop-number l = record {
  lock : BelongsTo l.lock l.opener;
  count : length l.opener.view.retired ≡ l._number;
  free : All (IsFree l.lock) l.passes.items;
}
