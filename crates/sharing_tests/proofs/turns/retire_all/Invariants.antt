use Rattle.std.specs.List.{All}
use Rattle.turn_lock.specs.Tokens.{BelongsTo, IsFree}
use Rattle.sharing_tests.proofs.turns.retire_all.Given as goal

abbrev pub invariant-loop : goal.invariant-loop
invariant-loop l = record {
  lock : BelongsTo l.lock l.opener;
  free : All (IsFree l.lock) l.passes.items;
}
