use Rattle.std.proofs.Common.{◌≡◌, ◌≤◌}
use Rattle.turn_lock.proofs.bench.Bench.wait_turn.Given as goal

abbrev pub invariant-loop : goal.invariant-loop
invariant-loop g l =
    (l.seat.table_id ≡ l.fn.seat.table_id) × (l.seat.me.1 ≡ l.fn.seat.me.1) × (l.seat.me.0 ≡ record l.fn.seat.me.0 { low = l.seat.me.0.low; looks = l.seat.me.0.looks })
    × (l.fn.seat.me.0.low ≤ l.seat.me.0.low) × (l.fn.seat.me.0.looks ≤ l.seat.me.0.looks)
