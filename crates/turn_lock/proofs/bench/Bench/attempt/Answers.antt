use Rattle.std.proofs.Common.{rules, arith}
use Rattle.turn_lock.proofs.Tickets.{tries}
use Rattle.turn_lock.proofs.bench.Bench.attempt.Goals as goal

pub compare_exchange-requires : goal.compare_exchange-requires
compare_exchange-requires g c = (search rules, omega (arith, c.args.self.now.sized.0), tries g.V.Chronicle.entries g.V.Chronicle.fixed g.V.Chronicle.legal (g.V.Chronicle.fixed c.args.self.now.table.shared.key.value) c.args.self.now.table.shared.table_id.slots c.args.seat.now.id c.args.seat.now.me c.args.ticket c.requires.seat.0 c.requires.seat.1 c.requires.low c.requires.room)
