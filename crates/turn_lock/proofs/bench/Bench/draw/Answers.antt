use Rattle.std.proofs.Common.{rules, arith}
use Rattle.turn_lock.proofs.Tickets.{draws}
use Rattle.turn_lock.proofs.bench.Bench.draw.Goals as goal

pub compare_exchange-requires : goal.compare_exchange-requires
compare_exchange-requires g c = (search rules, omega (arith, c.args.self.now.sized.0), draws g.V.Chronicle.entries g.V.Chronicle.fixed g.V.Chronicle.legal (g.V.Chronicle.fixed c.args.self.now.table.shared.key.value) c.args.self.now.table.shared.table_id.slots c.args.seat.now.id c.args.seat.now.me c.args.ticket c.requires.seat.0 c.requires.seat.1 c.requires.room)
