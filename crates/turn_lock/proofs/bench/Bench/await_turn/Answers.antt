use Rattle.std.proofs.Common.{rules, arith}
use Rattle.turn_lock.proofs.Tickets.{awaits}
use Rattle.turn_lock.proofs.bench.Bench.await_turn.Goals as goal

pub load-requires : goal.load-requires
load-requires g c = (search rules, omega (arith, c.args.self.now.sized.0), awaits g.V.Chronicle.entries g.V.Chronicle.fixed g.V.Chronicle.legal (g.V.Chronicle.fixed c.args.self.now.table.shared.key.value) c.args.self.now.table.shared.table_id.slots c.args.seat.now.id c.args.seat.now.me c.args.ticket c.requires.seat.0 c.requires.seat.1)
