use Rattle.std.proofs.Common.{rules, arith}
use Rattle.turn_lock.proofs.Joins.{retires}
use Rattle.turn_lock.proofs.bench.Bench.retire.Goals as goal

pub join_seat-requires : goal.join_seat-requires
join_seat-requires g c = (search rules, search rules, c.requires.pass.2, omega (arith, c.args.self.now.sized.0), retires g.V.Chronicle.entries g.V.Chronicle.fixed g.V.Chronicle.legal (g.V.Chronicle.fixed c.args.self.now.table.shared.key.value) c.args.seat.now.id c.args.seat.now.me.0 c.args.pass.id c.args.pass.me.0 c.requires.seat c.requires.pass.0 c.requires.pass.1)
