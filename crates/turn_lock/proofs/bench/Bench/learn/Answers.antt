use Rattle.std.proofs.Common.{rules, arith}
use Rattle.turn_lock.proofs.Joins.{learns}
use Rattle.turn_lock.proofs.bench.Bench.learn.Goals as goal

pub join_seat-requires : goal.join_seat-requires
join_seat-requires g c = (search rules, search rules, c.requires.note.1, omega (arith, c.args.self.now.sized.0), learns g.V.Chronicle.entries g.V.Chronicle.fixed g.V.Chronicle.legal (g.V.Chronicle.fixed c.args.self.now.table.shared.key.value) c.args.seat.now.id c.args.seat.now.me.0 c.args.note.id c.args.note.me.0 c.requires.seat.0 c.requires.seat.1 c.requires.note.0)
