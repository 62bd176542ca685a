use Rattle.std.proofs.Common.{rules, arith}
use Rattle.turn_lock.proofs.Joins.{hires}
use Rattle.turn_lock.proofs.bench.Bench.hire.Goals as goal

pub split_seat-requires : goal.split_seat-requires
split_seat-requires g c = (search rules, omega (arith, c.args.self.now.sized.0), hires g.V.Chronicle.entries g.V.Chronicle.fixed g.V.Chronicle.legal (g.V.Chronicle.fixed c.args.self.now.table.shared.key.value) c.args.seat.now.id c.args.seat.now.me.0 c.requires.kind)
