use Rattle.std.proofs.Common.{rules, arith}
use Rattle.turn_lock.proofs.Serving.{raises}
use Rattle.turn_lock.proofs.bench.Bench.raise.Goals as goal

pub fetch_add-requires : goal.fetch_add-requires
fetch_add-requires g c = (search rules, omega (arith, c.args.self.now.sized.0), raises g.V.Chronicle.entries g.V.Chronicle.fixed g.V.Chronicle.legal (g.V.Chronicle.fixed c.args.self.now.table.shared.key.value) c.args.self.now.table.shared.table_id.slots c.args.seat.now.id c.args.seat.now.me c.requires.seat.1.0 c.requires.adds.0 c.requires.seat.0 c.requires.seat.1.1 c.requires.adds.1 c.requires.adds.2 c.requires.short c.requires.legal)
