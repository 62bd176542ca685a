use Rattle.std.proofs.Common.{rules, arith}
use Rattle.turn_lock.proofs.Serving.{serves}
use Rattle.turn_lock.proofs.bench.Bench.serve.Goals as goal

pub fetch_add-requires : goal.fetch_add-requires
fetch_add-requires g c = let step = c.step_after-step.ensures in (search rules, omega (arith, c.args.self.now.sized.0), serves g.V.Chronicle.entries g.V.Chronicle.fixed g.V.Chronicle.legal (g.V.Chronicle.fixed c.args.self.now.table.shared.key.value) c.args.self.now.table.shared.table_id.slots c.args.seat.now.id c.args.seat.now.me c.args.ticket c.step_after-step.result c.requires.hand.0 c.requires.seat.0 c.requires.seat.1 c.requires.hand.1 c.requires.hand.2 c.requires.hand.3 step.last step.other)
