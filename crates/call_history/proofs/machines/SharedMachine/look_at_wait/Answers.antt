use Rattle.std.proofs.Common.{ap}
use Rattle.call_history.specs.Clients.{SeesMore}
use Rattle.call_history.proofs.Turning.{entered, look-both}
use Rattle.call_history.proofs.machines.SharedMachine.look_at_wait.Goals as goal

pub returns-clause-look : goal.returns-clause-look
returns-clause-look g c =
    let mid = c.enter-turn.new.pass in
    let old = c.args.client.now in
    let more : SeesMore old mid = entered c.self.inside.lock old mid c.enter-turn.result c.enter-turn.ensures.enters c.enter-turn.ensures.together.seen (ap (λ v. v.mine) c.enter-turn.ensures.view) in
    look-both c.args.self.now.fixed _ old mid c.args.awaited _ c.look_in_turn.new.client c.look_in_turn.result more (ap (λ v. v.number) c.enter-turn.ensures.view) c.look_in_turn.ensures.look
