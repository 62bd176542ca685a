use Rattle.std.proofs.Common.{ap}
use Rattle.call_history.proofs.Turning.{entered, looked-both}
use Rattle.call_history.proofs.machines.SharedMachine.look.Goals as goal

pub returns-clause-answer : goal.returns-clause-answer
returns-clause-answer g c =
    let mid = c.enter-turn.new.pass in
    let old = c.args.client.now in
    looked-both old mid c.look_in.new.client
    (entered c.self.inside.lock old mid c.enter-turn.result c.enter-turn.ensures.enters c.enter-turn.ensures.together.seen (ap (λ v. v.mine) c.enter-turn.ensures.view))
    (ap (λ v. v.number) c.enter-turn.ensures.view) c.args.self.now.fixed _ _ c.args.question c.look_in.result c.look_in.ensures.answer
