use Rattle.std.proofs.Common.{ap}
use Rattle.call_history.specs.Clients.{SeesMore}
use Rattle.call_history.proofs.Turning.{entered, served-both, unserved-both}
use Rattle.call_history.proofs.machines.SharedMachine.call_numbered.Goals as goal

pub returns-in-Ok-clause-ok : goal.returns-in-Ok-clause-ok
returns-in-Ok-clause-ok g c =
    let mid = c.enter-turn.new.pass in
    let old = c.args.client.now in
    let more : SeesMore old mid = entered c.self.inside.lock old mid c.enter-turn.result c.enter-turn.ensures.enters c.enter-turn.ensures.together.seen (ap (λ v. v.mine) c.enter-turn.ensures.view) in
    served-both old mid c.serve.new.client more (ap (λ v. v.number) c.enter-turn.ensures.view) _ _ c.args.call c.in-Ok.reply c.in-Ok.ensures.ok

pub returns-in-Err-clause-err : goal.returns-in-Err-clause-err
returns-in-Err-clause-err g c =
    let mid = c.enter-turn.new.pass in
    let old = c.args.client.now in
    let more : SeesMore old mid = entered c.self.inside.lock old mid c.enter-turn.result c.enter-turn.ensures.enters c.enter-turn.ensures.together.seen (ap (λ v. v.mine) c.enter-turn.ensures.view) in
    unserved-both old mid c.serve.new.client more (ap (λ v. v.number) c.enter-turn.ensures.view) c.args.self.now.fixed _ _ c.args.call c.in-Err.why c.in-Err.ensures.err
