use Rattle.std.proofs.Common.{ap, ◌∙◌}
use Rattle.std.proofs.lemmas.Result.{IfErr-weaker, IfOk-weaker}
use Rattle.call_history.specs.Clients.{SeesMore}
use Rattle.call_history.proofs.Turning.{entered, served-both, unserved-both}
use Rattle.call_history.proofs.machines.SharedMachine.call.Goals as goal

pub returns-clause-number : goal.returns-clause-number
returns-clause-number g c = c.serve.ensures.number ∙ ap (λ v. v.number) c.enter-turn.ensures.view

pub returns-clause-ok : goal.returns-clause-ok
returns-clause-ok g c =
    let mid = c.enter-turn.new.pass in
    let old = c.args.client.now in
    let more : SeesMore old mid = entered c.self.inside.lock old mid c.enter-turn.result c.enter-turn.ensures.enters c.enter-turn.ensures.together.seen (ap (λ v. v.mine) c.enter-turn.ensures.view) in
    IfOk-weaker c.serve.result _ _ (λ reply s. served-both old mid c.serve.new.client more (ap (λ v. v.number) c.enter-turn.ensures.view) _ _ c.args.call reply s) c.serve.ensures.ok

pub returns-clause-err : goal.returns-clause-err
returns-clause-err g c =
    let mid = c.enter-turn.new.pass in
    let old = c.args.client.now in
    let more : SeesMore old mid = entered c.self.inside.lock old mid c.enter-turn.result c.enter-turn.ensures.enters c.enter-turn.ensures.together.seen (ap (λ v. v.mine) c.enter-turn.ensures.view) in
    IfErr-weaker c.serve.result _ _ (λ why u. unserved-both old mid c.serve.new.client more (ap (λ v. v.number) c.enter-turn.ensures.view) c.args.self.now.fixed _ _ c.args.call why u) c.serve.ensures.err
