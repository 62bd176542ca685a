use Rattle.std.proofs.lemmas.Result.{IfOk-weaker}
use Rattle.call_history.proofs.Turning.{unserved-now, err-three}
use Rattle.call_history.proofs.machines.SharedMachine.serve.Goals as goal

pub returns-clause-ok : goal.returns-clause-ok
returns-clause-ok g c = IfOk-weaker c.act_at.result _ _ (λ reply made. record {
  at = c.now-at.result;
  read = record { told = c.now-at.ensures.given; least = c.now-at.ensures.least; rising = c.now-at.ensures.rising };
  made = made;
}) c.act_at.ensures.ok

pub returns-clause-err : goal.returns-clause-err
returns-clause-err g c = err-three c.act_at.result _ _ _ _ c.act_at.ensures.err c.act_at.ensures.same c.act_at.ensures.fails (λ why more seen reason.
    unserved-now c.args.self.now.fixed _ c.args.client.now c.args.call why _ c.act_at.new.client c.now-at.result c.args.turn.value.ledger
    (record { told = c.now-at.ensures.given; least = c.now-at.ensures.least; rising = c.now-at.ensures.rising }) c.requires.fixed_is seen more reason)
