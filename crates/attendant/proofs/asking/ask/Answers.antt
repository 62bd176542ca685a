use Rattle.std.proofs.Common.{ap}
use Rattle.std.proofs.lemmas.Result.{IfOk-weaker, IfErr-weaker}
use Rattle.attendant.specs.Acts.{acts_of}
use Rattle.attendant.proofs.Desks.{answers, still-call}
use Rattle.attendant.proofs.asking.ask.Goals as goal

pub returns-clause-desk : goal.returns-clause-desk
returns-clause-desk g c = still-call _ _ _ c.args.call c.call.result c.call.ensures.shared c.call.ensures.client c.call.ensures.number c.call.ensures.own c.call.ensures.legal c.call.ensures.ok c.call.ensures.err

pub returns-clause-ok : goal.returns-clause-ok
returns-clause-ok g c = IfOk-weaker c.call.result _ _ (λ reply s. answers _ _ _ s.at c.args.call reply s.made c.call.ensures.number c.call.ensures.own c.call.ensures.legal) c.call.ensures.ok

pub returns-clause-err : goal.returns-clause-err
returns-clause-err g c = IfErr-weaker c.call.result _ _ (λ fault u. (ap acts_of u.more.mine, u)) c.call.ensures.err
