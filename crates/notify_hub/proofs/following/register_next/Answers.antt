use Rattle.notify_hub.proofs.Registrations.{ok-told, told-new, told-none, begins-made-so, timed-made-so}
use Rattle.notify_hub.proofs.following.register_next.Goals as goal

pub returns-clause-begins : goal.returns-clause-begins
returns-clause-begins g c = begins-made-so c.args.shared.now.fixed _ _ _ _ c.call_numbered.result c.call_numbered.ensures.ok c.call_numbered.ensures.err

pub returns-clause-ok : goal.returns-clause-ok
returns-clause-ok g c = ok-told c.call_numbered.result c.told.result _ c.told.ensures.ok c.call_numbered.ensures.ok

pub returns-clause-entry : goal.returns-clause-entry
returns-clause-entry g c = ok-told c.call_numbered.result c.told.result _ c.told.ensures.ok c.call_numbered.ensures.numbered

pub returns-clause-new : goal.returns-clause-new
returns-clause-new g c = told-new c.args.shared.now.fixed _ _ _ _ c.told.result c.call_numbered.ensures.legal (returns-clause-ok g c)

pub returns-clause-err : goal.returns-clause-err
returns-clause-err g c = told-none c.args.shared.now.fixed _ _ _ _ c.call_numbered.result c.told.result c.call_numbered.ensures.legal c.call_numbered.ensures.ok c.call_numbered.ensures.err c.told.ensures.err

pub returns-clause-timed : goal.returns-clause-timed
returns-clause-timed g c = timed-made-so c.args.shared.now.fixed _ _ _ _ c.call_numbered.result c.call_numbered.ensures.ok c.call_numbered.ensures.err
