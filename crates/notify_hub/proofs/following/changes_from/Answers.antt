use Rattle.notify_hub.proofs.Looking.{looks-once}
use Rattle.notify_hub.proofs.following.changes_from.Goals as goal

pub returns-clause-looks : goal.returns-clause-looks
returns-clause-looks g c = looks-once _ _ _ _ _ _ _ c.look-answer.ensures.client c.look-answer.ensures.number c.look-answer.ensures.own c.look-answer.ensures.legal c.look-answer.ensures.answer

pub returns-clause-batch : goal.returns-clause-batch
returns-clause-batch g c = c.batch_in.ensures _ c.look-answer.ensures.answer.told
