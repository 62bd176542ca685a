use Rattle.call_history.proofs.Tellings.{own-told}
use Rattle.call_history.proofs.machines.SharedMachine.note.Goals as goal

pub returns-clause-own : goal.returns-clause-own
returns-clause-own c = let v = c.note.new.pass.view in own-told v.seen v.mine v.number c.note.ensures.own
