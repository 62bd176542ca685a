use Rattle.session_table.specs.TableView.{sessions_of}
use Rattle.session_table.specs.SessionLaws.{IsSound-closed}
use Rattle.session_table.proofs.table.SessionTable.close.Goals as goal

pub invariant_of-self : goal.invariant_of-self
invariant_of-self c = simp (c.remove.ensures.rows) (IsSound-closed (sessions_of c.self.inside) c.args.session.0 c.self.invariant)

pub returns-clause-sound : goal.returns-clause-sound
returns-clause-sound c = simp (c.remove.ensures.rows) (IsSound-closed (sessions_of c.self.inside) c.args.session.0 c.self.invariant)
