use Rattle.session_table.specs.TableView.{sessions_of}
use Rattle.session_table.specs.SessionLaws.{IsSound-destroyed}
use Rattle.session_table.proofs.table.SessionTable.destroy.Goals as goal

pub invariant_of-self : goal.invariant_of-self
invariant_of-self c = simp (c.remove.ensures, c.remove_home.ensures) (IsSound-destroyed (sessions_of c.self.inside) c.in-Some.home c.self.invariant)

pub returns-clause-sound : goal.returns-clause-sound
returns-clause-sound c = simp (c.remove.ensures, c.remove_home.ensures) (IsSound-destroyed (sessions_of c.self.inside) c.in-Some.home c.self.invariant)
