use Rattle.std.proofs.Common.{◌≡◌, ◌∙◌, ap, sym, subst, refl}
use Rattle.session_table.specs.Sessions.{Sessions, IsSound, NamedSession, ValidNumber}
use Rattle.session_table.specs.SessionLaws.{IsSound-opening}
use Rattle.session_table.proofs.table.SessionTable.new.Goals as goal

pub invariant_of-result : goal.invariant_of-result
invariant_of-result c = simp (c.new.ensures, c.new-2.ensures) IsSound-opening

pub returns-clause-sound : goal.returns-clause-sound
returns-clause-sound c = simp (c.new.ensures, c.new-2.ensures) IsSound-opening
