use Rattle.std.proofs.Common.{◌≡◌, map, ◌++◌}
use Rattle.session_table.specs.Sessions.{names_of}
use Rattle.session_table.specs.NameEntries.{name_row}
use Rattle.session_table.proofs.names.NamedSessions.names.Given as goal

-- with the names of those that are left it is all of them
abbrev pub invariant-loop-naming : goal.invariant-loop-naming
invariant-loop-naming l =
    (goal.iterator-loop-naming).can_next l.naming-iterator ×
    (goal.iterator-loop-naming).is_finite l.naming-iterator ×
    (l.names.items ++ names_of l.kind (map name_row l.naming-iterator) ≡ names_of l.kind l.self.rows)
