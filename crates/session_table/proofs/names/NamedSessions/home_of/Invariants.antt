use Rattle.std.proofs.Common.{◌≡◌, map}
use Rattle.session_table.specs.Sessions.{home_of}
use Rattle.session_table.specs.NameEntries.{name_row}
use Rattle.session_table.proofs.names.NamedSessions.home_of.Given as goal

-- the session is looked for among those that are left
abbrev pub invariant-loop-home : goal.invariant-loop-home
invariant-loop-home l =
    (goal.iterator-loop-home).can_next l.home-iterator ×
    (goal.iterator-loop-home).is_finite l.home-iterator ×
    (home_of l.kind l.name (map name_row l.home-iterator) ≡ home_of l.kind l.name l.self.rows)
