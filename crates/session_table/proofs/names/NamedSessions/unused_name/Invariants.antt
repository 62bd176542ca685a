use Rattle.std.proofs.Common.{◌≡◌, ◌+◌, ◌-◌, ◌≤◌}
use Rattle.session_table.specs.Sessions.{first_free, least_unused, in_use, session_name}
use Rattle.session_table.proofs.names.NamedSessions.unused_name.Given as goal

-- the least number is the first free one of those that are left
abbrev pub invariant-loop-number : goal.invariant-loop-number
invariant-loop-number l =
    first_free (λ n. in_use l.kind (session_name n) l.self.rows) l.number (l.number-end - l.number) ≡ least_unused l.kind l.self.rows
