-- the entry of a home, as a row
use Rattle.std.specs.Prelude.{ℕ}
use Rattle.session_table.specs.Sessions.{NamedSession}
use Rattle.session_table.specs.declared.names.Naming.{Naming}

abbrev pub name_row : ℕ × Naming → NamedSession
name_row e = record { home = e.0; kind = e.1.kind; name = e.1.name }
