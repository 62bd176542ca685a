-- the entry of a session number, as a row
use Rattle.std.specs.Prelude.{ℕ}
use Rattle.session_table.specs.Sessions.{ValidNumber}
use Rattle.session_table.specs.declared.numbers.Meaning.{Meaning}

abbrev pub number_row : ℕ × Meaning → ValidNumber
number_row e = record { number = e.0; kind = e.1.kind; home = e.1.home }
