-- what the table is seen as
use Rattle.session_table.specs.Sessions.{Sessions}
use Rattle.session_table.specs.declared.table.SessionTable.TheInside.{Inside}

abbrev pub sessions_of : Inside → Sessions
sessions_of t = record { named = t.named.rows; valid = t.valid.rows; next_session = t.next_session; next_home = t.next_home }
