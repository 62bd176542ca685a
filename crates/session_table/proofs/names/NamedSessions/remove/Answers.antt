use Rattle.std.proofs.Common.{◌≡◌, ◌∙◌, ap, map, filter, not, ◌==◌}
use Rattle.session_table.specs.Sessions.{NamedSession}
use Rattle.session_table.specs.Tables.{NamedRows}
use Rattle.session_table.specs.NameEntries.{name_row}
use Rattle.session_table.proofs.NameRows.{remove-rows}
use Rattle.session_table.proofs.names.NamedSessions.remove.Goals as goal

pub returns : goal.returns
returns c =
    let rows = ap (λ (t : NamedRows). t.rows) c.self.view_is in
    ap (map name_row) c.shift_remove.ensures.entries
    ∙ remove-rows c.args.home c.self.inside.namings.entries c.self.invariant
    ∙ ap (filter (λ (n : NamedSession). not (c.args.home == n.home))) rows
