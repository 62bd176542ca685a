use Rattle.std.proofs.Common.{◌≡◌, ◌∙◌, ap, sym, map, ◌++◌, ◌∷◌, []}
use Rattle.session_table.specs.Sessions.{NamedSession, name_of}
use Rattle.session_table.specs.Tables.{NamedRows}
use Rattle.session_table.specs.NameEntries.{name_row}
use Rattle.session_table.proofs.NameRows.{insert-rows}
use Rattle.session_table.proofs.names.NamedSessions.add.Goals as goal

pub returns : goal.returns
returns c =
    let rows = ap (λ (t : NamedRows). t.rows) c.self.view_is in
    let entries = rw c.unwrap.ensures at c.insert-added.ensures.entries in
    ap (map name_row) entries
    ∙ insert-rows c.self.inside.namings c.args.home _ (ap (name_of c.args.home) rows ∙ c.requires.absent)
    ∙ ap (λ rs. rs ++ record { home = c.args.home; kind = c.args.kind; name = c.args.name } ∷ []) rows
