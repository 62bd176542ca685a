use Rattle.std.proofs.Common.{◌≡◌, ◌∙◌, ap, sym}
use Rattle.std.specs.Option.{option_map}
use Rattle.session_table.specs.declared.names.Naming.{Naming}
use Rattle.session_table.specs.Sessions.{name_of}
use Rattle.session_table.specs.Tables.{NamedRows}
use Rattle.session_table.proofs.NameRows.{name_of-entries}
use Rattle.session_table.proofs.names.NamedSessions.name.Goals as goal

pub returns-in-Some : goal.returns-in-Some
returns-in-Some c =
    let rows = ap (λ (t : NamedRows). t.rows) c.self.view_is in
    ap (option_map (λ (n : Naming). n.name)) c.in-Some.ensures.value
    ∙ sym (name_of-entries c.args.home c.self.inside.namings.entries) ∙ ap (name_of c.args.home) rows

pub returns-in-None : goal.returns-in-None
returns-in-None c =
    let rows = ap (λ (t : NamedRows). t.rows) c.self.view_is in
    ap (option_map (λ (n : Naming). n.name)) c.in-None.ensures.value
    ∙ sym (name_of-entries c.args.home c.self.inside.namings.entries) ∙ ap (name_of c.args.home) rows
