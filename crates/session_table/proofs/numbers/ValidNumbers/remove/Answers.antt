use Rattle.std.proofs.Common.{◌≡◌, ◌∙◌, ap, sym, map, filter, not, ◌==◌, is_some}
use Rattle.session_table.specs.Sessions.{ValidNumber, meaning_of}
use Rattle.session_table.specs.Tables.{NumberRows}
use Rattle.session_table.specs.NumberEntries.{number_row}
use Rattle.session_table.proofs.NumberRows.{is_some-meaning_of, remove-rows}
use Rattle.session_table.proofs.numbers.ValidNumbers.remove.Goals as goal

pub returns-clause-found : goal.returns-clause-found
returns-clause-found c =
    let rows = ap (λ (t : NumberRows). t.rows) c.self.view_is in
    c.is_some.ensures ∙ ap is_some c.shift_remove.ensures.value
    ∙ sym (is_some-meaning_of c.args.number c.self.inside.meanings.entries) ∙ ap (λ rs. is_some (meaning_of c.args.number rs)) rows

pub returns-clause-rows : goal.returns-clause-rows
returns-clause-rows c =
    let rows = ap (λ (t : NumberRows). t.rows) c.self.view_is in
    ap (map number_row) c.shift_remove.ensures.entries
    ∙ remove-rows c.args.number c.self.inside.meanings.entries c.self.invariant
    ∙ ap (filter (λ (v : ValidNumber). not (c.args.number == v.number))) rows
