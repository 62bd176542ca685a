use Rattle.std.proofs.Common.{◌≡◌, ◌∙◌, ap, sym, map}
use Rattle.std.specs.Option.{option_map}
use Rattle.session_table.specs.declared.numbers.Meaning.{Meaning}
use Rattle.session_table.specs.Sessions.{meaning_of}
use Rattle.session_table.specs.Tables.{NumberRows}
use Rattle.session_table.proofs.NumberRows.{meaning_of-entries}
use Rattle.session_table.proofs.numbers.ValidNumbers.find.Goals as goal

pub returns-in_err-meaning : goal.returns-in_err-meaning
returns-in_err-meaning c =
    let rows = ap (λ (t : NumberRows). t.rows) c.self.view_is in
    c.from_residual.ensures
    ∙ ap (option_map (λ (m : Meaning). (m.kind, m.home))) (c.in_err-meaning.ensures.value)
    ∙ sym (meaning_of-entries c.args.number c.self.inside.meanings.entries) ∙ ap (meaning_of c.args.number) rows

pub returns : goal.returns
returns c =
    let rows = ap (λ (t : NumberRows). t.rows) c.self.view_is in
    ap (option_map (λ (m : Meaning). (m.kind, m.home))) (c.in_ok-meaning.ensures.value)
    ∙ sym (meaning_of-entries c.args.number c.self.inside.meanings.entries) ∙ ap (meaning_of c.args.number) rows
