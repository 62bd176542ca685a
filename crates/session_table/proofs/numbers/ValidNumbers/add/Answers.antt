use Rattle.std.proofs.Common.{◌≡◌, ◌∙◌, ap, sym, map, ◌++◌, ◌∷◌, [], Option, None, nat_eq}
use Rattle.session_table.specs.Sessions.{ValidNumber, meaning_of}
use Rattle.session_table.specs.Tables.{NumberRows}
use Rattle.session_table.specs.NumberEntries.{number_row}
use Rattle.session_table.proofs.NumberRows.{insert-rows}
use Rattle.session_table.proofs.numbers.ValidNumbers.add.Goals as goal

pub returns : goal.returns
returns c =
    let rows = ap (λ (t : NumberRows). t.rows) c.self.view_is in
    let entries = rw c.unwrap.ensures at c.insert-added.ensures.entries in
    ap (map number_row) entries
    ∙ insert-rows c.self.inside.meanings c.args.number _ (ap (meaning_of c.args.number) rows ∙ c.requires.absent)
    ∙ ap (λ rs. rs ++ record { number = c.args.number; kind = c.args.kind; home = c.args.home } ∷ []) rows
