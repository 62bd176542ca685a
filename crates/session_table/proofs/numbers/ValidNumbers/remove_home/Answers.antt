use Rattle.std.proofs.Common.{rules, ◌≡◌, ◌∙◌, ap, sym, map, filter, not}
use Rattle.indexmap.proofs.CallerLemmas.{filter-RetainsPairs}
use Rattle.session_table.specs.Sessions.{ValidNumber, is_home}
use Rattle.session_table.specs.Tables.{NumberRows}
use Rattle.session_table.specs.NumberEntries.{number_row}
use Rattle.session_table.proofs.NumberRows.{remove_home-rows}
use Rattle.session_table.proofs.numbers.ValidNumbers.remove_home.Goals as goal

pub returns : goal.returns
returns c =
    let rows = ap (λ (t : NumberRows). t.rows) c.self.view_is in
    let kept = filter-RetainsPairs _ (λ e. not (is_home c.args.home e.1.home)) _ (λ k v b w g call. search rules) _ _ c.retain.ensures.filtered in
    ap (map number_row) kept
    ∙ remove_home-rows c.args.home c.self.inside.meanings.entries
    ∙ ap (filter (λ (v : ValidNumber). not (is_home c.args.home v.home))) rows
