use Rattle.std.proofs.Common.{◌∙◌, ap, map}
use Rattle.journal_text.specs.Journals.{recorded_entry}
use Rattle.journal_text.specs.PrintLaws.{same_entries, entries_recorded}
use Rattle.journal_json.specs.Documents.{json_form}
use Rattle.journal_json.proofs.journals.json_journal.Goals as goal

pub returns-in-Ok-clause-written : goal.returns-in-Ok-clause-written
returns-in-Ok-clause-written c = λ w.
    c.from_string.ensures ∙ c.in-Ok.ensures
    ∙ ap (λ es. json_form c.args.journal.now.config (map recorded_entry es)) c.as_slice.ensures
    ∙ ap (λ es. json_form c.args.journal.now.config es) (same_entries c.args.journal.now.entries (entries_recorded c.args.journal.now.entries w.each))
