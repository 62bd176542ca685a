use Rattle.std.proofs.Common.{◌++◌, ◌∙◌, ap, codes, map, false}
use Rattle.serde_json.proofs.OnLiterals.{serde_json_on_literals}
use Rattle.serde_json.specs.Written.{compact_text, items_text}
use Rattle.journal_text.specs.Journals.{recorded_entry}
use Rattle.journal_json.specs.Documents.{entries_data, machine_data, json_form}
use Rattle.journal_json.specs.DocumentLaws.{parts}
use Rattle.journal_json.proofs.journals.form_of.Goals as goal

pub returns : goal.returns
unfolding json_form serde_json_on_literals
returns c =
    let front = codes "{\"entries\":[" in
    let between = codes ",\"machine\":" in
    let entries = items_text false (entries_data 1 (map recorded_entry c.args.entries.now)) in
    let machine = compact_text (machine_data c.args.config.now) in
    c.in_ok-push_str-3.ensures.bytes ∙ ap (λ t. t ++ codes "}")
    (c.in_ok-push_machine.ensures ∙ ap (λ t. t ++ machine)
    (c.in_ok-push_str-2.ensures.bytes ∙ ap (λ t. t ++ between)
    (c.in_ok-push_entries.ensures ∙ ap (λ t. t ++ entries)
    (c.in_ok-push_str.ensures.bytes ∙ ap (λ t. t ++ front) c.new-out.ensures.bytes))))
    ∙ parts front entries between machine (codes "}")
