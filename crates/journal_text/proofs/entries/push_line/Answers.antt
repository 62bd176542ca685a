use Rattle.std.proofs.Common.{◌∷◌, [], ◌++◌, ap, ◌∙◌, append_assoc}
use Rattle.journal_text.specs.Journals.{entry, recorded_entry}
use Rattle.journal_text.specs.PrintLaws.{same_entry}
use Rattle.std.proofs.lemmas.Result.{on_ok_weaker}
use Rattle.journal_text.proofs.entries.push_line.Goals as goal

pub returns-clause-text : goal.returns-clause-text
returns-clause-text c =
    let front = c.args.out.now.items in
    let line = entry.spell (c.args.number, recorded_entry c.args.entry.now) in
    let kept = c.in_ok-push_entry.ensures.text ∙ ap (λ t. front ++ t) (same_entry c.args.number (recorded_entry c.args.entry.now)) in
    on_ok_weaker c.push_feed.result (λ h. h ∙ ap (λ t. t ++ 10 ∷ []) kept ∙ append_assoc front line (10 ∷ [])) c.push_feed.ensures
