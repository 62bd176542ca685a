use Rattle.std.proofs.Common.{◌++◌, codes, ap, ◌∙◌, append_assoc}
use Rattle.text_codec.specs.Formats.{pair, behind, checked}
use Rattle.journal_text.specs.Queues.{queues}
use Rattle.journal_text.specs.Journals.{machine, title, title_of}
use Rattle.journal_text.specs.TextLaws.{title_clean}
use Rattle.std.proofs.lemmas.Result.{on_ok_weaker}
use Rattle.journal_text.proofs.titles.push_title.Goals as goal

pub returns-clause-text : goal.returns-clause-text
unfolding title checked behind
returns-clause-text c =
    let front = c.args.out.now.items in
    let rest = (pair machine queues).spell (title_of c.args.config.now) in
    on_ok_weaker c.push_parts.result (λ h. h ∙ ap (λ t. t ++ rest) c.in_ok-extend_from_slice.ensures.items ∙ append_assoc front (codes "drmaa-journal 2 ") rest) c.push_parts.ensures.text

pub returns-clause-clean : goal.returns-clause-clean
returns-clause-clean c = on_ok_weaker c.push_parts.result (λ v. title_clean c.args.config.now v) c.push_parts.ensures.valid
