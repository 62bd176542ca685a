use Rattle.std.proofs.Common.{◌∙◌, ap, sym, subst, List}
use Rattle.drmaa_model.specs.declared.configs.Config.{Config}
use Rattle.drmaa_model.specs.declared.entries.Entry.{Entry}
use Rattle.journal_commands.specs.Replays.{AreRecorded}
use Rattle.journal_text.specs.Journals.{journal_text}
use Rattle.journal_commands.proofs.recurrences.journal_of.Goals as goal

pub returns : goal.returns
returns c =
    c.from_string.ensures ∙ (ap (λ v. v.items) c.in-Ok.ensures.ok ∙ (c.into_vec.ensures
    ∙ (c.in_ok-bytes.ensures.recorded (subst AreRecorded (sym c.entries.ensures.entries) c.requires)
    ∙ (ap (λ (k : Config). journal_text k c.entries.result.now) c.config.ensures
    ∙ ap (λ (es : List Entry). journal_text c.args.machine.now.ledger.config es) c.entries.ensures.entries))))
