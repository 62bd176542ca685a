use Rattle.std.proofs.Common.{ap, ◌∙◌}
use Rattle.text_codec.specs.Formats.{first_spelled}
use Rattle.journal_forms.specs.declared.reply_words.TheConstants.{REPLY_WORDS}
use Rattle.journal_forms.specs.Replies.{reply_word}
use Rattle.journal_forms.specs.ReplyLaws.{reply_word_stands}
use Rattle.journal_forms.proofs.reply_words.reply_word_of.Goals as goal

pub returns-clause-only : goal.returns-clause-only
returns-clause-only c = λ x e. c.first_reply_word.ensures ∙ ap (first_spelled reply_word REPLY_WORDS) e ∙ reply_word_stands x
