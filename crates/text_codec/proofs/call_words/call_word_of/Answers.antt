use Rattle.std.proofs.Common.{ap, ◌∙◌}
use Rattle.text_codec.specs.Formats.{first_spelled}
use Rattle.text_codec.specs.declared.call_words.TheConstants.{CALL_WORDS}
use Rattle.text_codec.specs.CallWords.{call_word}
use Rattle.text_codec.specs.CallWordLaws.{call_stands}
use Rattle.text_codec.proofs.call_words.call_word_of.Goals as goal

pub returns-clause-only : goal.returns-clause-only
returns-clause-only c = λ call e. c.first_call_word.ensures ∙ ap (first_spelled call_word CALL_WORDS) e ∙ call_stands call
