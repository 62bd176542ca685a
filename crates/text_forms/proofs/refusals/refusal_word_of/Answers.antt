use Rattle.std.proofs.Common.{ap, ◌∙◌}
use Rattle.text_codec.specs.Formats.{first_spelled}
use Rattle.text_forms.specs.declared.refusals.TheConstants.{REFUSAL_WORDS}
use Rattle.text_forms.specs.Refusals.{refusal_word}
use Rattle.text_forms.specs.RefusalLaws.{refusal_word_stands}
use Rattle.text_forms.proofs.refusals.refusal_word_of.Goals as goal

pub returns-clause-only : goal.returns-clause-only
returns-clause-only c = λ x e. c.first_refusal_word.ensures ∙ ap (first_spelled refusal_word REFUSAL_WORDS) e ∙ refusal_word_stands x
