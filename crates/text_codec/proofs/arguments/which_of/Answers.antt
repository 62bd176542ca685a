use Rattle.std.proofs.Common.{ap, ◌∙◌}
use Rattle.text_codec.specs.Formats.{first_spelled}
use Rattle.text_codec.specs.declared.arguments.TheConstants.{ARGUMENTS}
use Rattle.text_codec.specs.ValueWords.{which_text}
use Rattle.text_codec.specs.ValueWordLaws.{which_stands}
use Rattle.text_codec.proofs.arguments.which_of.Goals as goal

pub returns-clause-only : goal.returns-clause-only
returns-clause-only c = λ x e. c.first_which.ensures ∙ ap (first_spelled which_text ARGUMENTS) e ∙ which_stands x
