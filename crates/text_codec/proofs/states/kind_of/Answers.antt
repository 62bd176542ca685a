use Rattle.std.proofs.Common.{ap, ◌∙◌}
use Rattle.text_codec.specs.Formats.{first_spelled}
use Rattle.text_codec.specs.declared.states.TheConstants.{KINDS}
use Rattle.text_codec.specs.ValueWords.{kind_text}
use Rattle.text_codec.specs.ValueWordLaws.{kind_stands}
use Rattle.text_codec.proofs.states.kind_of.Goals as goal

pub returns-clause-only : goal.returns-clause-only
returns-clause-only c = λ x e. c.first_kind.ensures ∙ ap (first_spelled kind_text KINDS) e ∙ kind_stands x
