use Rattle.std.proofs.Common.{ap, ◌∙◌}
use Rattle.text_codec.specs.Formats.{first_spelled}
use Rattle.text_codec.specs.declared.attributes.TheConstants.{ATTRIBUTES}
use Rattle.drmaa_types.specs.Said.{attribute_name}
use Rattle.text_codec.specs.ValueWordLaws.{attribute_stands}
use Rattle.text_codec.proofs.attributes.attribute_of.Goals as goal

pub returns-clause-only : goal.returns-clause-only
returns-clause-only c = λ x e. c.first_attribute.ensures ∙ ap (first_spelled attribute_name ATTRIBUTES) e ∙ attribute_stands x
