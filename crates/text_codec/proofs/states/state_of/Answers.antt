use Rattle.std.proofs.Common.{ap, ◌∙◌}
use Rattle.text_codec.specs.Formats.{first_spelled}
use Rattle.text_codec.specs.declared.states.TheConstants.{STATES}
use Rattle.drmaa_types.specs.Said.{state_name}
use Rattle.text_codec.specs.ValueWordLaws.{state_stands}
use Rattle.text_codec.proofs.states.state_of.Goals as goal

pub returns-clause-only : goal.returns-clause-only
returns-clause-only c = λ x e. c.first_state.ensures ∙ ap (first_spelled state_name STATES) e ∙ state_stands x
