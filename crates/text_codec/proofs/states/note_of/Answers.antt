use Rattle.std.proofs.Common.{ap, ◌∙◌}
use Rattle.text_codec.specs.Formats.{first_spelled}
use Rattle.text_codec.specs.declared.states.TheConstants.{NOTES}
use Rattle.text_codec.specs.ValueWords.{note_text}
use Rattle.text_codec.specs.ValueWordLaws.{note_stands}
use Rattle.text_codec.proofs.states.note_of.Goals as goal

pub returns-clause-only : goal.returns-clause-only
returns-clause-only c = λ x some e. c.first_note.ensures ∙ ap (first_spelled note_text NOTES) e ∙ note_stands x some
