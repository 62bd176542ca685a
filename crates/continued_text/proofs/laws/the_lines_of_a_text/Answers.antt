use Rattle.continued_text.specs.TextLaws.{text_lines_are}
use Rattle.continued_text.proofs.laws.the_lines_of_a_text.Goals as goal

pub returns : goal.returns
returns c = text_lines_are
