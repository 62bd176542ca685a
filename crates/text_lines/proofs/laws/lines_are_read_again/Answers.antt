use Rattle.text_lines.specs.LineLaws.{lines_again}
use Rattle.text_lines.proofs.laws.lines_are_read_again.Goals as goal

pub returns : goal.returns
returns c = λ lines h. lines_again lines h
