use Rattle.text_lines.specs.LineLaws.{ended_utf8}
use Rattle.text_lines.proofs.laws.printed_is_utf8.Goals as goal

pub returns : goal.returns
returns c = λ lines h. ended_utf8 lines h
