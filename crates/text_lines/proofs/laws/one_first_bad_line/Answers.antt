use Rattle.text_lines.specs.LineLaws.{one_bad}
use Rattle.text_lines.proofs.laws.one_first_bad_line.Goals as goal

pub returns : goal.returns
returns g c = λ first limit bytes n m a b. one_bad (g.R.LineReader.stepping.Spells first) limit bytes n m a b
