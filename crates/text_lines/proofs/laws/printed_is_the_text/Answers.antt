use Rattle.text_lines.specs.LineLaws.{ended_text}
use Rattle.text_lines.proofs.laws.printed_is_the_text.Goals as goal

pub returns : goal.returns
returns g c = λ first lines text limit h s l. ended_text (g.R.LineReader.stepping.Spells first) lines text limit h s l
