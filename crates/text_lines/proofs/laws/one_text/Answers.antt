use Rattle.text_lines.specs.Lines.{whole_lines}
use Rattle.text_lines.specs.Automata.{from}
use Rattle.text_lines.specs.LineLaws.{one_text as spelled}
use Rattle.text_lines.proofs.laws.one_text.Goals as goal

pub returns-clause-lines : goal.returns-clause-lines
returns-clause-lines g c = λ first lines text other f a b. spelled (from g.R.LineReader.stepping first) (g.met.R.LineReader.reads first f) lines text other a b

pub returns-clause-bytes : goal.returns-clause-bytes
returns-clause-bytes g c = λ first limit bytes text other f a b. spelled (from g.R.LineReader.stepping first) (g.met.R.LineReader.reads first f) (whole_lines bytes) text other a.spelled b.spelled
