use Rattle.std.proofs.Common.{length}
use Rattle.text_lines.specs.Automata.{from}
use Rattle.text_lines.proofs.Steps.{Progress}
use Rattle.text_lines.proofs.reading.read_lines.Given as goal

-- the lines so far were read
abbrev pub invariant-loop-line : goal.invariant-loop-line
invariant-loop-line g l = Progress (from g.R.LineReader.stepping l.fn.first) l.front l.rest l.reader l.number

abbrev pub decreases-loop-line : goal.decreases-loop-line
decreases-loop-line g l = length l.rest
