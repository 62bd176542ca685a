use Rattle.continued_text.specs.TextLaws.{one_text, one_continued, one_bad_line}
use Rattle.continued_text.proofs.laws.one_pair.Goals as goal

pub returns-clause-lines : goal.returns-clause-lines
returns-clause-lines c = one_text

pub returns-clause-bytes : goal.returns-clause-bytes
returns-clause-bytes c = one_continued

pub returns-clause-line : goal.returns-clause-line
returns-clause-line c = one_bad_line
