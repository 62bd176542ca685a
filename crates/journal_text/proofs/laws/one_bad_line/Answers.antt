use Rattle.text_lines.specs.LineLaws.{one_bad}
use Rattle.journal_text.specs.Journals.{Spells, byte_limit}
use Rattle.journal_text.proofs.laws.one_bad_line.Goals as goal

pub returns : goal.returns
returns c = λ bytes n m a b. one_bad Spells byte_limit bytes n m a b
