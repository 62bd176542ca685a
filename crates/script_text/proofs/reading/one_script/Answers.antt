use Rattle.text_lines.specs.Lines.{unskipped_lines, whole_lines}
use Rattle.script_text.specs.ScriptLaws.{one_script}
use Rattle.script_text.proofs.reading.one_script.Goals as goal

pub returns-clause-lines : goal.returns-clause-lines
returns-clause-lines c = one_script

pub returns-clause-bytes : goal.returns-clause-bytes
returns-clause-bytes c = λ mode bytes a b s t. one_script mode (unskipped_lines (whole_lines bytes)) a b s.spelled.spelled t.spelled.spelled
