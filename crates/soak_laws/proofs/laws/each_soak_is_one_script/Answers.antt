use Rattle.text_lines.specs.Lines.{unskipped_lines, whole_lines}
use Rattle.script_text.specs.declared.scripts.Mode.TheVariants.{Serial}
use Rattle.script_text.specs.ScriptLaws.{one_script}
use Rattle.soak_script.specs.Lines.{soak_text}
use Rattle.soak_laws.specs.Scripts.{soak_of}
use Rattle.soak_laws.specs.SoakLaws.{soak_spelled, soak_is_text}
use Rattle.soak_laws.proofs.laws.each_soak_is_one_script.Goals as goal

pub returns-clause-lines : goal.returns-clause-lines
returns-clause-lines c = soak_spelled

pub returns-clause-text : goal.returns-clause-text
returns-clause-text c = soak_is_text

pub returns-clause-one : goal.returns-clause-one
returns-clause-one c = λ steps seed script h t. one_script Serial (unskipped_lines (whole_lines (soak_text steps seed))) script (soak_of steps seed) t.spelled.spelled (soak_is_text steps seed h).spelled.spelled
