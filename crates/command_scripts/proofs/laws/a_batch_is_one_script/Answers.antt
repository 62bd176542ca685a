use Rattle.text_lines.specs.Lines.{unskipped_lines, whole_lines}
use Rattle.script_text.specs.declared.scripts.Mode.TheVariants.{Threads}
use Rattle.script_text.specs.ScriptLaws.{one_script}
use Rattle.command_scripts.specs.ScriptLaws.{batch_spelled}
use Rattle.command_scripts.specs.Scripts.{script_of}
use Rattle.command_scripts.specs.TextLaws.{batch_text}
use Rattle.command_scripts.specs.Texts.{script_text}
use Rattle.command_scripts.proofs.laws.a_batch_is_one_script.Goals as goal

pub returns-clause-lines : goal.returns-clause-lines
returns-clause-lines c = batch_spelled

pub returns-clause-text : goal.returns-clause-text
returns-clause-text c = batch_text

pub returns-clause-one : goal.returns-clause-one
returns-clause-one c = λ batch script h t. one_script Threads (unskipped_lines (whole_lines (script_text batch))) script (script_of batch) t.spelled.spelled (batch_text batch h).spelled.spelled
