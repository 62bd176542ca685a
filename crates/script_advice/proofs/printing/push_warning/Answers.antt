use Rattle.script_advice.proofs.Answered.{line_of}
use Rattle.script_advice.proofs.printing.push_warning.Goals as goal

pub returns-in-Unwaited : goal.returns-in-Unwaited
returns-in-Unwaited c = line_of c.push_line.result _ _ c.args.warning.now _ c.in-Unwaited.is c.push_line.ensures

pub returns-in-Endless : goal.returns-in-Endless
returns-in-Endless c = line_of c.push_line-in-Endless.result _ _ c.args.warning.now _ c.in-Endless.is c.push_line-in-Endless.ensures
