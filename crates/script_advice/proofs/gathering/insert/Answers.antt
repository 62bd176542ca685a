use Rattle.script_advice.proofs.Answered.{put_new}
use Rattle.script_advice.proofs.gathering.insert.Goals as goal

pub returns : goal.returns
returns c = put_new c.args.names.now c.add.new.self c.args.name.now c.in_ok-name.name c.add.result c.in_ok-name.ensures.cases c.add.ensures
