use Rattle.std.proofs.lemmas.Result.{IfOk-weaker}
use Rattle.block_play.proofs.Made.{asked-of}
use Rattle.block_play.proofs.calls.asked_by.Goals as goal

pub returns : goal.returns
returns c = IfOk-weaker c.ask.result _ _
    (λ asked is. asked-of c.args.script.now c.given.result.now c.args.names.now c.new-attempts.result c.beginning.result c.args.line.now asked c.given.ensures c.new-attempts.ensures c.beginning.ensures is)
    c.ask.ensures
