use Rattle.std.proofs.lemmas.Result.{on_ok_weaker}
use Rattle.script_advice.proofs.gathering.insert_of.Goals as goal

pub returns : goal.returns
returns c = on_ok_weaker c.insert_at-put.result (λ h. (c.in_ok-line.line, c.in_ok-line.ensures, h)) c.insert_at-put.ensures
