use Rattle.std.proofs.lemmas.Result.{on_ok_weaker}
use Rattle.script_advice.proofs.finding.warn_then_hold_in.Goals as goal

pub returns : goal.returns
returns c = on_ok_weaker c.warn_then_hold-passed.result (λ h. (c.in_ok-line.line, c.in_ok-line.ensures, h)) c.warn_then_hold-passed.ensures
