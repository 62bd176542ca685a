use Rattle.std.proofs.lemmas.Result.{on_ok_weaker}
use Rattle.script_advice.proofs.finding.warn_then_hold.Goals as goal

pub returns : goal.returns
returns c =
    on_ok_weaker c.insert_at-2.result (λ h. record { found = c.in_ok-warn_endless_at.ensures; held = c.in_ok-insert_at.ensures; let_go = h }) c.insert_at-2.ensures
