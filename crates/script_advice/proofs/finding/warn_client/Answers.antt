use Rattle.std.proofs.lemmas.Result.{on_ok_weaker}
use Rattle.script_advice.specs.WarningLaws.{client_found}
use Rattle.script_advice.proofs.finding.warn_client.Goals as goal

pub returns : goal.returns
returns c =
    on_ok_weaker c.warn_endless.result
    (λ h. client_found c.args.script.now c.args.number c.args.block.now c.in_ok-awaited.awaited c.args.found.now.items c.warn_unwaited.new.found.items c.warn_endless.new.found.items
    c.in_ok-awaited.ensures c.in_ok-warn_unwaited.ensures h)
    c.warn_endless.ensures
