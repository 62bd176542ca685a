use Rattle.script_advice.specs.WarningLaws.{all_found}
use Rattle.script_advice.proofs.finding.warnings.Goals as goal

pub returns : goal.returns
returns c =
    all_found c.args.script.now c.in_ok-awaited.awaited c.new-found.result.items c.warn_setup.new.found.items c.warn_clients.new.found.items c.from_vec.result
    c.new-found.ensures.items c.in_ok-awaited.ensures c.in_ok-warn_setup.ensures c.in_ok-warn_clients.ensures c.from_vec.ensures
