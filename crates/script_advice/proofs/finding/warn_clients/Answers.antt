use Rattle.std.proofs.Common.{◌≡◌, ◌<◌, ◌++◌, length, get_or, subst}
use Rattle.script_advice.specs.Warnings.{of_clients}
use Rattle.script_advice.specs.WarningLaws.{clients_more}
use Rattle.script_advice.proofs.finding.warn_clients.Goals as goal

pub loop-i-preserved : goal.loop-i-preserved
loop-i-preserved c =
    let s = c.args.script.now in
    clients_more s c.loop-i.i s.clients c.block-item.result c.loop-i.found.items c.warn_client.new.found.items (c.args.found.now.items ++ of_clients s 1 s.clients)
    (subst (λ cs. c.loop-i.i < length cs) c.as_slice-block-items.ensures c.loop-i-test.true)
    (subst (λ cs. c.block-item.result ≡ get_or cs c.loop-i.i c.block-item.result) c.as_slice-block-items.ensures c.block-item.is)
    c.in_ok-warn_client.ensures
    c.loop-i.invariant
