use Rattle.std.proofs.Common.{◌≤◌, ap, arith}
use Rattle.drmaa_model.specs.History.{now_of}
use Rattle.plan_book.specs.TieLaws.{queue-few}
use Rattle.wait_reasons.specs.Sums.{sum_of}
use Rattle.wait_reasons.specs.declared.sums.Share.TheVariants.{Queue}
use Rattle.wait_reasons.proofs.finding.push_queue.Goals as goal

pub sum-used-requires-clause-few : goal.sum-used-requires-clause-few
sum-used-requires-clause-few c =
    let p = (now_of c.args.machine.now.ledger).plan in
    let few : sum_of (Queue c.args.place) p.rows ≤ p.total = queue-few c.args.place p c.requires.sums.fit in
    let total = c.requires.sums.total in
    let same = ap (sum_of (Queue c.args.place)) c.blocks-2.ensures in
    omega arith
