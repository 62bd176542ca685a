use Rattle.std.proofs.Common.{◌≤◌, ap, arith}
use Rattle.drmaa_model.specs.History.{now_of}
use Rattle.plan_book.specs.TieLaws.{members-few}
use Rattle.wait_reasons.specs.Sums.{sum_of}
use Rattle.wait_reasons.specs.declared.sums.Share.TheVariants.{Array}
use Rattle.wait_reasons.proofs.finding.push_array.Goals as goal

pub sum-holding-requires-clause-few : goal.sum-holding-requires-clause-few
sum-holding-requires-clause-few c =
    let p = (now_of c.args.machine.now.ledger).plan in
    let few : sum_of (Array c.in-Some-array.array) p.rows ≤ p.total = members-few c.in-Some-array.array p c.requires.sums.fit in
    let total = c.requires.sums.total in
    let same = ap (sum_of (Array c.in-Some-array.array)) c.blocks-2.ensures in
    omega arith
