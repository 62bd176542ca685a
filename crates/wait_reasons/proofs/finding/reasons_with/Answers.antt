use Rattle.std.proofs.Common.{arith}
use Rattle.wait_reasons.proofs.finding.reasons_with.Goals as goal

pub push_coming-requires-clause-sums : goal.push_coming-requires-clause-sums
push_coming-requires-clause-sums c =
    let same = c.slots-total.ensures.slots in
    record { fit = c.slots-total.ensures.consistent.fit; total = omega (arith, same) }

pub push_places-requires-clause-sums : goal.push_places-requires-clause-sums
push_places-requires-clause-sums c =
    let same = c.slots-total.ensures.slots in
    record { fit = c.slots-total.ensures.consistent.fit; total = omega (arith, same) }
