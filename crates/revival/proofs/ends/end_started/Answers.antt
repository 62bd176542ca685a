use Rattle.std.proofs.Common.{arith, sym, ◌∙◌}
use Rattle.revival.specs.StoppingLaws.{begin, next-found, number-low, number-small, all-stopped}
use Rattle.revival.proofs.ends.end_started.Goals as goal

pub jobs-init : goal.jobs-init
jobs-init c = record { stopping = begin c.args.machine.now.ledger c.moment-at.ensures.legal }

pub overflow_add-next : goal.overflow_add-next
overflow_add-next c =
    let e = c.started.ensures in
    let next = next-found c.jobs.from.0 c.moment-at.result c.args.machine.now.ledger c.jobs.machine.ledger c.in-Some.found c.moment-at.ensures.moment c.jobs.invariant.stopping (sym c.in-Some.is ∙ e.found) in
    let small = number-small c.jobs.from.0 c.jobs.machine.ledger c.in-Some.found e.legal e.few next in
    omega (arith, small)

pub jobs-smaller : goal.jobs-smaller
jobs-smaller c =
    let e = c.started.ensures in
    let next = next-found c.jobs.from.0 c.moment-at.result c.args.machine.now.ledger c.jobs.machine.ledger c.in-Some.found c.moment-at.ensures.moment c.jobs.invariant.stopping (sym c.in-Some.is ∙ e.found) in
    let low = number-low c.jobs.from.0 c.jobs.machine.ledger c.in-Some.found next in
    let small = number-small c.jobs.from.0 c.jobs.machine.ledger c.in-Some.found e.legal e.few next in
    omega (arith, low, small)

pub returns : goal.returns
returns c = record {
  ends = all-stopped c.jobs.from.0 c.moment-at.result c.args.machine.now.ledger c.jobs.machine.ledger c.moment-at.ensures.moment c.jobs.invariant.stopping (sym c.in_default.is ∙ c.started.ensures.found);
}
