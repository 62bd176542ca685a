use Rattle.std.proofs.Common.{arith, sym, ◌∙◌}
use Rattle.forecast.specs.RunLaws.{begin, ends-over, number-low, number-small}
use Rattle.forecast.proofs.ends.end_asked.Goals as goal

pub jobs-init : goal.jobs-init
jobs-init c = record { ends = λ first foretold fresh. begin c.args.at first c.args.machine.now.ledger foretold fresh }

pub jobs-preserved : goal.jobs-preserved
jobs-preserved c = record { ends = λ first foretold fresh. c.end_one.ensures.ends first foretold (c.jobs.invariant.ends first foretold fresh) }

pub jobs-smaller : goal.jobs-smaller
jobs-smaller c =
    let e = c.started.ensures in
    let low = number-low c.args.at c.jobs.from.0 c.jobs.machine.ledger c.in-Some.found e.legal (sym c.in-Some.is ∙ e.found) in
    let small = number-small c.args.at c.jobs.from.0 c.jobs.machine.ledger c.in-Some.found e.legal e.few (sym c.in-Some.is ∙ e.found) in
    omega (arith, low, small)

pub overflow_add-next : goal.overflow_add-next
overflow_add-next c =
    let e = c.started.ensures in
    let small = number-small c.args.at c.jobs.from.0 c.jobs.machine.ledger c.in-Some.found e.legal e.few (sym c.in-Some.is ∙ e.found) in
    omega (arith, small)

pub returns : goal.returns
returns c = record {
  ends = λ first foretold fresh.
      ends-over c.args.at c.jobs.from.0 first c.jobs.machine.ledger foretold (c.jobs.invariant.ends first foretold fresh) (sym c.in_default.is ∙ c.started.ensures.found);
}
