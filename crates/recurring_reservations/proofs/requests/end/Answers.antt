use Rattle.drmaa_model.specs.History.{now_of}
use Rattle.std.proofs.Common.{Err}
use Rattle.drmaa_machine.proofs.Tellings.{makes-none}
use Rattle.recurring_reservations.specs.Requests.{ending}
use Rattle.recurring_reservations.proofs.requests.end.Goals as goal

pub returns-in-Err-clause-unended : goal.returns-in-Err-clause-unended
returns-in-Err-clause-unended c =
    let a = c.args.asker.now in
    let e = c.in-Err.ensures in
    record {
      unchanged = e.err;
      fault = c.in-Err._fault;
      cause = makes-none (now_of c.args.machine.now.ledger) a.at (ending a c.args.number) (Err c.in-Err._fault) (record { waits = e.waits; finds_nothing = e.finds_nothing; full = e.full; above = e.above; reports = e.reports });
    }
