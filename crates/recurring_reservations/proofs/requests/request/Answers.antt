use Rattle.drmaa_model.specs.History.{now_of}
use Rattle.std.proofs.Common.{Err}
use Rattle.drmaa_machine.proofs.Tellings.{makes-none}
use Rattle.recurring_reservations.specs.Requests.{asking}
use Rattle.recurring_reservations.proofs.Told.{tells, unanswered}
use Rattle.recurring_reservations.proofs.requests.request.Goals as goal

pub returns-in-Ok-clause-ok : goal.returns-in-Ok-clause-ok
returns-in-Ok-clause-ok c =
    (tells c.args.asker.now c.args.template c.args.machine.now.ledger c.apply.new.self.ledger c.in-Ok.reply c.number_in.result c.in-Ok.ensures.step c.in-Ok.ensures.entry c.number_in.ensures.reserved c.number_in.ensures.refused).ok

pub returns-in-Ok-clause-err : goal.returns-in-Ok-clause-err
returns-in-Ok-clause-err c =
    (tells c.args.asker.now c.args.template c.args.machine.now.ledger c.apply.new.self.ledger c.in-Ok.reply c.number_in.result c.in-Ok.ensures.step c.in-Ok.ensures.entry c.number_in.ensures.reserved c.number_in.ensures.refused).err

pub returns-in-Err-clause-err : goal.returns-in-Err-clause-err
returns-in-Err-clause-err c =
    let a = c.args.asker.now in
    let e = c.in-Err.ensures in
    unanswered a c.args.template c.args.machine.now.ledger c.apply.new.self.ledger c.in-Err.fault c.from.result
    (makes-none (now_of c.args.machine.now.ledger) a.at (asking a c.args.template) (Err c.in-Err.fault) (record { waits = e.waits; finds_nothing = e.finds_nothing; full = e.full; above = e.above; reports = e.reports }))
    e.err c.from.ensures
