use Rattle.std.proofs.Common.{Result, Err, ap}
use Rattle.drmaa_model.specs.declared.faults.NoEntry.{NoEntry}
use Rattle.drmaa_model.specs.declared.replies.Reply.{Reply}
use Rattle.drmaa_model.specs.History.{now_of}
use Rattle.journal_check.proofs.Replays.{found, waited, found_nothing, found_full, unmade}
use Rattle.journal_check.proofs.steps.replay.Goals as goal

-- an answer without an entry
unserved : NoEntry → Result Reply NoEntry
unserved why = Err why

pub returns-in-Ok : goal.returns-in-Ok
returns-in-Ok c =
    found c.args.machine.now.ledger c.apply.new.self.ledger c.args.entry c.in-Ok.own c.compared.result c.requires
    c.in-Ok.ensures.step c.in-Ok.ensures.entry c.in-Ok.ensures.legal c.compared.ensures

pub returns-in-Err-NotYet : goal.returns-in-Err-NotYet
unfolding unserved
returns-in-Err-NotYet c =
    unmade c.args.machine.now.ledger c.apply.new.self.ledger c.args.entry c.unanswered.result c.unanswered.ensures
    (waited (now_of c.args.machine.now.ledger) c.args.entry c.requires (c.in-Err-NotYet.ensures.waits.0 (ap unserved c.in-Err-NotYet.field-0-is)))

pub returns-in-Err-Nothing : goal.returns-in-Err-Nothing
unfolding unserved
returns-in-Err-Nothing c =
    let step = c.unanswered-in-Err-Nothing in
    unmade c.args.machine.now.ledger c.apply.new.self.ledger c.args.entry step.result step.ensures
    (found_nothing (now_of c.args.machine.now.ledger) c.args.entry c.requires (c.in-Err-Nothing.ensures.finds_nothing.0 (ap unserved c.in-Err-Nothing.field-0-is)))

pub returns-in-Err-Journal : goal.returns-in-Err-Journal
unfolding unserved
returns-in-Err-Journal c =
    let step = c.unanswered-in-Err-Journal in
    unmade c.args.machine.now.ledger c.apply.new.self.ledger c.args.entry step.result step.ensures
    (found_full (now_of c.args.machine.now.ledger) c.args.entry _ c.requires (c.in-Err-Journal.ensures.full _ (ap unserved c.in-Err-Journal.field-0-is)))
