use Rattle.std.proofs.Common.{ℕ, Option, Some, Result, Err, sym, ap, subst}
use Rattle.drmaa_model.specs.declared.faults.NoEntry.{NoEntry}
use Rattle.drmaa_model.specs.declared.replies.Reply.{Reply}
use Rattle.journal_commands.specs.Recurring.{GoesOn}
use Rattle.journal_commands.proofs.Going.{asked_on, not_opened, too_large}
use Rattle.std.proofs.lemmas.Result.{IfOk-weaker}
use Rattle.journal_commands.proofs.recurrences.go_on.Goals as goal

pub returns-in-Some-clause-goes : goal.returns-in-Some-clause-goes
returns-in-Some-clause-goes c =
    IfOk-weaker c.full_after.result _ (λ (full : Option ℕ). GoesOn c.args.words c.args.machine.now.ledger full c.request_all.new.machine.ledger) (λ full is.
    asked_on c.args.words c.args.machine.now.ledger c.apply.new.self.ledger c.request_all.new.machine.ledger c.moment-at.result c.in-Ok.reply c.in-Some.session c.recurring_of-recurring.result c.request_all.result full
    c.moment-at.ensures.moment c.recurring_of-recurring.ensures c.in-Some.ensures.found c.in-Ok.ensures.entry c.request_all.ensures.answer is) c.full_after.ensures

pub returns-in-Ok-clause-goes : goal.returns-in-Ok-clause-goes
returns-in-Ok-clause-goes c =
    not_opened c.args.words c.args.machine.now.ledger c.apply.new.self.ledger c.moment-at.result c.in-Ok.reply c.moment-at.ensures.moment c.in-None.ensures.told c.in-Ok.ensures.entry

pub returns-in-Err-Journal-clause-goes : goal.returns-in-Err-Journal-clause-goes
returns-in-Err-Journal-clause-goes c =
    subst (λ (n : ℕ). GoesOn c.args.words c.args.machine.now.ledger (Some n) c.apply.new.self.ledger) (sym c.in-Err-Journal.size-is)
    (too_large c.args.words c.args.machine.now.ledger c.apply.new.self.ledger c.moment-at.result c.in-Err-Journal.size c.moment-at.ensures.moment
    (c.in-Err-Journal.ensures.full c.in-Err-Journal.size (ap (λ (f : NoEntry). let r : Result Reply NoEntry = Err f in r) c.in-Err-Journal.field-0-is)) c.in-Err-Journal.ensures.err)
