use Rattle.call_history.specs.Clients.{number_of}
use Rattle.attendant.specs.Acts.{own_acts}
use Rattle.std.proofs.Common.{Some, None}
use Rattle.slab.specs.Slab.{get}
use Rattle.attendant.proofs.Ends.{deliver_keeping, report_keeping, report_agreeing, keeping_on}
use Rattle.attendant.specs.PairLaws.{post-itself}
use Rattle.attendant.proofs.reaping.serve_hand.Goals as goal

pub returns-in_default-clause-desk : goal.returns-in_default-clause-desk
returns-in_default-clause-desk g c = post-itself _ c.requires.sits

pub returns-in_default-clause-keeping : goal.returns-in_default-clause-keeping
returns-in_default-clause-keeping g c = rw c.requires.hand (deliver_keeping g.T.Child.told g.T.Child.faults _ c.args.reaper.now.children c.deliver.new.children c.args.hand c.deliver.new.hand c.deliver.ensures)

pub returns-in_err-report_signal-clause-keeping : goal.returns-in_err-report_signal-clause-keeping
returns-in_err-report_signal-clause-keeping g c =
    rw (c.in_err-report_signal.ensures.made, c.requires.hand) (deliver_keeping g.T.Child.told g.T.Child.faults _ c.args.reaper.now.children c.deliver.new.children c.args.hand c.deliver.new.hand c.deliver.ensures)

pub returns-clause-keeping : goal.returns-clause-keeping
returns-clause-keeping g c =
    rw c.requires.hand (keeping_on g.T.Child.told (own_acts c.args.desk.now.client) (own_acts c.args.desk.now.client) (own_acts c.report_signal.new.desk.client) (get c.args.reaper.now.children) (get c.deliver.new.children) (get c.deliver.new.children) (Some c.args.hand) (Some c.deliver.new.hand) None
    (deliver_keeping g.T.Child.told g.T.Child.faults _ c.args.reaper.now.children c.deliver.new.children c.args.hand c.deliver.new.hand c.deliver.ensures)
    (report_keeping g.T.Child.told (number_of c.args.desk.now.client) c.in-Some.answer c.deliver.new.hand (own_acts c.args.desk.now.client) (own_acts c.report_signal.new.desk.client) (get c.deliver.new.children) c.in-Some.is c.in_ok-report_signal.ensures.made))

pub returns-clause-agreeing : goal.returns-clause-agreeing
returns-clause-agreeing g c = report_agreeing (number_of c.args.desk.now.client) c.in-Some.answer c.deliver.new.hand.signal (own_acts c.args.desk.now.client) (own_acts c.report_signal.new.desk.client) c.in_ok-report_signal.ensures.made
