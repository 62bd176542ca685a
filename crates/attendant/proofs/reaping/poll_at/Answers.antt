use Rattle.call_history.specs.Clients.{number_of}
use Rattle.attendant.specs.Acts.{own_acts}
use Rattle.std.proofs.Common.{true, false, refl}
use Rattle.attendant.specs.PairLaws.{post-itself}
use Rattle.attendant.proofs.Ends.{polling_running, polling_ended}
use Rattle.attendant.proofs.Places.{place_running, place_ended, place_lost, loses_one}
use Rattle.attendant.proofs.reaping.poll_at.Goals as goal

pub returns-in-Running-clause-polling : goal.returns-in-Running-clause-polling
returns-in-Running-clause-polling g c = polling_running g.T.Child.told g.T.Child.faults c.args.key _ c.args.reaper.now.children c.poll_child.new.children c.args.reaper.now.order c.in-Running.ensures

pub returns-then-report_end-clause-polling : goal.returns-then-report_end-clause-polling
returns-then-report_end-clause-polling g c = polling_ended g.T.Child.told g.T.Child.faults (number_of c.args.desk.now.client) c.args.key c.in-Ended.job c.in-Ended.attempt c.in-Ended.exit true (own_acts c.args.desk.now.client) (own_acts c.report_end.new.desk.client) c.args.reaper.now.children c.poll_child.new.children c.args.reaper.now.order c.report_end.new.order c.in-Ended.ensures c.if-report_end.ensures.made

pub returns-in-Running-clause-place : goal.returns-in-Running-clause-place
returns-in-Running-clause-place g c = place_running g.T.Child.told g.T.Child.faults c.args.key (own_acts c.args.desk.now.client) c.args.reaper.now.children c.poll_child.new.children _ _ c.in-Running.ensures

pub returns-then-report_end-clause-place : goal.returns-then-report_end-clause-place
returns-then-report_end-clause-place g c = place_ended g.T.Child.told g.T.Child.faults (number_of c.args.desk.now.client) c.args.key c.in-Ended.job c.in-Ended.attempt c.in-Ended.exit (own_acts c.args.desk.now.client) (own_acts c.report_end.new.desk.client) c.args.reaper.now.children c.poll_child.new.children c.args.reaper.now.order c.report_end.new.order c.in-Ended.ensures _ c.if-report_end.ensures.made

pub returns-else-report_end-clause-place : goal.returns-else-report_end-clause-place
returns-else-report_end-clause-place g c = place_lost g.T.Child.told g.T.Child.faults (number_of c.args.desk.now.client) c.args.key c.in-Ended.job c.in-Ended.attempt c.in-Ended.exit (own_acts c.args.desk.now.client) (own_acts c.report_end.new.desk.client) c.args.reaper.now.children c.poll_child.new.children c.args.reaper.now.order c.report_end.new.order c.in-Ended.ensures _ (λ clean. absurd (cc)) c.if-report_end.ensures.made

pub returns-else-report_end-clause-lost : goal.returns-else-report_end-clause-lost
returns-else-report_end-clause-lost g c =
    let w = c.if-report_end.ensures.cause refl in
    loses_one g.T.Child.told g.T.Child.faults c.args.key c.in-Ended.job c.in-Ended.attempt c.in-Ended.exit _ _ c.args.reaper.now.children c.poll_child.new.children w.0 c.in-Ended.ensures c.requires c.report_end.ensures.desk c.if-report_end.ensures.made.0 w.1

pub returns-in-Running-clause-desk : goal.returns-in-Running-clause-desk
returns-in-Running-clause-desk g c = post-itself _ c.requires

pub returns-else-report_end-clause-polling : goal.returns-else-report_end-clause-polling
returns-else-report_end-clause-polling g c = polling_ended g.T.Child.told g.T.Child.faults (number_of c.args.desk.now.client) c.args.key c.in-Ended.job c.in-Ended.attempt c.in-Ended.exit false (own_acts c.args.desk.now.client) (own_acts c.report_end.new.desk.client) c.args.reaper.now.children c.poll_child.new.children c.args.reaper.now.order c.report_end.new.order c.in-Ended.ensures c.if-report_end.ensures.made
