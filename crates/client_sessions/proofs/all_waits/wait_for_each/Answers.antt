use Rattle.std.proofs.Common.{ℕ, ◌+◌, drop, get_or}
use Rattle.std.proofs.lemmas.List.{drop_more}
use Rattle.wait_calls.proofs.Seats.{still-both}
use Rattle.client_sessions.specs.declared.jobs.Job.{Job}
use Rattle.client_sessions.specs.AllWaits.{wait_for}
use Rattle.client_sessions.specs.Desks.{dial_of}
use Rattle.client_sessions.proofs.InTurn.{no_job, left-next, left-stops, stopped}
use Rattle.client_sessions.proofs.all_waits.wait_for_each.Goals as goal

pub loop-listed-preserved : goal.loop-listed-preserved
loop-listed-preserved g c =
    let i = c.loop-listed.invariant in
    let k : ℕ = c.loop-listed.listed-index in
    record {
      desk = still-both _ _ _ _ _ _ i.desk c.in-Ok.ensures.still;
      left = left-next _ _ i.desk.shared_is (wait_for c.args.session c.args.kind c.args.timeout)
          (dial_of g.C.Clock.given g.C.Clock.least c.args.desk.now) c.args.desk.now.client c.args.jobs.now
          (dial_of g.C.Clock.given g.C.Clock.least c.loop-listed.desk) c.loop-listed.desk.client (get_or c.args.jobs.now k no_job) (drop (k + 1) c.args.jobs.now) (drop k c.args.jobs.now)
          (drop_more c.args.jobs.now k no_job c.loop-listed-test.true)
          (dial_of g.C.Clock.given g.C.Clock.least c.wait_alone.new.desk) c.wait_alone.new.desk.client i.left (record { number = c.in-Ok.ensures.still.number; waited = c.in-Ok.ensures.ok });
    }

pub returns-in-Err-clause-err : goal.returns-in-Err-clause-err
returns-in-Err-clause-err g c =
    let i = c.loop-listed.invariant in
    let k : ℕ = c.loop-listed.listed-index in
    let job : Job = get_or c.args.jobs.now k no_job in
    left-stops _ _ i.desk.shared_is (wait_for c.args.session c.args.kind c.args.timeout)
    (dial_of g.C.Clock.given g.C.Clock.least c.args.desk.now) c.args.desk.now.client c.args.jobs.now
    (dial_of g.C.Clock.given g.C.Clock.least c.loop-listed.desk) c.loop-listed.desk.client job (drop (k + 1) c.args.jobs.now) (drop k c.args.jobs.now)
    (drop_more c.args.jobs.now k no_job c.loop-listed-test.true)
    (dial_of g.C.Clock.given g.C.Clock.least c.wait_alone.new.desk) c.wait_alone.new.desk.client c.in-Err.why i.left
    (stopped g.C.Clock.given g.C.Clock.least (wait_for c.args.session c.args.kind c.args.timeout job) c.in-Err.why c.loop-listed.desk c.wait_alone.new.desk c.in-Err.ensures.err)
