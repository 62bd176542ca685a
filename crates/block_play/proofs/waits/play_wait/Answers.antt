use Rattle.std.proofs.Common.{sym, ap, ◌∙◌}
use Rattle.script_asks.specs.Asks.{number_of, numbers_of}
use Rattle.call_history.specs.Clients.{mine_of}
use Rattle.block_play.specs.Waits.{wait_line}
use Rattle.block_play.proofs.Awaited.{unnamed, unlisted, reached-played, refused-played, refused-stops}
use Rattle.wait_calls.proofs.Seats.{still-same, still-stays}
use Rattle.block_play.proofs.Made.{stopped-still, played-nothing}
use Rattle.block_play.proofs.waits.play_wait.Goals as goal

pub returns-in_default : goal.returns-in_default
returns-in_default g c =
    let s = c.args.script.now in
    let names = c.args.names in
    let desk = c.args.desk.now in
    record {
      desk = still-same desk.shared.now desk.client c.requires;
      timed = λ caller t. t;
      ok = λ before early. played-nothing s names (wait_line c.args.kind c.args.session.now c.args.timeout c.args.jobs.now) before (mine_of desk.client) _ early
          (unnamed s names c.args.kind c.args.session.now c.args.timeout c.args.jobs.now (ap (λ n. number_of n c.args.session.now) (sym c.given.ensures) ∙ sym c.in_default.ensures));
      err = tt;
    }

pub returns-in_default-numbers_of : goal.returns-in_default-numbers_of
returns-in_default-numbers_of g c =
    let desk = c.args.desk.now in
    record {
      desk = still-same desk.shared.now desk.client c.requires;
      timed = λ caller t. t;
      ok = tt;
      err = λ before early. stopped-still c.args.script.now c.args.names (wait_line c.args.kind c.args.session.now c.args.timeout c.args.jobs.now) before desk.shared.now.fixed desk.client _;
    }

pub returns-in_default-jobs : goal.returns-in_default-jobs
returns-in_default-jobs g c =
    let s = c.args.script.now in
    let names = c.args.names in
    let desk = c.args.desk.now in
    record {
      desk = still-same desk.shared.now desk.client c.requires;
      timed = λ caller t. t;
      ok = λ before early. played-nothing s names (wait_line c.args.kind c.args.session.now c.args.timeout c.args.jobs.now) before (mine_of desk.client) _ early
          (unlisted s names c.args.kind c.args.session.now c.args.timeout c.args.jobs.now c.in-Some.session
          (ap (λ n. number_of n c.args.session.now) (sym c.given.ensures) ∙ sym c.in-Some.ensures)
          (ap (λ n. numbers_of n c.args.jobs.now) (sym c.given-2.ensures) ∙ (sym c.in-Ok.ensures ∙ c.in_default-jobs.is)));
      err = tt;
    }

pub returns-in-Ok-wait : goal.returns-in-Ok-wait
returns-in-Ok-wait g c =
    let desk = c.args.desk.now in
    let new = c.wait.new.desk in
    let e = c.wait.ensures in
    record {
      desk = still-stays desk.shared.now new.shared.now desk.client new.client e.desk e.begins;
      timed = e.timed;
      ok = λ before early.
          reached-played c.args.script.now c.args.names c.args.kind c.args.session.now c.args.timeout c.args.jobs.now c.in-Some.session c.in-Some-jobs.jobs
          (ap (λ n. number_of n c.args.session.now) (sym c.given.ensures) ∙ sym c.in-Some.ensures)
          (ap (λ n. numbers_of n c.args.jobs.now) (sym c.given-2.ensures) ∙ (sym c.in-Ok.ensures ∙ c.in-Some-jobs.is))
          desk.shared.now.fixed _ _ desk.client new.client before c.in-Ok-wait.field-0 early c.in-Ok-wait.ensures.ok;
      err = tt;
    }

pub returns-in-Some-stop_of : goal.returns-in-Some-stop_of
returns-in-Some-stop_of g c =
    let desk = c.args.desk.now in
    let new = c.wait.new.desk in
    let e = c.wait.ensures in
    record {
      desk = still-stays desk.shared.now new.shared.now desk.client new.client e.desk e.begins;
      timed = e.timed;
      ok = tt;
      err = λ before early.
          refused-stops c.args.script.now c.args.names c.args.kind c.args.session.now c.args.timeout c.args.jobs.now c.in-Some.session c.in-Some-jobs.jobs
          (ap (λ n. number_of n c.args.session.now) (sym c.given.ensures) ∙ sym c.in-Some.ensures)
          (ap (λ n. numbers_of n c.args.jobs.now) (sym c.given-2.ensures) ∙ (sym c.in-Ok.ensures ∙ c.in-Some-jobs.is))
          desk.shared.now.fixed _ _ desk.client new.client before c.in-Err.why c.in-Some-stop_of.stopped early (sym c.in-Some-stop_of.ensures) c.in-Err.ensures.err;
    }

pub returns-in-None : goal.returns-in-None
returns-in-None g c =
    let desk = c.args.desk.now in
    let new = c.wait.new.desk in
    let e = c.wait.ensures in
    record {
      desk = still-stays desk.shared.now new.shared.now desk.client new.client e.desk e.begins;
      timed = e.timed;
      ok = λ before early.
          refused-played c.args.script.now c.args.names c.args.kind c.args.session.now c.args.timeout c.args.jobs.now c.in-Some.session c.in-Some-jobs.jobs
          (ap (λ n. number_of n c.args.session.now) (sym c.given.ensures) ∙ sym c.in-Some.ensures)
          (ap (λ n. numbers_of n c.args.jobs.now) (sym c.given-2.ensures) ∙ (sym c.in-Ok.ensures ∙ c.in-Some-jobs.is))
          desk.shared.now.fixed _ _ desk.client new.client before c.in-Err.why early (sym c.in-None.ensures) c.in-Err.ensures.err c.in-Err.ensures.err.decided;
      err = tt;
    }
