use Rattle.std.proofs.Common.{sym, subst}
use Rattle.std.proofs.lemmas.Result.{IfErr-weaker, IfOk-weaker}
use Rattle.script_asks.specs.Plays.{no_attempt}
use Rattle.block_play.specs.declared.stops.Stopped.{Stopped}
use Rattle.block_play.specs.Played.{StopsLine}
use Rattle.block_play.proofs.Made.{still-at, played-once, stopped-once, stopped-for}
use Rattle.block_play.proofs.Untimed.{untimed}
use Rattle.block_play.proofs.calls.make_call.Goals as goal

pub returns-in-Ok : goal.returns-in-Ok
returns-in-Ok g c =
    let s = c.args.script.now in
    let names = c.args.names in
    let l = c.args.line.now in
    let old = c.args.desk.now in
    let new = c.call.new.self in
    let e = c.call.ensures in
    record {
      desk = still-at old.shared.now new.shared.now old.client new.client e.shared e.client e.number e.begins e.own e.legal;
      timed = e.timed (untimed s names no_attempt 0 l c.args.call c.requires.line c.requires.asked);
      ok = IfOk-weaker c.names_with.result _ _ (λ after is before early. played-once s names l before _ _ old.client new.client c.args.call c.in-Ok.reply after c.requires.line c.requires.asked c.in-Ok.ensures.ok is) c.names_with.ensures.ok;
      err = IfErr-weaker c.names_with.result _ _ (λ why is before early.
          subst (λ (w : Stopped). StopsLine old.shared.now.fixed s names l before old.client new.client (g.C.Clock.given old.clock) (g.C.Clock.given new.clock) w) (sym is)
          (stopped-once s names l before old.shared.now.fixed _ _ old.client new.client c.args.call c.in-Ok.reply c.requires.line c.requires.asked c.in-Ok.ensures.ok)) c.names_with.ensures.err;
    }

pub returns-in-Err : goal.returns-in-Err
returns-in-Err g c =
    let s = c.args.script.now in
    let names = c.args.names in
    let l = c.args.line.now in
    let old = c.args.desk.now in
    let new = c.call.new.self in
    let e = c.call.ensures in
    record {
      desk = still-at old.shared.now new.shared.now old.client new.client e.shared e.client e.number e.begins e.own e.legal;
      timed = e.timed (untimed s names no_attempt 0 l c.args.call c.requires.line c.requires.asked);
      ok = tt;
      err = λ before early. subst (λ (w : Stopped). StopsLine old.shared.now.fixed s names l before old.client new.client (g.C.Clock.given old.clock) (g.C.Clock.given new.clock) w) (sym c.stop_for.ensures)
          (stopped-for s names l before old.shared.now.fixed _ _ old.client new.client c.args.call c.in-Err.fault c.requires.line early c.requires.asked c.in-Err.ensures.err);
    }
