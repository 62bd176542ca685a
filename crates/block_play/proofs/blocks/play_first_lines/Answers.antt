use Rattle.std.proofs.Common.{List, [], ℕ, ◌+◌, ◌<◌, take, drop, length, get_or, sym, subst}
use Rattle.std.proofs.lemmas.List.{drop_more, take_more}
use Rattle.script_lines.specs.declared.lines.Line.{Line}
use Rattle.script_lines.specs.declared.lines.Line.TheVariants.{Register as sample}
use Rattle.call_history.specs.Clients.{mine_of}
use Rattle.drmaa_model.specs.declared.configs.Config.{Config}
use Rattle.turn_lock.specs.Tokens.{Named}
use Rattle.notify_hub.specs.HubLaws.{registers-both}
use Rattle.notify_hub.specs.Hubs.{RegistersOn}
use Rattle.block_play.specs.Played.{PlayedLines}
use Rattle.wait_calls.proofs.Seats.{still-both}
use Rattle.block_play.proofs.Stretches.{played-more, stops-lines, split_at}
use Rattle.block_play.proofs.blocks.play_first_lines.Goals as goal

pub returns-in-Err : goal.returns-in-Err
returns-in-Err g c =
    let inv = c.loop-place.invariant in
    let ls = c.args.block.now in
    let i = c.loop-place.place in
    let within : i < length ls = subst (λ (n : ℕ). i < n) c.len-place-end.ensures c.loop-place-test.true in
    let l : Line = get_or ls i sample in
    let line = c.in-Err.ensures.line l (drop (i + 1) ls) (drop_more ls i sample within) in
    record {
      desk = still-both c.args.desk.now.shared.now c.loop-place.desk.shared.now c.play_first_at.new.desk.shared.now c.args.desk.now.client c.loop-place.desk.client c.play_first_at.new.desk.client inv.still line.desk;
      timed = λ caller t. line.timed caller (inv.timed caller t);
      ok = tt;
      err = stops-lines c.args.script.now [] c.loop-place.names ls (take i ls) (drop (i + 1) ls) l
          c.args.desk.now.client c.loop-place.desk.client c.play_first_at.new.desk.client (g.C.Clock.given c.args.desk.now.clock) (g.C.Clock.given c.loop-place.desk.clock) (g.C.Clock.given c.play_first_at.new.desk.clock)
          (g.C.Clock.least c.loop-place.desk.clock) c.in-Err.why c.args.desk.now.shared.now c.loop-place.desk.shared.now inv.still.shared_is
          (split_at ls i sample within) inv.timed line.timed inv.played line.err;
      hub = registers-both c.args.desk.now.shared.now c.args.hub.now c.loop-place.hub c.play_first_at.new.hub c.args.desk.now.client c.loop-place.desk.client c.play_first_at.new.desk.client inv.hub
          (subst (λ (n : Named Config). RegistersOn g.B.Callback.counted g.B.Callback.told n c.loop-place.hub c.loop-place.desk.client c.play_first_at.new.hub c.play_first_at.new.desk.client) inv.still.shared_is c.play_first_at.ensures.hub);
    }

pub loop-place-preserved : goal.loop-place-preserved
loop-place-preserved g c =
    let inv = c.loop-place.invariant in
    let ls = c.args.block.now in
    let i = c.loop-place.place in
    let within : i < length ls = subst (λ (n : ℕ). i < n) c.len-place-end.ensures c.loop-place-test.true in
    let l : Line = get_or ls i sample in
    let line = c.in-Ok.ensures.line l (drop (i + 1) ls) (drop_more ls i sample within) in
    record {
      still = still-both c.args.desk.now.shared.now c.loop-place.desk.shared.now c.play_first_at.new.desk.shared.now c.args.desk.now.client c.loop-place.desk.client c.play_first_at.new.desk.client inv.still line.desk;
      timed = λ caller t. line.timed caller (inv.timed caller t);
      played = subst (λ (ls : List Line). PlayedLines c.args.script.now [] ls 0 (mine_of c.args.desk.now.client) (mine_of c.play_first_at.new.desk.client) c.in-Ok.next (g.C.Clock.least c.play_first_at.new.desk.clock))
          (sym (take_more ls i sample within))
          (played-more c.args.script.now [] c.loop-place.names c.in-Ok.next (take i ls) l (mine_of c.args.desk.now.client) (mine_of c.loop-place.desk.client) (mine_of c.play_first_at.new.desk.client)
          (g.C.Clock.least c.loop-place.desk.clock) (g.C.Clock.least c.play_first_at.new.desk.clock) inv.played line.ok);
      hub = registers-both c.args.desk.now.shared.now c.args.hub.now c.loop-place.hub c.play_first_at.new.hub c.args.desk.now.client c.loop-place.desk.client c.play_first_at.new.desk.client inv.hub
          (subst (λ (n : Named Config). RegistersOn g.B.Callback.counted g.B.Callback.told n c.loop-place.hub c.loop-place.desk.client c.play_first_at.new.hub c.play_first_at.new.desk.client) inv.still.shared_is c.play_first_at.ensures.hub);
    }
