use Rattle.std.proofs.Common.{◌≡◌, drop}
use Rattle.script_asks.specs.Plays as plays
use Rattle.script_play.specs.Along.{after_lines, histories}
use Rattle.script_play.specs.Callbacks.{AreCurrentAfter}
use Rattle.script_play.specs.Crews.{crew_meant}
use Rattle.script_play.specs.View.{IsNoted, playing}
use Rattle.script_play.proofs.Along.{HeardTo}
use Rattle.script_play.proofs.blocks.play_lines.Given as goal

-- the lines that are left lead to where all of them do, and the ears have all of those before them
abbrev pub invariant-loop-place : goal.invariant-loop-place
invariant-loop-place g l = record {
  played : plays.play_lines l.script (crew_meant l.crew) (playing l.player) (drop l.place l.block) ≡ plays.play_lines l.script (crew_meant l.crew) (playing l.fn.player) l.block;
  config : l.player.ledger.config ≡ l.fn.player.ledger.config;
  start : l.player.start ≡ l.fn.player.start;
  noted : IsNoted l.player;
  current : AreCurrentAfter g.B.Callback.counted g.B.Callback.told l.player.start.callbacks l.player.ledger l.ears;
  begun : l.ears.begun ≡ l.fn.ears.begun;
  along : HeardTo g.B.Callback.counted g.B.Callback.told l.fn.player.start.callbacks l.fn.player.ledger.config
      (histories l.fn.player.start.entries (after_lines l.script (crew_meant l.crew) (playing l.fn.player) l.block))
      (histories l.fn.player.start.entries (after_lines l.script (crew_meant l.crew) (playing l.player) (drop l.place l.block))) l.fn.ears l.ears;
}
