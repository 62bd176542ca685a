use Rattle.std.proofs.Common.{◌≡◌, ◌+◌, drop}
use Rattle.script_asks.specs.Plays as plays
use Rattle.script_play.specs.Along.{after_client_lines, histories}
use Rattle.script_play.specs.Callbacks.{AreCurrentAfter}
use Rattle.script_play.specs.View.{IsNoted, playing}
use Rattle.script_play.proofs.Along.{HeardTo}
use Rattle.script_play.proofs.blocks.play_clients.Given as goal

-- the blocks that are left lead to where all of them do, and the ears have all of those before them
abbrev pub invariant-loop-block : goal.invariant-loop-block
invariant-loop-block g l = record {
  played : plays.play_clients l.script l.names l.number (playing l.player) (drop l.block-index l.blocks) ≡ plays.play_clients l.script l.names 1 (playing l.fn.player) l.script.clients;
  number : l.number ≡ l.block-index + 1;
  config : l.player.ledger.config ≡ l.fn.player.ledger.config;
  start : l.player.start ≡ l.fn.player.start;
  noted : IsNoted l.player;
  current : AreCurrentAfter g.B.Callback.counted g.B.Callback.told l.player.start.callbacks l.player.ledger l.ears;
  begun : l.ears.begun ≡ l.fn.ears.begun;
  along : HeardTo g.B.Callback.counted g.B.Callback.told l.fn.player.start.callbacks l.fn.player.ledger.config
      (histories l.fn.player.start.entries (after_client_lines l.script l.names 1 (playing l.fn.player) l.script.clients))
      (histories l.fn.player.start.entries (after_client_lines l.script l.names l.number (playing l.player) (drop l.block-index l.blocks))) l.fn.ears l.ears;
}
