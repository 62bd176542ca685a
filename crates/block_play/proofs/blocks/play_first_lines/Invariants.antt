use Rattle.std.proofs.Common.{[], take}
use Rattle.call_history.specs.Clients.{mine_of, IsStillAt}
use Rattle.call_history.specs.Timed.{StaysTimed}
use Rattle.notify_hub.specs.Hubs.{RegistersOn}
use Rattle.block_play.specs.Played.{PlayedLines}
use Rattle.block_play.proofs.blocks.play_first_lines.Given as goal

-- the lines before this one were played
abbrev pub invariant-loop-place : goal.invariant-loop-place
invariant-loop-place g l = record {
  still : IsStillAt l.fn.desk.shared.now l.fn.desk.client l.desk.shared.now l.desk.client;
  timed : StaysTimed (mine_of l.fn.desk.client) (g.C.Clock.given l.fn.desk.clock) (mine_of l.desk.client) (g.C.Clock.given l.desk.clock);
  played : PlayedLines l.script [] (take l.place l.block) 0 (mine_of l.fn.desk.client) (mine_of l.desk.client) l.names (g.C.Clock.least l.desk.clock);
  hub : RegistersOn g.B.Callback.counted g.B.Callback.told l.fn.desk.shared.now l.fn.hub l.fn.desk.client l.hub l.desk.client;
}
