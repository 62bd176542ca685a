use Rattle.std.proofs.Common.{sym, ◌∙◌}
use Rattle.call_history.specs.Clients.{mine_of}
use Rattle.wait_calls.proofs.Seats.{still-same}
use Rattle.block_play.proofs.Made.{stopped-still, played-nothing}
use Rattle.block_play.proofs.calls.play_call.Goals as goal

pub make_call-requires-clause-asked : goal.make_call-requires-clause-asked
make_call-requires-clause-asked g c = sym c.in-Ok.ensures ∙ c.in-Some.is

pub returns-in_default : goal.returns-in_default
returns-in_default g c = record {
  desk = still-same c.args.desk.now.shared.now c.args.desk.now.client c.requires.client;
  timed = λ caller t. t;
  ok = tt;
  err = λ before early. stopped-still c.args.script.now c.args.names c.args.line.now before c.args.desk.now.shared.now.fixed c.args.desk.now.client _;
}

pub returns-in-None : goal.returns-in-None
returns-in-None g c = record {
  desk = still-same c.args.desk.now.shared.now c.args.desk.now.client c.requires.client;
  timed = λ caller t. t;
  ok = λ before early. played-nothing c.args.script.now c.args.names c.args.line.now before (mine_of c.args.desk.now.client) _ early (sym c.in-Ok.ensures ∙ c.in-None.is);
  err = tt;
}
