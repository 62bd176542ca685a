use Rattle.std.proofs.lemmas.Result.{on_ok_weaker}
use Rattle.script_asks.specs.Plays as plays
use Rattle.script_play.specs.View.{playing}
use Rattle.script_play.proofs.Waits.{answered, again, uncalled}
use Rattle.script_play.proofs.lines.play_wait.Goals as goal

pub returns-in-Done : goal.returns-in-Done
returns-in-Done c =
    answered c.args.script.now c.args.player.now c.look.new.self c.moment-begun.result c.args.timeout c.args.caller c.args.line.now c.in_ok-call.field-0 c.in-Some.call c.in_ok-look-in-Some.field-0
    c.moment-begun.ensures c.in_ok-call.ensures c.in-Some.is c.in_ok-look-in-Some.ensures c.in-Done.is

pub returns-in-NotYet : goal.returns-in-NotYet
returns-in-NotYet c =
    on_ok_weaker c.look_later.result
    (again c.args.script.now c.args.player.now c.look.new.self c.look_later.new.player c.moment-begun.result c.args.timeout c.args.caller c.args.line.now c.in_ok-call.field-0 c.in-Some.call c.in_ok-look-in-Some.field-0
    c.moment-begun.ensures c.in_ok-call.ensures c.in-Some.is c.in_ok-look-in-Some.ensures c.in-NotYet.is) c.look_later.ensures

pub returns-in-None : goal.returns-in-None
returns-in-None c =
    let p : plays.Playing = playing c.args.player.now in
    uncalled c.args.script.now c.args.player.now c.moment-begun.result c.args.line.now c.in_ok-call.field-0
    (λ x. plays.after_look p c.args.caller c.args.line.now x (plays.second_look (plays.come_later p c.args.timeout) c.args.caller c.args.line.now x))
    c.moment-begun.ensures c.in_ok-call.ensures c.in-None.is c.requires
