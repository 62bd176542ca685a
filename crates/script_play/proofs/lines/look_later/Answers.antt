use Rattle.script_asks.specs.Plays as plays
use Rattle.script_play.specs.View.{playing}
use Rattle.script_play.proofs.Waits.{called_later, uncalled_later}
use Rattle.script_play.proofs.lines.look_later.Goals as goal

pub returns-in_ok-look-in-Some : goal.returns-in_ok-look-in-Some
returns-in_ok-look-in-Some c =
    called_later c.args.script.now c.args.player.now c.come_to.new.self c.look.new.self c.moment-begun.result c.later.result c.args.timeout c.args.caller c.args.line.now c.in_ok-call.field-0 c.in-Some.call c.in_ok-look-in-Some.field-0
    c.moment-begun.ensures c.later.ensures c.come_to.ensures c.in_ok-call.ensures c.in-Some.is c.in_ok-look-in-Some.ensures

pub returns-in-None : goal.returns-in-None
returns-in-None c =
    let p : plays.Playing = plays.come_later (playing c.args.player.now) c.args.timeout in
    uncalled_later c.args.script.now c.args.player.now c.come_to.new.self c.moment-begun.result c.later.result c.args.timeout c.args.line.now c.in_ok-call.field-0 (λ x. plays.second_look p c.args.caller c.args.line.now x)
    c.moment-begun.ensures c.later.ensures c.come_to.ensures c.in_ok-call.ensures c.in-None.is c.requires
