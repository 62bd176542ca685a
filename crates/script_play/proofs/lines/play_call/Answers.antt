use Rattle.script_asks.specs.Plays as plays
use Rattle.script_play.specs.View.{playing}
use Rattle.script_play.proofs.Waits.{called, uncalled}
use Rattle.script_play.proofs.lines.play_call.Goals as goal

pub returns-in_ok-look-in-Ok-Some : goal.returns-in_ok-look-in-Ok-Some
returns-in_ok-look-in-Ok-Some c =
    called c.args.script.now c.args.player.now c.look.new.self c.moment-begun.result c.args.caller c.args.line.now c.in-Ok-Some.field-0 c.in-Ok-Some.call c.in_ok-look-in-Ok-Some.field-0
    c.moment-begun.ensures c.in-Ok-Some.ensures c.in-Ok-Some.field-0-is c.in_ok-look-in-Ok-Some.ensures

pub returns-in-Ok-None : goal.returns-in-Ok-None
returns-in-Ok-None c =
    let p : plays.Playing = playing c.args.player.now in
    uncalled c.args.script.now c.args.player.now c.moment-begun.result c.args.line.now c.in-Ok-None.field-0 (λ x. plays.after_look p c.args.caller c.args.line.now x p)
    c.moment-begun.ensures c.in-Ok-None.ensures c.in-Ok-None.field-0-is c.requires
