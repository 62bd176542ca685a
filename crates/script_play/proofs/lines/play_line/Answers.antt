use Rattle.std.proofs.Common.{IfOk, sym, subst, ◌∙◌}
use Rattle.script_asks.specs.Plays as plays
use Rattle.script_play.specs.Crews.{crew_meant}
use Rattle.script_play.specs.Looks.{GoesTo}
use Rattle.script_play.specs.View.{playing}
use Rattle.script_play.specs.declared.crews.Performer.TheVariants as performer
use Rattle.script_play.proofs.Performers.{stopped, performed, set_to}
use Rattle.script_play.proofs.lines.play_line.Goals as goal

pub returns-then-is_full : goal.returns-then-is_full
returns-then-is_full c = stopped c.args.script.now (crew_meant c.args.crew) c.args.player.now c.args.line.now (sym c.is_full.ensures ∙ c.if-is_full.true) c.requires

pub returns-in-Sets : goal.returns-in-Sets
returns-in-Sets c =
    set_to c.args.script.now (crew_meant c.args.crew) c.args.player.now c.come_to.new.self c.args.line.now c.performer_of.result c.in-Sets.moment
    (sym c.is_full.ensures ∙ c.if-is_full.false) c.performer_of.ensures c.in-Sets.is c.come_to.ensures c.requires

pub returns-in-Waits : goal.returns-in-Waits
returns-in-Waits c =
    subst (λ (p : plays.Playing). IfOk c.play_wait.result (λ _. GoesTo c.args.player.now p c.play_wait.new.player))
    (performed c.args.script.now (crew_meant c.args.crew) (playing c.args.player.now) c.args.line.now c.performer_of.result (performer.Waits c.in-Waits.timeout) (sym c.is_full.ensures ∙ c.if-is_full.false) c.performer_of.ensures c.in-Waits.is)
    c.play_wait.ensures

pub returns-in-Client : goal.returns-in-Client
returns-in-Client c =
    subst (λ (p : plays.Playing). IfOk c.play_call.result (λ _. GoesTo c.args.player.now p c.play_call.new.player))
    (performed c.args.script.now (crew_meant c.args.crew) (playing c.args.player.now) c.args.line.now c.performer_of.result performer.Client (sym c.is_full.ensures ∙ c.if-is_full.false) c.performer_of.ensures c.in-Client.is)
    c.play_call.ensures

pub returns-in-Launcher : goal.returns-in-Launcher
returns-in-Launcher c =
    subst (λ (p : plays.Playing). IfOk c.play_call-in-Launcher.result (λ _. GoesTo c.args.player.now p c.play_call-in-Launcher.new.player))
    (performed c.args.script.now (crew_meant c.args.crew) (playing c.args.player.now) c.args.line.now c.performer_of.result performer.Launcher (sym c.is_full.ensures ∙ c.if-is_full.false) c.performer_of.ensures c.in-Launcher.is)
    c.play_call-in-Launcher.ensures

pub returns-in-Reaper : goal.returns-in-Reaper
returns-in-Reaper c =
    subst (λ (p : plays.Playing). IfOk c.play_call-in-Reaper.result (λ _. GoesTo c.args.player.now p c.play_call-in-Reaper.new.player))
    (performed c.args.script.now (crew_meant c.args.crew) (playing c.args.player.now) c.args.line.now c.performer_of.result performer.Reaper (sym c.is_full.ensures ∙ c.if-is_full.false) c.performer_of.ensures c.in-Reaper.is)
    c.play_call-in-Reaper.ensures
