use Rattle.std.proofs.Common.{sym, ap, subst, ◌∙◌}
use Rattle.script_lines.specs.declared.lines.Line.{Line}
use Rattle.script_lines.specs.declared.lines.Line.TheVariants as line
use Rattle.block_play.specs.Played.{LeftByLine}
use Rattle.block_play.proofs.lines.play_line.Goals as goal

pub returns-in-WaitStarted : goal.returns-in-WaitStarted
returns-in-WaitStarted g c =
    subst (λ (l : Line). LeftByLine g.C.Clock.given g.C.Clock.least c.args.script.now c.args.names l c.args.desk.now c.play_wait.new.desk c.play_wait.result)
    (ap (λ session. line.WaitStarted session c.in-WaitStarted.timeout c.as_slice.result.now) c.get.ensures
    ∙ (ap (λ jobs. line.WaitStarted c.in-WaitStarted.session c.in-WaitStarted.timeout jobs) c.as_slice.ensures ∙ sym c.in-WaitStarted.is)) c.play_wait.ensures

pub returns-in-WaitTerminated : goal.returns-in-WaitTerminated
returns-in-WaitTerminated g c =
    subst (λ (l : Line). LeftByLine g.C.Clock.given g.C.Clock.least c.args.script.now c.args.names l c.args.desk.now c.play_wait-in-WaitTerminated.new.desk c.play_wait-in-WaitTerminated.result)
    (ap (λ session. line.WaitTerminated session c.in-WaitTerminated.timeout c.as_slice-in-WaitTerminated.result.now) c.get-in-WaitTerminated.ensures
    ∙ (ap (λ jobs. line.WaitTerminated c.in-WaitTerminated.session c.in-WaitTerminated.timeout jobs) c.as_slice-in-WaitTerminated.ensures ∙ sym c.in-WaitTerminated.is)) c.play_wait-in-WaitTerminated.ensures
