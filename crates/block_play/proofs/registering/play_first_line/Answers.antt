use Rattle.std.proofs.Common.{◌≡◌, sym, ◌∙◌, subst}
use Rattle.script_lines.specs.declared.lines.Line.{Line}
use Rattle.script_lines.specs.declared.lines.Line.TheVariants as line
use Rattle.block_play.specs.Played.{LeftByLine}
use Rattle.script_text.specs.RegisterTexts.{register-line}
use Rattle.block_play.proofs.Registered.{other-line}
use Rattle.block_play.proofs.registering.play_first_line.Goals as goal

pub returns-then-is_register-clause-line : goal.returns-then-is_register-clause-line
returns-then-is_register-clause-line g c =
    let here : line.Register ≡ c.args.line.now = sym (register-line c.args.line.now (sym c.is_register.ensures ∙ c.if-is_register.true)) in
    subst (λ (l : Line). LeftByLine g.C.Clock.given g.C.Clock.least c.args.script.now c.args.names l c.args.desk.now c.play_register.new.desk c.play_register.result) here (c.play_register.ensures.line c.args.script.now)

pub returns-else-is_register-clause-hub : goal.returns-else-is_register-clause-hub
returns-else-is_register-clause-hub g c =
    let e = c.play_line.ensures in
    other-line c.args.desk.now.shared.now c.args.hub.now c.args.desk.now.shared.now.fixed c.args.script.now c.args.names _ _ _ _ c.args.line.now c.args.desk.now.client c.play_line.new.desk.client c.play_line.result
    (sym c.is_register.ensures ∙ c.if-is_register.false) c.requires.note e.desk.begins e.ok e.err
