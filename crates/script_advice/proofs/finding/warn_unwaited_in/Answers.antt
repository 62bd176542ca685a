use Rattle.std.proofs.Common.{◌++◌, drop, refl}
use Rattle.std.proofs.lemmas.Result.{on_ok_weaker}
use Rattle.script_text.specs.Names.{is_there}
use Rattle.script_advice.specs.Warnings.{unwaited}
use Rattle.script_advice.specs.WarningLaws.{unwaited_more}
use Rattle.script_advice.proofs.finding.warn_unwaited_in.Goals as goal

pub returns : goal.returns
returns c =
    let found = c.args.found.now.items in
    on_ok_weaker c.warn_unwaited_at-warned.result
    (λ h. unwaited_more c.args.at (is_there c.args.awaited.now) c.args.place c.args.block.now c.in_ok-line.line found c.warn_unwaited_at-warned.new.found.items
    (found ++ unwaited c.args.at (is_there c.args.awaited.now) (drop c.args.place c.args.block.now)) c.in_ok-line.ensures h refl)
    c.warn_unwaited_at-warned.ensures
