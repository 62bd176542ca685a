use Rattle.std.proofs.Common.{inr, refl, None, subst}
use Rattle.journal_commands.proofs.Judging.{judged_legal, judged_fault}
use Rattle.journal_commands.specs.Replays.{IsReplayOf}
use Rattle.view_commands.specs.Views.{Shows}
use Rattle.view_commands.proofs.judging.judge.Goals as goal

pub returns-in-Ok-clause-decides : goal.returns-in-Ok-clause-decides
returns-in-Ok-clause-decides c =
    inr (judged_legal (Shows c.args.view) c.args.journal c.in-Legal.machine c.in-Ok.field-0.text None
    (subst (IsReplayOf c.args.journal) c.in-Legal.is c.replayed_journal.ensures.replay) (c.in-Ok.ensures.text, refl))

pub returns-in-NotLegal-clause-decides : goal.returns-in-NotLegal-clause-decides
returns-in-NotLegal-clause-decides c =
    inr (judged_fault (Shows c.args.view) c.args.journal c.in-NotLegal.entry c.in-NotLegal.given c.in-NotLegal.machine
    (subst (IsReplayOf c.args.journal) c.in-NotLegal.is c.replayed_journal.ensures.replay))
