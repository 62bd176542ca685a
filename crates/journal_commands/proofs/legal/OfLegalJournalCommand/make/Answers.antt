use Rattle.std.proofs.Common.{inr}
use Rattle.journal_commands.proofs.Judging.{judged_legal, judged_fault}
use Rattle.journal_commands.proofs.legal.OfLegalJournalCommand.make.Goals as goal

pub returns-in-Ok-clause-decides : goal.returns-in-Ok-clause-decides
returns-in-Ok-clause-decides g c =
    inr (judged_legal (g.C.LegalCommand.Makes c.args.self.command) c.args.journal c.in-Legal.machine c.in-Ok.output.text c.in-Ok.output.full c.in-Legal.ensures.replay c.in-Ok.ensures)

pub returns-in-NotLegal-clause-decides : goal.returns-in-NotLegal-clause-decides
returns-in-NotLegal-clause-decides g c =
    inr (judged_fault (g.C.LegalCommand.Makes c.args.self.command) c.args.journal c.in-NotLegal.entry c.in-NotLegal.given c.in-NotLegal.machine c.in-NotLegal.ensures.replay)
