use Rattle.journal_commands.proofs.Going.{goes_keeps}
use Rattle.journal_commands.proofs.recurrences.RecurLegalCommand.make.Goals as goal

pub journal_of-requires : goal.journal_of-requires
journal_of-requires c = goes_keeps c.args.self.words c.args.machine.ledger c.go_on.new.machine.ledger c.in_ok-full.full c.in_ok-full.ensures.goes c.requires
