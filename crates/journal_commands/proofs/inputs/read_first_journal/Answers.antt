use Rattle.journal_commands.proofs.inputs.read_first_journal.Goals as goal

pub returns-clause-only : goal.returns-clause-only
returns-clause-only c = λ all j f t. c.read_lines.ensures.only 268_435_456 all j f t
