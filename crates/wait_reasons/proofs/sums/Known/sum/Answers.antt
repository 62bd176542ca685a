use Rattle.plan_book.specs.Blocks.{rows_in}
use Rattle.wait_reasons.proofs.sums.Known.sum.Goals as goal

pub returns-clause-known : goal.returns-clause-known
returns-clause-known c = c.note.ensures (rows_in c.args.blocks.now) c.requires.known c.sum_in-sum.ensures
