use Rattle.std.proofs.Common.{arith}
use Rattle.plan_book.proofs.book.Book.held.Goals as goal

pub held-requires : goal.held-requires
held-requires c = (let within = c.requires.book.fit.within in omega arith)
