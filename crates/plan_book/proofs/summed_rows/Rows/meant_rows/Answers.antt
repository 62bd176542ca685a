use Rattle.std.proofs.Common.{length, arith}
use Rattle.plan_book.proofs.BlockRows.{blocks-any}
use Rattle.plan_book.proofs.summed_rows.Rows.meant_rows.Goals as goal

pub row_alone-requires : goal.row_alone-requires
row_alone-requires c = blocks-any c.self.inside.first_seat (length c.self.inside.blocks.items) 0 c.self.inside.blocks.items c.self.invariant.ordered (omega arith)
