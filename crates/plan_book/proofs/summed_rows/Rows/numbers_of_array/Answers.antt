use Rattle.std.proofs.Common.{subst}
use Rattle.plan_book.specs.Blocks.{KeptRows, rows_in}
use Rattle.std.specs.Prelude.{IfSome}
use Rattle.drmaa_model.specs.Load.{is_member}
use Rattle.plan_book.specs.Numbers.{HasNumbersOf}
use Rattle.plan_book.proofs.SpanLaws.{numbers-of_array}
use Rattle.plan_book.proofs.summed_rows.Rows.numbers_of_array.Goals as goal

pub numbers_of-requires : goal.numbers_of-requires
numbers_of-requires c = c.self.invariant.members.sorted.arrays

pub returns : goal.returns
returns c =
    subst (λ (v : KeptRows). IfSome c.numbers_of.result (HasNumbersOf (is_member c.args.array) v.items)) c.self.view_is
    (numbers-of_array c.args.array c.self.inside.spans c.numbers_of.result c.numbers_of.ensures (rows_in c.self.inside.blocks.items) c.self.invariant.members.members)
