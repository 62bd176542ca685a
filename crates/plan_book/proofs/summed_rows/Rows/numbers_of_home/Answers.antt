use Rattle.std.proofs.Common.{Some, subst}
use Rattle.plan_book.specs.Blocks.{KeptRows, rows_in}
use Rattle.std.specs.Prelude.{IfSome}
use Rattle.drmaa_model.specs.declared.rows.Row.{Row}
use Rattle.drmaa_model.specs.Homes.{is_same_home}
use Rattle.plan_book.specs.Numbers.{HasNumbersOf}
use Rattle.plan_book.proofs.SpanLaws.{numbers-of_home}
use Rattle.plan_book.proofs.summed_rows.Rows.numbers_of_home.Goals as goal

pub numbers_of-requires : goal.numbers_of-requires
numbers_of-requires c = c.self.invariant.members.sorted.homes

pub returns : goal.returns
returns c =
    subst (λ (v : KeptRows). IfSome c.numbers_of.result (HasNumbersOf (λ (row : Row). is_same_home (Some c.args.home) row.home) v.items)) c.self.view_is
    (numbers-of_home c.args.home c.self.inside.spans c.numbers_of.result c.numbers_of.ensures (rows_in c.self.inside.blocks.items) c.self.invariant.members.members)
