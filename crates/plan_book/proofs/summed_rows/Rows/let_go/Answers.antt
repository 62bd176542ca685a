use Rattle.std.proofs.Common.{◌∙◌, ap, arith}
use Rattle.plan_book.specs.Blocks.{KeptRows}
use Rattle.plan_book.proofs.RowsKept.{all-kept, same-rows}
use Rattle.plan_book.proofs.summed_rows.Rows.let_go.Goals as goal

pub invariant_of-self : goal.invariant_of-self
invariant_of-self c =
    let old = c.self.inside.blocks.items in
    let new = c.let_go.new.blocks.items in
    let seat = c.self.inside.first_seat in
    same-rows old new seat seat c.self.inside.sums c.self.inside.room c.self.inside.settled c.self.inside.greatest c.self.inside.spans c.self.inside.usage c.self.invariant
    (c.let_go.ensures.are seat (omega (arith, c.min-until.ensures)) c.self.invariant.ordered) (all-kept old new c.let_go.ensures.len c.let_go.ensures.rows) (c.let_go.ensures.rows c.self.inside.settled) (omega (arith, c.let_go.ensures.len))

pub returns-clause-items : goal.returns-clause-items
returns-clause-items c = all-kept c.self.inside.blocks.items c.let_go.new.blocks.items c.let_go.ensures.len c.let_go.ensures.rows ∙ ap (λ (v : KeptRows). v.items) c.self.view_is
