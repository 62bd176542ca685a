use Rattle.plan_book.proofs.RowsKept.{same-rows}
use Rattle.plan_book.proofs.summed_rows.Rows.reach.Goals as goal

pub invariant_of-self : goal.invariant_of-self
invariant_of-self c =
    let seat = c.self.inside.first_seat in
    same-rows c.self.inside.blocks.items c.reach.new.blocks.items seat seat c.self.inside.sums c.self.inside.room c.self.inside.settled c.self.inside.greatest c.self.inside.spans c.self.inside.usage c.self.invariant
    (c.reach.ensures.are seat c.self.invariant.ordered) c.reach.ensures.all (c.reach.ensures.rows c.self.inside.settled c.self.invariant.settled.within) c.reach.ensures.more
