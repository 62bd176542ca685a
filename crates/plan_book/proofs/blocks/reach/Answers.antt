use Rattle.std.proofs.Common.{subst, arith}
use Rattle.plan_book.specs.Blocks.{AreBlocks}
use Rattle.plan_book.proofs.RowsKept.{all-kept}
use Rattle.plan_book.proofs.blocks.reach.Goals as goal

pub returns-in_err-make_room-clause-all : goal.returns-in_err-make_room-clause-all
returns-in_err-make_room-clause-all c = all-kept c.args.blocks.now.items c.make_room.new.blocks.items c.make_room.ensures.len c.make_room.ensures.rows

pub loop-init : goal.loop-init
loop-init c =
    let old = c.args.blocks.now.items in
    let new = c.make_room.new.blocks.items in
    record {
      are = c.make_room.ensures.are;
      seats = λ from is. subst (λ n. AreBlocks n 0 new) c.block_of.ensures ((c.in_ok-make_room.ensures {u = tt}).seats from is);
      all = all-kept old new c.make_room.ensures.len c.make_room.ensures.rows;
      rows = λ n within. c.make_room.ensures.rows n;
      more = omega (arith, c.make_room.ensures.len);
      reached = omega (arith, c.len-counter.ensures, c.make_room.new.blocks.ok.0);
    }
