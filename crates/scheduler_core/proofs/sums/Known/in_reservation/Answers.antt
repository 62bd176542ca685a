use Rattle.std.proofs.Common.{◌∙◌, arith}
use Rattle.plan_book.specs.Blocks.{rows_in}
use Rattle.plan_book.specs.Book.{plan_of}
use Rattle.plan_book.specs.TieLaws.{inside-few}
use Rattle.scheduler_core.specs.Sums.{inside_of}
use Rattle.scheduler_core.proofs.PartLaws.{inside-open}
use Rattle.scheduler_core.proofs.sums.Known.in_reservation.Goals as goal

pub reservation_holding-sum-requires : goal.reservation_holding-sum-requires
reservation_holding-sum-requires c =
    let few = inside-few c.args.number (plan_of c.args.book.now) c.requires.book.fit in
    let same = inside-open c.args.number (plan_of c.args.book.now).rows (rows_in c.open_blocks.result.now) c.requires.book.fit.sound c.open_blocks.ensures in
    omega arith

pub returns-clause-value : goal.returns-clause-value
returns-clause-value c = c.reservation_holding-sum.ensures ∙ inside-open c.args.number (plan_of c.args.book.now).rows (rows_in c.open_blocks.result.now) c.requires.book.fit.sound c.open_blocks.ensures

pub returns-clause-known : goal.returns-clause-known
returns-clause-known c =
    let rows = (plan_of c.args.book.now).rows in
    record {
      arrays = c.requires.known.arrays;
      queues = c.requires.known.queues;
      reservations = c.note.ensures (inside_of rows) c.requires.known.reservations
          (c.reservation_holding-sum.ensures ∙ inside-open c.args.number rows (rows_in c.open_blocks.result.now) c.requires.book.fit.sound c.open_blocks.ensures);
    }
