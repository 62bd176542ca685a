use Rattle.std.proofs.Common.{ℕ, sym, ◌∙◌, ap, arith}
use Rattle.drmaa_model.specs.Load.{in_queue}
use Rattle.plan_book.specs.Blocks.{rows_in}
use Rattle.plan_book.specs.Book.{plan_of}
use Rattle.plan_book.specs.TieLaws.{queue-few}
use Rattle.scheduler_core.proofs.PartLaws.{queue-open}
use Rattle.scheduler_core.proofs.sums.Known.in_queue.Goals as goal

pub queue_holding-sum-requires : goal.queue_holding-sum-requires
queue_holding-sum-requires c =
    let few = queue-few c.args.place (plan_of c.args.book.now) c.requires.book.fit in
    let same = queue-open c.args.place (plan_of c.args.book.now).rows (rows_in c.open_blocks.result.now) c.requires.book.fit.sound c.open_blocks.ensures in
    omega arith

pub returns-clause-value : goal.returns-clause-value
returns-clause-value c = c.queue_holding-sum.ensures ∙ queue-open c.args.place (plan_of c.args.book.now).rows (rows_in c.open_blocks.result.now) c.requires.book.fit.sound c.open_blocks.ensures

pub returns-clause-known : goal.returns-clause-known
returns-clause-known c =
    let rows = (plan_of c.args.book.now).rows in
    record {
      arrays = c.requires.known.arrays;
      queues = c.note.ensures (λ place. in_queue place rows) c.requires.known.queues
          (c.queue_holding-sum.ensures ∙ queue-open c.args.place rows (rows_in c.open_blocks.result.now) c.requires.book.fit.sound c.open_blocks.ensures ∙ ap (λ (n : ℕ). in_queue n rows) (sym c.from-number.ensures));
      reservations = c.requires.known.reservations;
    }
