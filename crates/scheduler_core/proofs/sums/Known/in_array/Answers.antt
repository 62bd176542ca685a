use Rattle.std.proofs.Common.{◌∙◌, arith}
use Rattle.plan_book.specs.Book.{plan_of}
use Rattle.plan_book.specs.Meant.{rows_of}
use Rattle.plan_book.specs.TieLaws.{members-few}
use Rattle.scheduler_core.specs.Sums.{members_of}
use Rattle.scheduler_core.proofs.PartLaws.{members-part}
use Rattle.scheduler_core.proofs.sums.Known.in_array.Goals as goal

pub members_holding-sum-requires : goal.members_holding-sum-requires
members_holding-sum-requires c =
    let few = members-few c.args.array (plan_of c.args.book.now) c.requires.book.fit in
    let same = members-part c.args.array (plan_of c.args.book.now).rows (rows_of c.meant_rows.result) c.meant_rows.ensures in
    omega arith

pub returns-clause-value : goal.returns-clause-value
returns-clause-value c = c.members_holding-sum.ensures ∙ members-part c.args.array (plan_of c.args.book.now).rows (rows_of c.meant_rows.result) c.meant_rows.ensures

pub returns-clause-known : goal.returns-clause-known
returns-clause-known c =
    let rows = (plan_of c.args.book.now).rows in
    record {
      arrays = c.note.ensures (members_of rows) c.requires.known.arrays (c.members_holding-sum.ensures ∙ members-part c.args.array rows (rows_of c.meant_rows.result) c.meant_rows.ensures);
      queues = c.requires.known.queues;
      reservations = c.requires.known.reservations;
    }
