use Rattle.std.proofs.Common.{refl}
use Rattle.plan_book.proofs.MeantLaws.{among-at, among-none}
use Rattle.plan_book.proofs.targets.row_alone.Goals as goal

pub returns-in-Ok : goal.returns-in-Ok
returns-in-Ok c = among-at c.args.job c.args.rows.now c.args.rows.now c.in-Ok.place c.requires.rising (c.in-Ok.ensures {u = tt}).found refl

pub returns-in-Err : goal.returns-in-Err
returns-in-Err c = among-none c.args.job c.args.rows.now (c.in-Err.ensures {u = tt}).absent
