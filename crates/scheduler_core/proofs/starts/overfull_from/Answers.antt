use Rattle.plan_book.specs.Book.{plan_of}
use Rattle.scheduler_core.proofs.CalendarLaws.{overfull-is}
use Rattle.scheduler_core.proofs.starts.overfull_from.Goals as goal

pub returns : goal.returns
returns c =
    let book = c.args.book.now in
    overfull-is book.calendar (plan_of book) c.requires.book.fit c.requires.book.tied c.args.slots c.args.from c.args.until c.first_overfull.result c.requires.since
    c.first_overfull.ensures.overfull c.first_overfull.ensures.least c.first_overfull.ensures.none.0
