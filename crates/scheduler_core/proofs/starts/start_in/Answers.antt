use Rattle.plan_book.specs.Book.{plan_of}
use Rattle.scheduler_core.proofs.CalendarLaws.{earliest-is}
use Rattle.scheduler_core.proofs.starts.start_in.Goals as goal

pub returns : goal.returns
returns c =
    let book = c.args.book.now in
    earliest-is book.calendar (plan_of book) c.requires.book.fit c.requires.book.tied c.args.frame.now c.earliest.result c.requires.since c.earliest.ensures.fitting c.earliest.ensures.least c.earliest.ensures.none.0
