use Rattle.drmaa_model.specs.RequestLaws.{start-is}
use Rattle.plan_book.specs.Book.{plan_of}
use Rattle.scheduler_core.proofs.requests.offer_from.Goals as goal

pub end_of-until-requires : goal.end_of-until-requires
end_of-until-requires c = (start-is c.args.frame.now (plan_of c.args.book.now) c.args.from c.requires.start).inside
