use Rattle.drmaa_model.specs.Load.{is_member}
use Rattle.plan_book.proofs.book.Book.numbers_of_array.Goals as goal

pub returns : goal.returns
returns c = c.numbers_or_all.ensures (is_member c.args.array) c.numbers_of_array.ensures
