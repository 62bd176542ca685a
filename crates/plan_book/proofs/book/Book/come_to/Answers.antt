use Rattle.std.proofs.Common.{sym, subst}
use Rattle.drmaa_model.specs.Fit.{reservation_number}
use Rattle.drmaa_model.specs.Time.{lasts}
use Rattle.plan_book.specs.Places.{AreSorted}
use Rattle.plan_book.proofs.Searched.{rising-filter}
use Rattle.plan_book.proofs.book.Book.come_to.Goals as goal

pub returns-clause-sorted : goal.returns-clause-sorted
returns-clause-sorted c = subst AreSorted (sym c.keep_lasting.ensures.items) (rising-filter reservation_number (lasts c.moment_at-self.result) c.args.self.now.reservations.items c.requires.sorted)
