use Rattle.std.proofs.Common.{sym, subst}
use Rattle.drmaa_model.specs.Fit.{reservation_number}
use Rattle.drmaa_model.specs.Requests.{is_other}
use Rattle.plan_book.specs.Places.{AreSorted}
use Rattle.plan_book.proofs.Searched.{rising-filter}
use Rattle.plan_book.proofs.book.Book.drop_reservation.Goals as goal

pub returns-clause-sorted : goal.returns-clause-sorted
returns-clause-sorted c = subst AreSorted (sym c.keep_others.ensures) (rising-filter reservation_number (is_other c.args.reservation) c.args.self.now.reservations.items c.requires.sorted)
