use Rattle.std.proofs.Common.{sym, subst, arith}
use Rattle.plan_book.specs.Book.{plan_of}
use Rattle.plan_book.specs.Ties.{IsTied}
use Rattle.reservation_calendar.specs.Schedules.{Schedule}
use Rattle.scheduler_core.proofs.SeenLaws.{fits-seen}
use Rattle.scheduler_core.proofs.demands.has_place.Goals as goal

pub returns : goal.returns
returns c =
    let p = plan_of c.args.book.now in
    let m = c.args.moment in
    fits-seen c.calendar.result.now p m c.args.demand.now.slots m c.args.demand.now.until c.fits.result c.requires.book.fit
    (subst (λ (s : Schedule). IsTied s p) (sym c.calendar.ensures) c.requires.book.tied) c.requires.later (omega arith) c.fits.ensures
