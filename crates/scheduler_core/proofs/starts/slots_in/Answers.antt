use Rattle.std.proofs.Common.{ℕ, ◌+◌, ◌≤◌, refl, sym, subst, arith}
use Rattle.drmaa_types.specs.declared.moments.End.TheVariants.{At}
use Rattle.drmaa_model.specs.RequestLaws.{IsStart, start-is}
use Rattle.plan_book.specs.Book.{plan_of}
use Rattle.reservation_calendar.specs.Fitting.{Fits}
use Rattle.scheduler_core.proofs.CalendarLaws.{largest-is, to-calendar}
use Rattle.scheduler_core.proofs.starts.slots_in.Goals as goal
use Rattle.scheduler_core.proofs.starts.slots_in.Goals.{After-largest}

start : (c : After-largest) → IsStart c.args.frame.now (plan_of c.args.book.now) c.args.from
start c = start-is c.args.frame.now (plan_of c.args.book.now) c.args.from c.requires.start

later : (c : After-largest) → (plan_of c.args.book.now).moment ≤ c.args.from
later c = (let low = (start c).since in let since = c.requires.since in omega arith)

pub returns-in-Some : goal.returns-in-Some
returns-in-Some c =
    let book = c.args.book.now in
    let f = c.args.frame.now in
    let found = c.in-Some.ensures {u = tt} in
    sym (largest-is book.calendar (plan_of book) c.requires.book.fit c.requires.book.tied f c.args.from c.in-Some.slots (later c.before) found.range.0 found.range.1
    (subst (λ (u : ℕ). Fits book.calendar c.in-Some.slots c.args.from (At u)) c.requires.until found.fits)
    (λ k within fits. found.greatest k within (subst (λ (u : ℕ). Fits book.calendar k c.args.from (At u)) (sym c.requires.until) fits)))

pub returns-in-None : goal.returns-in-None
returns-in-None c =
    let book = c.args.book.now in
    let f = c.args.frame.now in
    let fits = to-calendar book.calendar (plan_of book) c.requires.book.fit c.requires.book.tied f.min c.args.from (At (c.args.from + f.span)) (later c.before) (start c.before).fit in
    absurd ((c.in-None.ensures {u = tt}).none.0 refl (subst (λ (u : ℕ). Fits book.calendar f.min c.args.from (At u)) (sym c.requires.until) fits))
