use Rattle.std.proofs.Common.{◌≡◌, ◌+◌, ◌<◌, ◌≤◌, length, max, refl, sym, ◌∙◌, ap, subst, arith}
use Rattle.std.proofs.lemmas.Result.{err_from_is_err_and}
use Rattle.drmaa_model.specs.declared.rows.Row.{Row}
use Rattle.drmaa_model.specs.Fit.{IsFit}
use Rattle.drmaa_model.specs.Plan.{Plan}
use Rattle.drmaa_model.specs.RowLaws.{all-both, all-implied}
use Rattle.drmaa_model.specs.Size.{weight}
use Rattle.drmaa_model.specs.TimeLaws.{weight-advance}
use Rattle.reservation_calendar.specs.Schedules.{Schedule}
use Rattle.std.specs.List.{AllByRecursion}
use Rattle.plan_book.specs.declared.rows.Places.{Places}
use Rattle.plan_book.specs.Blocks.{IsInside}
use Rattle.plan_book.specs.Book.{plan_of, joined, HasFewQueues}
use Rattle.plan_book.specs.MeetLaws.{barred-meets}
use Rattle.plan_book.specs.Occasions.{plan_at}
use Rattle.plan_book.specs.Occasions.Meets.{served, short}
use Rattle.plan_book.specs.Quiet.{block_of}
use Rattle.plan_book.specs.Ties.{IsTied, let_go_of}
use Rattle.plan_book.specs.TieLaws.{tied-advance}
use Rattle.plan_book.proofs.ArrivalLaws.{joined-weight, tied-joined}
use Rattle.plan_book.proofs.PartLaws.{all-right}
use Rattle.plan_book.proofs.book.Book.push_rows.Goals as goal
use Rattle.plan_book.proofs.book.Book.push_rows.Goals.{After-len, After-put_rows}

plan : (c : After-put_rows) → plan_of c.put_rows.new.self ≡ joined c.args.rows.items c.args.arrays (plan_at c.args.occasion (plan_of c.args.self.now))
plan c = c.put_rows.ensures.plan ∙ ap (joined c.args.rows.items c.args.arrays) (c.advance.ensures.plan ∙ ap (plan_at c.args.occasion) c.make_seats.ensures.plan)

-- the weight in the end
size : (c : After-len) → c.weight.result + c.len.result ≡ weight (joined c.args.rows.items c.args.arrays (plan_at c.args.occasion (plan_of c.args.self.now)))
size c =
    let p = plan_of c.args.self.now in
    omega (arith, weight-advance c.args.occasion.entry c.args.occasion.at p, joined-weight c.args.rows.items c.args.arrays (plan_at c.args.occasion p) c.requires.waits, c.weight.ensures, c.len.ensures)

pub returns-clause-meets : goal.returns-clause-meets
returns-clause-meets c =
    let same = size (goal.at.returns-clause-meets c).After-len in
    served (record { answered = refl; plan = plan c; within = omega (arith, same, (c.in_ok-admit.ensures {u = tt}).within); memory = (c.in_ok-admit.ensures {u = tt}).placed })

-- the blocks of those that come in are there
pub put_rows-requires-clause-covered : goal.put_rows-requires-clause-covered
put_rows-requires-clause-covered c =
    let p = plan_of c.args.self.now in
    let at = c.args.occasion in
    let rows = c.args.rows.items in
    let reached = (c.in_ok-make_seats.ensures {u = tt}).blocks in
    let next : c.make_seats.new.self.next_job ≡ p.next_job = ap (λ (x : Plan). x.next_job) c.make_seats.ensures.plan in
    all-implied (λ (row : Row). row.job.0 < p.next_job + length rows) (λ (row : Row). block_of row.job.0 < length c.advance.new.self.alarm.ends.items)
    (λ row below. omega (arith, below, reached, next, c.advance.ensures.blocks, c.len-2.ensures)) rows
    (all-right (λ (row : Row). row.job.0 < p.next_job + length rows) (plan_at at p).rows rows c.requires.fit.jobs.below)

pub put_rows-requires-clause-seats : goal.put_rows-requires-clause-seats
put_rows-requires-clause-seats c =
    let p = plan_of c.args.self.now in
    let at = c.args.occasion in
    let rows = c.args.rows.items in
    let made = c.in_ok-make_seats.ensures {u = tt} in
    let reached = made.seats in
    let lowest = made.first_seat in
    let first = c.lowest_number.result in
    let seats = c.advance.ensures.seats in
    let next : c.make_seats.new.self.next_job ≡ p.next_job = ap (λ (x : Plan). x.next_job) c.make_seats.ensures.plan in
    let Below : Row → Type 0 = λ row. row.job.0 < p.next_job + length rows in
    let Above : Row → Type 0 = λ row. first ≤ row.job.0 in
    all-implied (λ (row : Row). Below row × Above row) (λ (row : Row). IsInside c.advance.new.self.rows.seats (block_of row.job.0))
    (λ row both.
    (let below = both.0 in
    let above = both.1 in
    (omega (arith, above, lowest, ap (λ (s : Places). s.from) seats), omega (arith, below, reached, next, ap (λ (s : Places). s.until) seats, c.len-2.ensures)))) rows
    (all-both Below Above rows (all-right Below (plan_at at p).rows rows c.requires.fit.jobs.below) (subst (AllByRecursion Above) c.deref.ensures.value c.lowest_number.ensures.before))

tied : (c : After-put_rows) → IsTied c.put_rows.new.self.calendar (plan_of c.put_rows.new.self)
tied c =
    let p = plan_of c.args.self.now in
    let at = c.args.occasion.at in
    let s = c.args.self.now.calendar in
    let calendar : c.put_rows.new.self.calendar ≡ let_go_of (max p.moment at) p.reservations s =
    c.put_rows.ensures.calendar ∙ c.advance.ensures.calendar
    ∙ ap (λ (x : Plan). let_go_of (max x.moment at) x.reservations c.make_seats.new.self.calendar) c.make_seats.ensures.plan
    ∙ ap (let_go_of (max p.moment at) p.reservations) c.make_seats.ensures.calendar in
    subst (λ (t : Schedule). IsTied t (plan_of c.put_rows.new.self)) (sym calendar)
    (subst (IsTied (let_go_of (max p.moment at) p.reservations s)) (sym (plan c))
    (tied-joined (let_go_of (max p.moment at) p.reservations s) c.args.rows.items c.args.arrays (plan_at c.args.occasion p) c.requires.waits (tied-advance s c.args.occasion.entry at p c.requires.book.fit c.requires.book.tied)))

pub returns-clause-book : goal.returns-clause-book
returns-clause-book c =
    let same = size (goal.at.returns-clause-book c).After-len in
    record {
      room = c.put_rows.ensures.room;
      fit = subst IsFit (sym (plan c)) c.requires.fit;
      light = omega (arith, ap weight (plan c), same, (c.in_ok-admit.ensures {u = tt}).within, c.args.occasion.limited);
      queues = subst HasFewQueues (sym (plan c)) c.requires.book.queues;
      tied = tied c;
      quiet = c.put_rows.ensures.quiet;
    }

pub returns-in_err-admit-clause-meets : goal.returns-in_err-admit-clause-meets
returns-in_err-admit-clause-meets c =
    let e = err_from_is_err_and c.from_residual.result c.from_residual.ensures.1 in
    let barred = c.in_err-admit.ensures {u = tt} in
    let same = size (goal.at.returns-in_err-admit-clause-meets c).After-len in
    rw (e.1, e.2) (barred-meets c.args.occasion tt _ (plan_of c.args.self.now) _ _ barred.full barred.short (omega (arith, same)))

pub returns-in_err-make_seats-clause-meets : goal.returns-in_err-make_seats-clause-meets
returns-in_err-make_seats-clause-meets c =
    let e = err_from_is_err_and c.from_residual-in_err-make_seats.result c.from_residual-in_err-make_seats.ensures.1 in
    let same = size (goal.at.returns-in_err-make_seats-clause-meets c).After-len in
    rw (e.1, e.2) (short (record { answered = refl; within = omega (arith, same, (c.in_ok-admit.ensures {u = tt}).within); plan = c.make_seats.ensures.plan }))
