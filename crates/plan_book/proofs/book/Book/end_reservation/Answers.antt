use Rattle.std.proofs.Common.{◌≡◌, List, length, refl, sym, ◌∙◌, ap, subst, arith}
use Rattle.std.specs.List.{AllByRecursion}
use Rattle.drmaa_types.specs.declared.moments.End.{End}
use Rattle.drmaa_model.specs.declared.rows.Row.{Row}
use Rattle.drmaa_model.specs.Fit.{IsFit, IsRising, IsSound, number_of}
use Rattle.drmaa_model.specs.FitLaws.{advance-fit, fewer-fit, expire-fit, call_in-fit}
use Rattle.drmaa_model.specs.Plan.{Plan}
use Rattle.drmaa_model.specs.Requests.{without_reservation, is_other}
use Rattle.drmaa_model.specs.Size.{weight}
use Rattle.drmaa_model.specs.Time.{expire, call_in}
use Rattle.drmaa_model.specs.TimeLaws.{weight-advance, weight-expire, weight-call_in}
use Rattle.reservation_calendar.specs.declared.bookings.Key.TheVariants.{Reservation}
use Rattle.reservation_calendar.specs.Schedules.{Schedule, without}
use Rattle.plan_book.specs.declared.alarm_blocks.Alarm.{Alarm}
use Rattle.plan_book.specs.Book.{plan_of, HasFewQueues}
use Rattle.plan_book.specs.MeetLaws.{barred-meets}
use Rattle.plan_book.specs.Occasions.{plan_at}
use Rattle.plan_book.specs.Occasions.Meets.{served}
use Rattle.plan_book.specs.Quiet.{AreCovered}
use Rattle.plan_book.specs.Ties.{IsTied}
use Rattle.plan_book.specs.TieLaws.{tied-then, tied-ended, tied-passed}
use Rattle.plan_book.proofs.BlockLaws.{covered-after, spared-none}
use Rattle.plan_book.proofs.book.Book.end_reservation.Goals as goal
use Rattle.plan_book.proofs.book.Book.end_reservation.Goals.{After-all_blocks, After-weight, After-sweep}

plan : (c : After-sweep) → plan_of c.sweep.new.self ≡ call_in (expire c.args.occasion.entry (without_reservation c.args.reservation (plan_at c.args.occasion (plan_of c.args.self.now))))
plan c = c.sweep.ensures.plan ∙ ap (λ (p : Plan). call_in (expire c.args.occasion.entry p)) (c.drop_reservation.ensures.plan ∙ ap (without_reservation c.args.reservation) c.advance.ensures.plan)

-- the weight in the end
size : (c : After-weight) → c.weight.result ≡ weight (call_in (expire c.args.occasion.entry (without_reservation c.args.reservation (plan_at c.args.occasion (plan_of c.args.self.now)))))
size c =
    let p = plan_of c.args.self.now in
    let left = without_reservation c.args.reservation (plan_at c.args.occasion p) in
    let same : weight (call_in (expire c.args.occasion.entry left)) ≡ weight left = weight-call_in (expire c.args.occasion.entry left) ∙ weight-expire c.args.occasion.entry left in
    omega (arith, weight-advance c.args.occasion.entry c.args.occasion.at p, same, c.weight.ensures)

pub returns-clause-meets : goal.returns-clause-meets
returns-clause-meets c =
    let same = size (goal.at.returns-clause-meets c).After-weight in
    served (record { answered = refl; plan = plan c; within = omega (arith, same, (c.in_default.ensures {u = tt}).within); memory = (c.in_default.ensures {u = tt}).placed })

pub returns-clause-book : goal.returns-clause-book
returns-clause-book c =
    let p = plan_of c.args.self.now in
    let q = plan_at c.args.occasion p in
    let left = without_reservation c.args.reservation q in
    let fit_q : IsFit q = advance-fit c.args.occasion.entry c.args.occasion.at p c.requires.book.fit in
    let fit_left : IsFit left = fewer-fit q.moment (is_other c.args.reservation) q (omega arith) fit_q in
    let same = size (goal.at.returns-clause-book c).After-weight in
    let tied_q : IsTied c.advance.new.self.calendar q = tied-then c.args.self.now.calendar c.advance.new.self.calendar c.args.occasion.entry c.args.occasion.at p q c.requires.book.fit c.requires.book.tied c.advance.ensures.calendar refl in
    let calendar : c.sweep.new.self.calendar ≡ record c.advance.new.self.calendar { bookings = without (Reservation c.args.reservation) c.advance.new.self.calendar.bookings } =
    c.sweep.ensures.calendar ∙ c.drop_reservation.ensures.calendar in
    record {
      room = c.sweep.ensures.room;
      fit = subst IsFit (sym (plan c)) (call_in-fit (expire c.args.occasion.entry left) (expire-fit c.args.occasion.entry left fit_left));
      light = omega (arith, ap weight (plan c), same, c.weight.ensures, c.requires.book.light);
      queues = subst HasFewQueues (sym (plan c)) c.requires.book.queues;
      tied = subst (λ (s : Schedule). IsTied s (plan_of c.sweep.new.self)) (sym calendar)
          (subst (IsTied (record c.advance.new.self.calendar { bookings = without (Reservation c.args.reservation) c.advance.new.self.calendar.bookings })) (sym (plan c))
          (tied-passed _ c.args.occasion.entry left fit_left (tied-ended c.advance.new.self.calendar q c.args.reservation tied_q)));
      quiet = c.sweep.ensures.quiet;
    }

-- the jobs that it goes over are those of the plan with the reservation, and their blocks are there
ends-same : (c : After-all_blocks) → c.drop_reservation.new.self.alarm.ends.items ≡ c.advance.new.self.alarm.ends.items
ends-same c = ap (λ (a : Alarm). a.ends.items) c.drop_reservation.ensures.alarm

rows-same : (c : After-all_blocks) → c.drop_reservation.new.self.rows.items ≡ c.advance.new.self.rows.items
rows-same c = ap (λ (p : Plan). p.rows) c.drop_reservation.ensures.plan

covered : (c : After-all_blocks) → AreCovered c.drop_reservation.new.self.alarm.ends.items c.drop_reservation.new.self.rows.items
covered c =
    covered-after c.advance.new.self.alarm (plan_of c.advance.new.self) c.drop_reservation.new.self.alarm.ends.items c.drop_reservation.new.self.rows.items (ends-same c) (rows-same c) c.advance.ensures.quiet

pub sweep-requires-clause-rising : goal.sweep-requires-clause-rising
sweep-requires-clause-rising c =
    let p = plan_of c.args.self.now in
    let fit_q : IsFit (plan_of c.advance.new.self) = subst IsFit (sym c.advance.ensures.plan) (advance-fit c.args.occasion.entry c.args.occasion.at p c.requires.book.fit) in
    subst (IsRising number_of) (sym (rows-same c)) fit_q.jobs.rising

pub sweep-requires-clause-sound : goal.sweep-requires-clause-sound
sweep-requires-clause-sound c =
    let p = plan_of c.args.self.now in
    let fit_q : IsFit (plan_of c.advance.new.self) = subst IsFit (sym c.advance.ensures.plan) (advance-fit c.args.occasion.entry c.args.occasion.at p c.requires.book.fit) in
    subst (λ (rows : List Row). AllByRecursion (λ (row : Row). IsSound row.wants row.course) rows) (sym (rows-same c)) fit_q.sound

pub sweep-requires-clause-few : goal.sweep-requires-clause-few
sweep-requires-clause-few c = omega (arith, c.advance.ensures.quiet.few, ap (λ (es : List End). length es) (ends-same c))

pub sweep-requires-clause-within : goal.sweep-requires-clause-within
sweep-requires-clause-within c = omega (arith, c.all_blocks.ensures.until)

pub sweep-requires-clause-covered : goal.sweep-requires-clause-covered
sweep-requires-clause-covered c = covered c

pub sweep-requires-clause-outside : goal.sweep-requires-clause-outside
sweep-requires-clause-outside c =
    let s = c.drop_reservation.new.self in
    spared-none s.moment s.alarm.ends.items s.reservations.items c.all_blocks.result s.rows.items c.all_blocks.ensures.from c.all_blocks.ensures.until (covered c)

pub returns-in-Err-clause-meets : goal.returns-in-Err-clause-meets
returns-in-Err-clause-meets c =
    let barred = c.in-Err.ensures {u = tt} in
    let same = size (goal.at.returns-in-Err-clause-meets c).After-weight in
    barred-meets c.args.occasion tt _ (plan_of c.args.self.now) _ _ barred.full barred.short (omega (arith, same))
