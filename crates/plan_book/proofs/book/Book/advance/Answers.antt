use Rattle.std.proofs.Common.{◌≡◌, ℕ, false, max, List, length, sym, ◌∙◌, ap, subst, arith}
use Rattle.drmaa_types.specs.declared.moments.End.{End}
use Rattle.drmaa_model.specs.Fit.{IsRising, number_of}
use Rattle.drmaa_model.specs.Plan.{Plan}
use Rattle.drmaa_model.specs.Time.{is_past, expire, call_in}
use Rattle.plan_book.specs.declared.alarm_blocks.Alarm.{Alarm}
use Rattle.plan_book.specs.Book.{plan_of}
use Rattle.plan_book.specs.Quiet.{AreCovered}
use Rattle.plan_book.proofs.BlockLaws.{quiet-advance, covered-after, spared-none}
use Rattle.plan_book.proofs.QuietLaws.{quiet-calendar, gone-none}
use Rattle.plan_book.proofs.book.Book.advance.Goals as goal
use Rattle.plan_book.proofs.book.Book.advance.Goals.{After-all_blocks, After-due_places}

pub returns-then-not-is_past-clause-plan : goal.returns-then-not-is_past-clause-plan
returns-then-not-is_past-clause-plan c =
    let s = c.args.self.now in
    let p = plan_of s in
    let ahead : is_past (max p.moment c.args.at) s.alarm.soonest ≡ false = ap (λ (m : ℕ). is_past m s.alarm.soonest) (sym c.moment_at-moment.ensures) ∙ sym c.is_past.ensures ∙ c.if-not-is_past.true in
    ap (λ (m : ℕ). let q : Plan = record p { moment = m } in q) c.moment_at-moment.ensures ∙ sym (quiet-advance s.alarm c.args.entry c.args.at p c.requires.quiet ahead)

pub returns-then-not-is_past-clause-calendar : goal.returns-then-not-is_past-clause-calendar
returns-then-not-is_past-clause-calendar c =
    let s = c.args.self.now in
    let ahead : is_past (max s.moment c.args.at) s.alarm.soonest ≡ false = ap (λ (m : ℕ). is_past m s.alarm.soonest) (sym c.moment_at-moment.ensures) ∙ sym c.is_past.ensures ∙ c.if-not-is_past.true in
    sym (quiet-calendar s.alarm.lasting (max s.moment c.args.at) s.reservations.items s.calendar c.requires.quiet.reservations (c.requires.quiet.soonest (max s.moment c.args.at) ahead).lasting)

-- ---- a reservation ends: its jobs may be of each block

ends-same : (c : After-all_blocks) → c.come_to.new.self.alarm.ends.items ≡ c.args.self.now.alarm.ends.items
ends-same c = ap (λ (a : Alarm). a.ends.items) c.come_to.ensures.alarm

rows-same : (c : After-all_blocks) → c.come_to.new.self.rows.items ≡ c.args.self.now.rows.items
rows-same c = ap (λ (p : Plan). p.rows) c.come_to.ensures.plan

covered : (c : After-all_blocks) → AreCovered c.come_to.new.self.alarm.ends.items c.come_to.new.self.rows.items
covered c = covered-after c.args.self.now.alarm (plan_of c.args.self.now) c.come_to.new.self.alarm.ends.items c.come_to.new.self.rows.items (ends-same c) (rows-same c) c.requires.quiet

pub sweep-requires-clause-rising : goal.sweep-requires-clause-rising
sweep-requires-clause-rising c = subst (IsRising number_of) (sym (rows-same c)) c.requires.rising

pub sweep-requires-clause-few : goal.sweep-requires-clause-few
sweep-requires-clause-few c = omega (arith, c.requires.quiet.few, ap (λ (es : List End). length es) (ends-same c))

pub sweep-requires-clause-within : goal.sweep-requires-clause-within
sweep-requires-clause-within c = omega (arith, c.all_blocks.ensures.until)

pub sweep-requires-clause-covered : goal.sweep-requires-clause-covered
sweep-requires-clause-covered c = covered c

pub sweep-requires-clause-outside : goal.sweep-requires-clause-outside
sweep-requires-clause-outside c =
    let s = c.come_to.new.self in
    spared-none s.moment s.alarm.ends.items s.reservations.items c.all_blocks.result s.rows.items c.all_blocks.ensures.from c.all_blocks.ensures.until (covered c)

-- ---- none ends: the other blocks are left

lasting-ahead : (c : After-due_places) → is_past (max c.args.self.now.moment c.args.at) c.args.self.now.alarm.lasting ≡ false
lasting-ahead c = ap (λ (m : ℕ). is_past m c.args.self.now.alarm.lasting) (sym c.moment_at-moment.ensures) ∙ sym c.is_past-2.ensures ∙ c.if-is_past.false

pub returns-else-is_past-clause-plan : goal.returns-else-is_past-clause-plan
returns-else-is_past-clause-plan c =
    let s = c.args.self.now in
    let p = plan_of s in
    c.sweep-else-is_past.ensures.plan
    ∙ ap (λ (m : ℕ). let q : Plan = record p { moment = m } in call_in (expire c.args.entry q)) c.moment_at-moment.ensures
    ∙ ap (λ (q : Plan). call_in (expire c.args.entry q)) (sym (gone-none s.alarm.lasting c.args.at p c.requires.quiet.reservations (lasting-ahead (goal.at.returns-else-is_past-clause-plan c).After-due_places)))

pub returns-else-is_past-clause-calendar : goal.returns-else-is_past-clause-calendar
returns-else-is_past-clause-calendar c =
    let s = c.args.self.now in
    c.sweep-else-is_past.ensures.calendar
    ∙ sym (quiet-calendar s.alarm.lasting (max s.moment c.args.at) s.reservations.items s.calendar c.requires.quiet.reservations (lasting-ahead (goal.at.returns-else-is_past-clause-calendar c).After-due_places))
