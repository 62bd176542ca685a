use Rattle.std.proofs.Common.{◌≡◌, ◌+◌, ◌&&◌, ℕ, Bool, true, leb, filter, sym, ◌∙◌, ap}
use Rattle.drmaa_model.specs.declared.rows.Wants.{Wants}
use Rattle.drmaa_model.specs.NextLaunch.{held, is_queued, is_reached, is_within_bound}
use Rattle.drmaa_model.specs.Time.{lasts}
use Rattle.drmaa_model.specs.TimeLaws.{timed-wants}
use Rattle.plan_book.specs.Book.{plan_of}
use Rattle.scheduler_core.specs.Launches.{seen, seen_row, slots_of}
use Rattle.scheduler_core.proofs.LaunchSteps.{and-true, ready_of}
use Rattle.scheduler_core.proofs.PhaseLaws.{and-last}
use Rattle.scheduler_core.proofs.ready.may_launch_at.Goals as goal

pub returns-then-not-has_slots-clause-value : goal.returns-then-not-has_slots-clause-value
returns-then-not-has_slots-clause-value c =
    let p = plan_of c.args.book.now in
    let m = c.args.moment in
    let row = c.args.row.now in
    let w = row.wants in
    and-last (is_queued (seen_row m p row).course.state && is_reached m w.start && is_within_bound p.rows w) (leb (held p.rows + w.min) p.total) (slots_of (seen m p) w.min w)
    (sym c.has_slots.ensures.value ∙ c.if-not-has_slots.true)
    ∙ ap (λ (x : Wants). ready_of m p x (seen_row m p row).course.state) (sym (timed-wants m (filter (lasts m) p.reservations) row))

pub returns-clause-value : goal.returns-clause-value
returns-clause-value c =
    let p = plan_of c.args.book.now in
    let m = c.args.moment in
    let row = c.args.row.now in
    let w = row.wants in
    let slots = slots_of (seen m p) w.min w in
    let come = is_queued (seen_row m p row).course.state && is_reached m w.start && is_within_bound p.rows w in
    let has : slots ≡ true = sym c.has_slots.ensures.value ∙ c.if-not-has_slots.false in
    let free : leb (held p.rows + w.min) p.total ≡ true =
    sym (c.is_free.ensures ∙ ap (λ (n : ℕ). leb (c.args.used + w.min) n) c.total.ensures ∙ ap (λ (n : ℕ). leb (n + w.min) p.total) c.requires.used) ∙ c.if-not-is_free.false in
    c.comes_at.ensures.value
    ∙ sym (ap (λ (b : Bool). come && (b && slots)) free ∙ ap (λ (b : Bool). come && b) has ∙ and-true come)
    ∙ ap (λ (x : Wants). ready_of m p x (seen_row m p row).course.state) (sym (timed-wants m (filter (lasts m) p.reservations) row))
