use Rattle.std.proofs.Common.{ℕ, filter, Option, Some, sym, ◌∙◌, ap}
use Rattle.std.specs.Option.{option_map}
use Rattle.drmaa_model.specs.declared.rows.Row.{Row}
use Rattle.drmaa_model.specs.Time.{come_to, let_go, lasts, called_in, lapsed}
use Rattle.drmaa_model.specs.TimeLaws.{row_of-advance}
use Rattle.plan_book.specs.Book.{plan_of}
use Rattle.plan_book.specs.declared.rows.Facts.{Facts}
use Rattle.plan_book.specs.Facts.{facts_of}
use Rattle.plan_book.proofs.book.Book.facts_at.Goals as goal

pub returns-in-None : goal.returns-in-None
returns-in-None c =
    let p = plan_of c.args.self.now in
    let q = let_go (come_to c.args.at p) in
    sym (ap (option_map facts_of) (row_of-advance 0 c.args.at p c.args.job
    ∙ ap (λ (o : Option Row). option_map (called_in q.moment q.reservations) (option_map (lapsed q.moment q.reservations) o)) (sym (c.in-None.ensures {u = tt}))))

pub returns-in-Some : goal.returns-in-Some
returns-in-Some c =
    let p = plan_of c.args.self.now in
    let q = let_go (come_to c.args.at p) in
    let rs = c.args.self.now.reservations.items in
    let at : ℕ → Facts = λ m. facts_of (called_in m (filter (lasts m) rs) (lapsed m (filter (lasts m) rs) c.in-Some.row.now)) in
    ap (λ (f : Facts). Some f) (c.facts_then.ensures ∙ ap at c.moment_at-moment.ensures)
    ∙ sym (ap (option_map facts_of) (row_of-advance 0 c.args.at p c.args.job
    ∙ ap (λ (o : Option Row). option_map (called_in q.moment q.reservations) (option_map (lapsed q.moment q.reservations) o)) (sym (c.in-Some.ensures {u = tt}))))
