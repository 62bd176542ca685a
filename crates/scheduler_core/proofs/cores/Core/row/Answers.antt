use Rattle.std.proofs.Common.{◌≡◌, max, filter, Some, sym, ◌∙◌, ap}
use Rattle.std.specs.Option.{option_map}
use Rattle.drmaa_model.specs.declared.courses.Course.{Course}
use Rattle.drmaa_model.specs.Rows.{row_of}
use Rattle.drmaa_model.specs.Time.{lasts, rows_at}
use Rattle.drmaa_model.specs.TimeLaws.{timed, timed-only}
use Rattle.plan_book.specs.Book.{plan_of}
use Rattle.plan_book.specs.Facts.{facts_of}
use Rattle.plan_book.specs.declared.rows.Facts.{Facts}
use Rattle.scheduler_core.specs.declared.facts.RowFacts.{RowFacts}
use Rattle.scheduler_core.specs.Facts.{row_facts}
use Rattle.scheduler_core.specs.View.{View}
use Rattle.scheduler_core.proofs.FactSteps.{some-is, none-then, row-then}
use Rattle.scheduler_core.proofs.cores.Core.row.Goals as goal

pub returns-in-Some-facts_at : goal.returns-in-Some-facts_at
returns-in-Some-facts_at c =
    let p = plan_of c.self.inside.book in
    let m = max p.moment c.args.at in
    let rs = filter (lasts m) p.reservations in
    let row = c.in-Some.row.now in
    let there = row-then c.args.at p c.args.job row (c.in-Some.ensures {u = tt}) in
    let read : Some c.in-Some-facts_at.facts ≡ Some (facts_of (timed m rs row)) = c.in-Some-facts_at.ensures {u = tt} ∙ ap (option_map facts_of) there in
    let course : c.in-Some-facts_at.facts.course ≡ (timed m rs row).course = ap (λ (f : Facts). f.course) (some-is c.in-Some-facts_at.facts (facts_of (timed m rs row)) read) in
    ap (λ (f : RowFacts). Some f)
    (c.facts_with.ensures ∙ ap (λ (k : Course). row_facts (record row { course = k })) course ∙ sym (ap row_facts (timed-only m rs row)))
    ∙ sym (ap (option_map row_facts) there)
    ∙ ap (λ (v : View). option_map row_facts (row_of c.args.job (rows_at c.args.at v.plan))) c.self.view_is

pub returns-in-None : goal.returns-in-None
returns-in-None c =
    let p = plan_of c.self.inside.book in
    let there = row-then c.args.at p c.args.job c.in-Some.row.now (c.in-Some.ensures {u = tt}) in
    let read = c.in-None.ensures {u = tt} ∙ ap (option_map facts_of) there in
    absurd (cc)

pub returns-in_default : goal.returns-in_default
returns-in_default c =
    sym (ap (option_map row_facts) (none-then c.args.at (plan_of c.self.inside.book) c.args.job (c.in_default.ensures {u = tt})))
    ∙ ap (λ (v : View). option_map row_facts (row_of c.args.job (rows_at c.args.at v.plan))) c.self.view_is
