use Rattle.std.proofs.Common.{◌≡◌, max, filter, Some, ◌∙◌, ap, ◌&&◌, false}
use Rattle.std.specs.Option.{option_map, option_map_or}
use Rattle.drmaa_types.specs.States.{is_waiting, is_state}
use Rattle.drmaa_types.specs.declared.states.JobState.{JobState}
use Rattle.drmaa_types.specs.declared.states.JobState.TheVariants.{Failed}
use Rattle.drmaa_model.specs.Time.{lasts, lapses}
use Rattle.drmaa_model.specs.TimeLaws.{timed}
use Rattle.plan_book.specs.Book.{plan_of}
use Rattle.plan_book.specs.Facts.{facts_of}
use Rattle.plan_book.specs.declared.rows.Facts.{Facts}
use Rattle.scheduler_core.specs.Facts.{lapses_at}
use Rattle.scheduler_core.specs.View.{View}
use Rattle.scheduler_core.proofs.FactSteps.{some-is, row-then, lapses-shown}
use Rattle.scheduler_core.proofs.cores.Core.lapses.Goals as goal

pub returns-in-Some-facts_at : goal.returns-in-Some-facts_at
returns-in-Some-facts_at c =
    let p = plan_of c.self.inside.book in
    let m = max p.moment c.args.at in
    let rs = filter (lasts m) p.reservations in
    let row = c.in-Some.row.now in
    let there = row-then c.args.at p c.args.job row (c.in-Some.ensures {u = tt}) in
    let read : Some c.in-Some-facts_at.facts ≡ Some (facts_of (timed m rs row)) = c.in-Some-facts_at.ensures {u = tt} ∙ ap (option_map facts_of) there in
    let state : c.in-Some-facts_at.facts.course.state ≡ (timed m rs row).course.state = ap (λ (f : Facts). f.course.state) (some-is c.in-Some-facts_at.facts (facts_of (timed m rs row)) read) in
    c.has_lapsed.ensures ∙ ap (λ (s : JobState). is_waiting row.course.state && is_state s Failed) state ∙ lapses-shown m rs row
    ∙ ap (λ o. option_map_or (lapses m rs) o false) (c.in-Some.ensures {u = tt})
    ∙ ap (λ (v : View). lapses_at c.args.at c.args.job v.plan) c.self.view_is

pub returns-in-None : goal.returns-in-None
returns-in-None c =
    let p = plan_of c.self.inside.book in
    let there = row-then c.args.at p c.args.job c.in-Some.row.now (c.in-Some.ensures {u = tt}) in
    let read = c.in-None.ensures {u = tt} ∙ ap (option_map facts_of) there in
    absurd (cc)

pub returns-in_default : goal.returns-in_default
returns-in_default c =
    let p = plan_of c.self.inside.book in
    let m = max p.moment c.args.at in
    ap (λ o. option_map_or (lapses m (filter (lasts m) p.reservations)) o false) (c.in_default.ensures {u = tt})
    ∙ ap (λ (v : View). lapses_at c.args.at c.args.job v.plan) c.self.view_is
