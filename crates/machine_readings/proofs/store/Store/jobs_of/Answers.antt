use Rattle.std.proofs.Common.{◌≡◌, ◌∙◌, ◌&&◌, ◌++◌, [], List, ℕ, Bool, Option, filter, append-nil, ap, refl, sym}
use Rattle.std.proofs.lemmas.Bool.{and_parts}
use Rattle.drmaa_types.specs.Filters.{matches}
use Rattle.drmaa_types.specs.declared.filters.JobFilter.{JobFilter}
use Rattle.drmaa_model.specs.declared.rows.Row.{Row}
use Rattle.drmaa_model.specs.Fit.{number_of}
use Rattle.drmaa_model.specs.Homes.{is_same_home}
use Rattle.drmaa_model.specs.Infos.{info, numbers}
use Rattle.drmaa_model.specs.Time.{rows_at}
use Rattle.plan_book.specs.declared.spans.NumberRange.{NumberRange}
use Rattle.plan_book.specs.Numbers.{HasNumbersOf}
use Rattle.machine_readings.specs.declared.store.Store.{Store}
use Rattle.machine_readings.specs.Stores.{world_at}
use Rattle.machine_readings.specs.Walks.{from_on}
use Rattle.machine_readings.proofs.RangeSteps.{range-of, range-front, range-end, through-end}
use Rattle.machine_readings.proofs.store.Store.jobs_of.Goals as goal

abbrev listed : ℕ → Option ℕ → JobFilter → Store → Row → Bool
listed at home wanted s row = is_same_home home row.home && matches wanted (info (world_at at s) row)

-- the range has the numbers of all that are listed
within : (at : ℕ) (home : Option ℕ) (wanted : JobFilter) (s : Store) (range : NumberRange) → HasNumbersOf (λ (row : Row). is_same_home home row.home) s.core.plan.rows range
    → HasNumbersOf (listed at home wanted s) (rows_at at s.core.plan) range
within at home wanted s range has =
    range-of (λ (row : Row). is_same_home home row.home) (listed at home wanted s) (λ row course. refl)
    (λ row is. (and_parts (is_same_home home row.home) (matches wanted (info (world_at at s) row)) is).0) at s.core.plan range has

pub loop-facts-init : goal.loop-facts-init
loop-facts-init c =
    (let s = c.args.self.now in
    let rows = rows_at c.args.at s.core.plan in
    let own = listed c.args.at c.args.home c.args.wanted.now s in
    let range = c.before.numbers_of_home-range.result in
    let none : c.before.new-jobs.result.items ≡ [] = cc in
    ap (λ items. items ++ numbers (filter own (from_on number_of range.first rows))) none
    ∙ ap (λ (ys : List Row). numbers ys) (range-front own range rows (within c.args.at c.args.home c.args.wanted.now s range c.before.numbers_of_home-range.ensures)))

pub returns : goal.returns
returns c =
    (let s = c.args.self.now in
    let rows = rows_at c.args.at s.core.plan in
    let own = listed c.args.at c.args.home c.args.wanted.now s in
    let range = c.numbers_of_home-range.result in
    let jobs = c.loop-facts.jobs.items in
    let none : filter own (from_on number_of c.loop-facts.from rows) ≡ [] =
    range-end own range c.loop-facts.from rows (within c.args.at c.args.home c.args.wanted.now s range c.numbers_of_home-range.ensures)
    (through-end rows c.loop-facts.from range.last c.next_facts_through.result c.next_facts_through.ensures c.in_default.is) in
    c.from_vec.ensures ∙ sym (append-nil jobs) ∙ ap (λ (ys : List Row). jobs ++ numbers ys) (sym none) ∙ c.loop-facts.invariant)
