use Rattle.std.proofs.Common.{◌≡◌, ◌∙◌, ◌&&◌, ◌++◌, [], List, ℕ, Bool, Option, filter, append-nil, ap, refl, sym}
use Rattle.std.proofs.lemmas.Bool.{and_parts}
use Rattle.drmaa_types.specs.declared.identifiers.ArrayId.{ArrayId}
use Rattle.drmaa_model.specs.declared.rows.Row.{Row}
use Rattle.drmaa_model.specs.Fit.{number_of}
use Rattle.drmaa_model.specs.Homes.{is_same_home}
use Rattle.drmaa_model.specs.Infos.{numbers}
use Rattle.drmaa_model.specs.Load.{is_member}
use Rattle.drmaa_model.specs.Plan.{Plan}
use Rattle.drmaa_model.specs.Time.{rows_at}
use Rattle.plan_book.specs.declared.spans.NumberRange.{NumberRange}
use Rattle.plan_book.specs.Numbers.{HasNumbersOf}
use Rattle.machine_readings.specs.Walks.{from_on}
use Rattle.machine_readings.proofs.RangeSteps.{range-of, range-front, range-end, through-end}
use Rattle.machine_readings.proofs.store.Store.members_of.Goals as goal

abbrev listed : Option ℕ → ArrayId → Row → Bool
listed home array row = is_same_home home row.home && is_member array row

-- the range has the numbers of all that are listed
within : (at : ℕ) (home : Option ℕ) (array : ArrayId) (p : Plan) (range : NumberRange) → HasNumbersOf (is_member array) p.rows range → HasNumbersOf (listed home array) (rows_at at p) range
within at home array p range has =
    range-of (is_member array) (listed home array) (λ row course. refl) (λ row is. (and_parts (is_same_home home row.home) (is_member array row) is).1) at p range has

pub loop-facts-init : goal.loop-facts-init
loop-facts-init c =
    (let p = c.args.self.now.core.plan in
    let rows = rows_at c.args.at p in
    let own = listed c.args.home c.args.array in
    let range = c.before.numbers_of_array-range.result in
    let none : c.before.new-jobs.result.items ≡ [] = cc in
    ap (λ items. items ++ numbers (filter own (from_on number_of range.first rows))) none
    ∙ ap (λ (ys : List Row). numbers ys) (range-front own range rows (within c.args.at c.args.home c.args.array p range c.before.numbers_of_array-range.ensures)))

pub returns : goal.returns
returns c =
    (let p = c.args.self.now.core.plan in
    let rows = rows_at c.args.at p in
    let own = listed c.args.home c.args.array in
    let range = c.numbers_of_array-range.result in
    let jobs = c.loop-facts.jobs.items in
    let none : filter own (from_on number_of c.loop-facts.from rows) ≡ [] =
    range-end own range c.loop-facts.from rows (within c.args.at c.args.home c.args.array p range c.numbers_of_array-range.ensures)
    (through-end rows c.loop-facts.from range.last c.next_facts_through.result c.next_facts_through.ensures c.in_default.is) in
    c.from_vec.ensures ∙ sym (append-nil jobs) ∙ ap (λ (ys : List Row). jobs ++ numbers ys) (sym none) ∙ c.loop-facts.invariant)
