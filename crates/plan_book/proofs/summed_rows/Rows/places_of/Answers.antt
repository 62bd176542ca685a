use Rattle.std.proofs.Common.{◌≡◌, ⊎_elim, false, ◌<◌, ◌≤◌, length, subst, arith}
use Rattle.std.specs.List.{AllByRecursion}
use Rattle.drmaa_model.specs.declared.rows.Row.{Row}
use Rattle.drmaa_model.specs.Load.{is_member}
use Rattle.drmaa_model.specs.RowLaws.{all-both, all-implied}
use Rattle.plan_book.specs.Blocks.{KeptRows, rows_in}
use Rattle.plan_book.specs.Quiet.{block_of, IsOutside}
use Rattle.plan_book.specs.Spans.{IsSpanned}
use Rattle.plan_book.proofs.BlockRows.{all-below}
use Rattle.plan_book.proofs.SpanLaws.{none-at}
use Rattle.plan_book.proofs.summed_rows.Rows.places_of.Goals as goal

pub returns-in-Some-clause-outside : goal.returns-in-Some-clause-outside
returns-in-Some-clause-outside c =
    let blocks = c.self.inside.blocks.items in
    let rows = rows_in blocks in
    let spans = c.self.inside.spans in
    let array = c.args.array in
    let inside = c.in-Some.ensures {u = tt} in
    let places = c.places_within.result in
    let Out : Row → Type 0 = λ row. IsOutside places (block_of row.job.0) → is_member array row ≡ false in
    let all : AllByRecursion Out rows =
    all-implied (λ (row : Row). IsSpanned spans row × (block_of row.job.0 < length blocks)) Out
    (λ row both outside.
    none-at array spans row
    (λ within.
    (let bounds = inside row.job.0 within in
    let less = both.1 in
    ⊎_elim (λ (low : row.job.0 < c.in-Some.range.first). omega (arith, low, bounds.0)) (λ (high : c.in-Some.range.last < row.job.0). omega (arith, high, bounds.1))
    (c.places_within.ensures.outside row.job.0 (omega (arith, less, c.len-len.ensures, c.self.inside.blocks.ok.0)) outside))) both.0) rows
    (all-both (IsSpanned spans) (λ (row : Row). block_of row.job.0 < length blocks) rows c.self.invariant.members.members (all-below _ blocks c.self.invariant.ordered)) in
    subst (λ (v : KeptRows). AllByRecursion Out v.items) c.self.view_is all

pub returns-in-None-clause-outside : goal.returns-in-None-clause-outside
returns-in-None-clause-outside c =
    let blocks = c.self.inside.blocks.items in
    let Out : Row → Type 0 = λ row. IsOutside (record { from = 0; until = c.len-len.result }) (block_of row.job.0) → is_member c.args.array row ≡ false in
    let all : AllByRecursion Out (rows_in blocks) =
    all-implied (λ (row : Row). block_of row.job.0 < length blocks) Out
    (λ row less outside. absurd (⊎_elim (λ (low : block_of row.job.0 < 0). omega (arith, low)) (λ (high : c.len-len.result ≤ block_of row.job.0). omega (arith, high, less, c.len-len.ensures, c.self.inside.blocks.ok.0)) outside)) (rows_in blocks)
    (all-below _ blocks c.self.invariant.ordered) in
    subst (λ (v : KeptRows). AllByRecursion Out v.items) c.self.view_is all

pub numbers_of-requires : goal.numbers_of-requires
numbers_of-requires c = c.self.invariant.members.sorted.arrays
