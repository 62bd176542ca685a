use Rattle.std.proofs.Common.{ℕ, ◌≤◌, sym, subst, arith}
use Rattle.plan_book.specs.declared.spans.NumberRange.{NumberRange}
use Rattle.plan_book.specs.Spans.{IsWithin}
use Rattle.plan_book.proofs.SpanLaws.{at-numbers, none-numbers}
use Rattle.plan_book.proofs.spans.SpanList.numbers_of.Goals as goal

pub returns-in-Ok : goal.returns-in-Ok
returns-in-Ok c =
    subst (λ (range : NumberRange). (job : ℕ) → IsWithin c.args.group job c.args.self.now → (range.first ≤ job) × (job ≤ range.last)) (sym c.numbers_in.ensures)
    (λ job within.
    at-numbers c.args.group job c.args.self.now.list.items c.in-Ok.place c.index.result.now c.requires (c.in-Ok.ensures {u = tt}).found c.index.ensures job (within (omega arith)))

pub returns-in-Err : goal.returns-in-Err
returns-in-Err c = λ job within.
    none-numbers c.args.group job c.no_numbers.result.first c.no_numbers.result.last c.args.self.now.list.items (c.in-Err.ensures {u = tt}).absent (within (omega arith))
