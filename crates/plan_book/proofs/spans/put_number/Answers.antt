use Rattle.std.proofs.Common.{set, sym, ◌∙◌, subst}
use Rattle.std.specs.Prelude.{is_ok}
use Rattle.drmaa_model.specs.Fit.{IsRising}
use Rattle.plan_book.specs.declared.spans.Span.{Span}
use Rattle.plan_book.specs.Spans.{IsInSpan, span_number}
use Rattle.plan_book.proofs.SpanLaws.{insert-order, insert-keeps, insert-has, widen-rising, widen-keeps, widen-has}
use Rattle.plan_book.proofs.spans.put_number.Goals as goal

pub returns-in-Ok-clause-sorted : goal.returns-in-Ok-clause-sorted
returns-in-Ok-clause-sorted c =
    let xs = c.args.spans.now.items in
    let i = c.in-Ok.place in
    subst (λ (s : Span). IsRising span_number (set xs i s)) (sym c.widened.ensures) (widen-rising c.args.group c.args.job xs i c.index.result.now c.requires (c.in-Ok.ensures {u = tt}).found c.index.ensures)

pub returns-in-Ok-clause-keeps : goal.returns-in-Ok-clause-keeps
returns-in-Ok-clause-keeps c = λ other number there.
    (let xs = c.args.spans.now.items in
    let i = c.in-Ok.place in
    subst (λ (s : Span). IsInSpan other number (set xs i s)) (sym c.widened.ensures) (widen-keeps c.args.group c.args.job xs i c.index.result.now c.requires (c.in-Ok.ensures {u = tt}).found c.index.ensures other number there))

pub returns-in-Ok-clause-member : goal.returns-in-Ok-clause-member
returns-in-Ok-clause-member c = λ e.
    (let xs = c.args.spans.now.items in
    let i = c.in-Ok.place in
    subst (λ (s : Span). IsInSpan c.args.group c.args.job (set xs i s)) (sym c.widened.ensures) (widen-has c.args.group c.args.job xs i c.index.result.now c.requires (c.in-Ok.ensures {u = tt}).found c.index.ensures))

pub returns-in-Err-clause-sorted : goal.returns-in-Err-clause-sorted
returns-in-Err-clause-sorted c =
    let xs = c.args.spans.now.items in
    let place = c.in-Err.ensures {u = tt} in
    subst (IsRising span_number) (sym c.insert.ensures.items) (insert-order c.args.group c.args.job xs c.in-Err.place c.span_at.result c.span_at.ensures place.absent c.requires place.below place.above (is_ok c.insert.result))

pub returns-in-Err-clause-keeps : goal.returns-in-Err-clause-keeps
returns-in-Err-clause-keeps c = λ other number there.
    (let xs = c.args.spans.now.items in
    let place = c.in-Err.ensures {u = tt} in
    subst (IsInSpan other number) (sym c.insert.ensures.items) (insert-keeps c.args.group c.args.job xs c.in-Err.place c.span_at.result c.span_at.ensures place.absent other number there (is_ok c.insert.result)))

pub returns-in-Err-clause-member : goal.returns-in-Err-clause-member
returns-in-Err-clause-member c = λ e.
    (let xs = c.args.spans.now.items in
    let place = c.in-Err.ensures {u = tt} in
    subst (IsInSpan c.args.group c.args.job) (sym c.insert.ensures.items) (insert-has c.args.group c.args.job xs c.in-Err.place c.span_at.result c.span_at.ensures place.absent (is_ok c.insert.result) (sym c.is_ok.ensures.value ∙ e)))
