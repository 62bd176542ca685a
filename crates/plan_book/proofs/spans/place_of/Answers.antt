use Rattle.std.proofs.Common.{rules}
use Rattle.std.proofs.lemmas.List.Sorted.{answers_always}
use Rattle.plan_book.specs.declared.spans.Span.{Span}
use Rattle.plan_book.specs.Spans.{span_number}
use Rattle.plan_book.proofs.Searched.{searched, parted}
use Rattle.plan_book.proofs.spans.place_of.Goals as goal

pub returns-clause-found : goal.returns-clause-found
returns-clause-found c =
    let facts = c.binary_search_by_key.ensures in
    let by_group = facts.position (λ (span : Span). span.group) (answers_always _ _ _ (λ f a r g called. search rules)) in
    rw (← c.deref.ensures.value) ((searched span_number c.deref.result.now (rw c.deref.ensures.value c.requires.sorted) c.args.group c.binary_search_by_key.result facts.bound by_group).found)

pub returns-clause-absent : goal.returns-clause-absent
returns-clause-absent c =
    let facts = c.binary_search_by_key.ensures in
    let by_group = facts.position (λ (span : Span). span.group) (answers_always _ _ _ (λ f a r g called. search rules)) in
    rw (← c.deref.ensures.value) ((searched span_number c.deref.result.now (rw c.deref.ensures.value c.requires.sorted) c.args.group c.binary_search_by_key.result facts.bound by_group).absent)

pub returns-clause-below : goal.returns-clause-below
returns-clause-below c =
    let facts = c.binary_search_by_key.ensures in
    let by_group = facts.position (λ (span : Span). span.group) (answers_always _ _ _ (λ f a r g called. search rules)) in
    rw (← c.deref.ensures.value) ((parted span_number c.deref.result.now (rw c.deref.ensures.value c.requires.sorted) c.args.group c.binary_search_by_key.result facts.bound by_group).below)

pub returns-clause-above : goal.returns-clause-above
returns-clause-above c =
    let facts = c.binary_search_by_key.ensures in
    let by_group = facts.position (λ (span : Span). span.group) (answers_always _ _ _ (λ f a r g called. search rules)) in
    rw (← c.deref.ensures.value) ((parted span_number c.deref.result.now (rw c.deref.ensures.value c.requires.sorted) c.args.group c.binary_search_by_key.result facts.bound by_group).above)

pub returns-clause-within : goal.returns-clause-within
returns-clause-within c =
    let facts = c.binary_search_by_key.ensures in
    let by_group = facts.position (λ (span : Span). span.group) (answers_always _ _ _ (λ f a r g called. search rules)) in
    rw (← c.deref.ensures.value) ((parted span_number c.deref.result.now (rw c.deref.ensures.value c.requires.sorted) c.args.group c.binary_search_by_key.result facts.bound by_group).within)
