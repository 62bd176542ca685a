use Rattle.std.proofs.Common.{rules}
use Rattle.std.proofs.lemmas.List.Sorted.{answers_always}
use Rattle.drmaa_model.specs.declared.reservations.Accepted.{Accepted}
use Rattle.drmaa_model.specs.Fit.{reservation_number}
use Rattle.plan_book.proofs.Searched.{searched}
use Rattle.plan_book.proofs.reservations.place_of.Goals as goal

pub returns-clause-found : goal.returns-clause-found
returns-clause-found c =
    let facts = c.binary_search_by_key.ensures in
    let by_job = facts.position (λ (r : Accepted). r.reservation.0) (answers_always _ _ _ (λ f a r g called. search rules)) in
    rw (← c.deref.ensures.value) ((searched reservation_number c.deref.result.now (rw c.deref.ensures.value c.requires.sorted) c.args.number.0 c.binary_search_by_key.result facts.bound by_job).found)

pub returns-clause-absent : goal.returns-clause-absent
returns-clause-absent c =
    let facts = c.binary_search_by_key.ensures in
    let by_job = facts.position (λ (r : Accepted). r.reservation.0) (answers_always _ _ _ (λ f a r g called. search rules)) in
    rw (← c.deref.ensures.value) ((searched reservation_number c.deref.result.now (rw c.deref.ensures.value c.requires.sorted) c.args.number.0 c.binary_search_by_key.result facts.bound by_job).absent)
