use Rattle.std.proofs.Common.{rules}
use Rattle.std.proofs.lemmas.List.Sorted.{answers_always}
use Rattle.drmaa_model.specs.declared.rows.Row.{Row}
use Rattle.drmaa_model.specs.Fit.{number_of}
use Rattle.plan_book.proofs.Searched.{searched}
use Rattle.plan_book.proofs.rows.place_of.Goals as goal

pub returns-clause-found : goal.returns-clause-found
returns-clause-found c =
    let facts = c.binary_search_by_key.ensures in
    let by_job = facts.position (λ (row : Row). row.job.0) (answers_always _ _ _ (λ f a r g called. search rules)) in
    (searched number_of c.args.rows.now c.requires.rising c.args.job.0 c.binary_search_by_key.result facts.bound by_job).found

pub returns-clause-absent : goal.returns-clause-absent
returns-clause-absent c =
    let facts = c.binary_search_by_key.ensures in
    let by_job = facts.position (λ (row : Row). row.job.0) (answers_always _ _ _ (λ f a r g called. search rules)) in
    (searched number_of c.args.rows.now c.requires.rising c.args.job.0 c.binary_search_by_key.result facts.bound by_job).absent
