use Rattle.std.proofs.Common.{◌≡◌, rules, of_calls, ℕ, ◌<◌, ◌≤◌, nat_lt, nat_le, true, false, List, length, find, slice_index_or, Some, None, sym, ap, ◌∙◌, arith}
use Rattle.std.specs.Option.{option_map}
use Rattle.std.specs.Slice.{IsItemAt}
use Rattle.std.specs.List.Sorted.{IsPartitionPoint}
use Rattle.std.proofs.lemmas.Fn.{always_returns_same}
use Rattle.std.proofs.lemmas.List.Sorted.{IsPartitionedBy-ltb}
use Rattle.drmaa_model.specs.declared.rows.Row.{Row}
use Rattle.drmaa_model.specs.Fit.{number_of}
use Rattle.scheduler_core.proofs.FirstRows.{never_falls, find-first, find-past}
use Rattle.scheduler_core.proofs.facts.first_from.Goals as goal

-- the first row of a number or above it, where the list is cut
first_is : (n : ℕ) (rows : List Row) (i : ℕ) (row : Row) → IsPartitionPoint (λ (r : Row). nat_lt r.job.0 n ≡ true) (λ (r : Row). nat_lt r.job.0 n ≡ false) rows i → i < length rows → row ≡ slice_index_or rows i row
    → find (λ (r : Row). nat_le n r.job.0) rows ≡ Some row
first_is n rows i row point within is = find-first number_of n rows i row (λ k e less. point.0 k e (omega arith) less) point.1 within ∙ ap (λ (r : Row). Some r) (sym is)

none_is : (n : ℕ) (rows : List Row) (i : ℕ) → IsPartitionPoint (λ (r : Row). nat_lt r.job.0 n ≡ true) (λ (r : Row). nat_lt r.job.0 n ≡ false) rows i → length rows ≤ i → find (λ (r : Row). nat_le n r.job.0) rows ≡ None
none_is n rows i point past = find-past number_of n rows (λ k e inside. point.0 k e (omega arith) (omega (arith, inside, past)))

pub returns-in-Some : goal.returns-in-Some
returns-in-Some c =
    let n = c.args.from.0 in
    let list = c.args.rows.now in
    let point = c.partition_point-first.ensures.partitioned (λ (row : Row). nat_lt row.job.0 n) (always_returns_same _ _ _ (λ a r f k. search (rules, of_calls))) (IsPartitionedBy-ltb number_of list n (never_falls number_of list c.requires.rising)) in
    let found : IsItemAt list c.partition_point-first.result (Some c.in-Some.row) = c.in-Some.ensures.lookup in
    ap (option_map (λ (row : Row). row.job)) (sym (first_is n list c.partition_point-first.result c.in-Some.row.now point found.3.0 found.1))

pub returns-in-None : goal.returns-in-None
returns-in-None c =
    let n = c.args.from.0 in
    let list = c.args.rows.now in
    let point = c.partition_point-first.ensures.partitioned (λ (row : Row). nat_lt row.job.0 n) (always_returns_same _ _ _ (λ a r f k. search (rules, of_calls))) (IsPartitionedBy-ltb number_of list n (never_falls number_of list c.requires.rising)) in
    let past : IsItemAt list c.partition_point-first.result None = c.in-None.ensures.lookup in
    ap (option_map (λ (row : Row). row.job)) (sym (none_is n list c.partition_point-first.result point past.3))
