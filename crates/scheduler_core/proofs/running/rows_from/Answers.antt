use Rattle.std.proofs.Common.{◌≡◌, rules, of_calls, ℕ, ◌-◌, nat_lt, List, length, take, drop, find, sym, ap, ◌∙◌, arith}
use Rattle.std.proofs.lemmas.Fn.{always_returns_same}
use Rattle.std.proofs.lemmas.List.{length-drop}
use Rattle.std.proofs.lemmas.List.Sorted.{IsPartitionedBy-ltb}
use Rattle.std.proofs.Math.Seq.{take-length}
use Rattle.drmaa_types.specs.States.{is_started}
use Rattle.drmaa_model.specs.declared.rows.Row.{Row}
use Rattle.drmaa_model.specs.Fit.{IsRising, number_of}
use Rattle.scheduler_core.proofs.FirstRows.{never_falls, find-from}
use Rattle.scheduler_core.proofs.running.rows_from.Goals as goal

-- all that is behind a place
whole : (rows : List Row) (i : ℕ) → take (length rows - i) (drop i rows) ≡ drop i rows
whole rows i = ap (λ (n : ℕ). take n (drop i rows)) (sym (length-drop i rows)) ∙ take-length (drop i rows)

pub returns : goal.returns
returns c =
    let n = c.args.from.0 in
    let list = c.args.rows.now in
    let i = c.partition_point-first.result in
    let rising : IsRising number_of list = c.requires.rising in
    let point = c.partition_point-first.ensures.partitioned (λ (row : Row). nat_lt row.job.0 n) (always_returns_same _ _ _ (λ a r f k. search (rules, of_calls))) (IsPartitionedBy-ltb number_of list n (never_falls number_of list rising)) in
    ap (find (λ (row : Row). is_started row.course.state)) (whole list i)
    ∙ find-from number_of (λ (row : Row). is_started row.course.state) n list i (λ k e less inside. point.0 k e (omega arith) less) (λ k e le inside. point.1 k e le inside)
