use Rattle.std.proofs.Common.{◌≡◌, ◌++◌, drop}
use Rattle.std.specs.Prelude.{string_bytes}
use Rattle.std.specs.List.{flat_map}
use Rattle.drmaa_model.specs.History.{now_of}
use Rattle.wait_reasons.specs.Sums.{IsKnown}
use Rattle.wait_reasons.specs.Texts.{job_line}
use Rattle.wait_reasons.proofs.views.push_jobs.Given as goal

-- what was written so far, and the lines of the rows that are left, are what was there and the lines of all of them
abbrev pub invariant-loop-row : goal.invariant-loop-row
invariant-loop-row l = record {
  text : string_bytes l.out ++ flat_map (job_line (now_of l.machine.ledger).plan) (drop l.row-index l.rows) ≡ string_bytes l.fn.out ++ flat_map (job_line (now_of l.machine.ledger).plan) l.rows;
  known : IsKnown (now_of l.machine.ledger).plan.rows l.known;
}
