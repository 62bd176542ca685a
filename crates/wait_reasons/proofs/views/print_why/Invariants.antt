use Rattle.std.proofs.Common.{◌≡◌, ◌++◌, drop}
use Rattle.std.specs.Prelude.{string_bytes}
use Rattle.drmaa_model.specs.History.{now_of}
use Rattle.std.specs.List.{flat_map}
use Rattle.plan_book.specs.Blocks.{rows_in}
use Rattle.wait_reasons.specs.Sums.{IsKnown}
use Rattle.wait_reasons.specs.Texts.{job_line}
use Rattle.wait_reasons.proofs.views.print_why.Given as goal

-- what was written so far, and the lines of the rows that are left, are the lines of all jobs that wait
abbrev pub invariant-loop-block : goal.invariant-loop-block
invariant-loop-block l = record {
  text : string_bytes l.out ++ flat_map (job_line (now_of l.machine.ledger).plan) (rows_in (drop l.block-index l.block-items)) ≡ flat_map (job_line (now_of l.machine.ledger).plan) (rows_in l.block-items);
  rows : rows_in l.block-items ≡ (now_of l.machine.ledger).plan.rows;
  known : IsKnown (now_of l.machine.ledger).plan.rows l.known;
}
