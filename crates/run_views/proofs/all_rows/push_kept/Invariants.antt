use Rattle.std.proofs.Common.{◌≡◌, ◌++◌, drop}
use Rattle.std.specs.Prelude.{string_bytes}
use Rattle.run_views.specs.JobTexts.{kept_rows}
use Rattle.run_views.proofs.all_rows.push_kept.Given as goal

-- what was written so far, and the rows that are left, are all that is written
abbrev pub invariant-loop-info : goal.invariant-loop-info
invariant-loop-info l = string_bytes l.out ++ kept_rows l.now (drop l.info-index l.infos) ≡ string_bytes l.fn.out ++ kept_rows l.now l.infos
