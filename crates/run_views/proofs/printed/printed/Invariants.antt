use Rattle.std.proofs.Common.{◌≡◌, ◌++◌, drop}
use Rattle.std.specs.Prelude.{string_bytes}
use Rattle.run_views.specs.Texts.{log_text}
use Rattle.run_views.proofs.printed.printed.Given as goal

-- what was written so far, and the lines that are left, are the lines of all runs
abbrev pub invariant-loop-run : goal.invariant-loop-run
invariant-loop-run l = string_bytes l.out ++ log_text (drop l.run-index l.runs) ≡ log_text l.runs
