use Rattle.std.proofs.Common.{◌≡◌, ◌++◌, drop}
use Rattle.std.specs.Prelude.{string_bytes}
use Rattle.std.specs.List.{flat_map}
use Rattle.script_advice.specs.WarningTexts.{warning_line}
use Rattle.script_advice.proofs.printing.push_warnings.Given as goal

-- what was written so far, and what is left, are all of it
abbrev pub invariant-loop-warning : goal.invariant-loop-warning
invariant-loop-warning l = string_bytes l.out ++ flat_map warning_line (drop l.warning-index l.found) ≡ string_bytes l.initial.out ++ flat_map warning_line l.found
