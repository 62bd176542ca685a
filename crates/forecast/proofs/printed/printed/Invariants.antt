use Rattle.std.proofs.Common.{◌≡◌, ◌++◌, drop}
use Rattle.std.specs.Prelude.{string_bytes}
use Rattle.std.specs.List.{flat_map}
use Rattle.forecast.specs.Texts.{start_line}
use Rattle.forecast.proofs.printed.printed.Given as goal

-- what was written so far, and the lines that are left, are the lines of all starts
abbrev pub invariant-loop-start : goal.invariant-loop-start
invariant-loop-start l = string_bytes l.out ++ flat_map start_line (drop l.start-index l.starts) ≡ flat_map start_line l.starts
