use Rattle.std.proofs.Common.{◌≡◌, drop}
use Rattle.std.specs.List.{list_any}
use Rattle.std.specs.Str.{bytes_eq}
use Rattle.job_template.specs.Texts.{names_of}
use Rattle.job_template.proofs.variables.is_named.Given as goal

-- those that are left decide
abbrev pub invariant-loop-pair : goal.invariant-loop-pair
invariant-loop-pair l =
    list_any (bytes_eq l.name) (names_of (drop l.pair-index l.pairs)) ≡ list_any (bytes_eq l.name) (names_of l.pairs)
