use Rattle.std.proofs.Common.{◌≡◌, drop}
use Rattle.std.specs.List.{list_any}
use Rattle.job_template.specs.Texts as texts
use Rattle.job_template.proofs.variables.have_nul.Given as goal

-- those that are left decide
abbrev pub invariant-loop-pair : goal.invariant-loop-pair
invariant-loop-pair l = list_any texts.has_nul_value (drop l.pair-index l.pairs) ≡ list_any texts.has_nul_value l.pairs
