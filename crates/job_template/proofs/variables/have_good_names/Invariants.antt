use Rattle.std.proofs.Common.{◌≡◌, drop}
use Rattle.std.specs.List.{list_all}
use Rattle.job_template.specs.Texts as texts
use Rattle.job_template.proofs.variables.have_good_names.Given as goal

-- those that are left decide
abbrev pub invariant-loop-pair : goal.invariant-loop-pair
invariant-loop-pair l = list_all texts.has_good_name (drop l.pair-index l.pairs) ≡ list_all texts.has_good_name l.pairs
