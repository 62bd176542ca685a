use Rattle.std.proofs.Common.{◌≡◌, drop}
use Rattle.std.specs.List.{list_any}
use Rattle.job_template.specs.Texts as texts
use Rattle.job_template.proofs.jobs.have_nul.Given as goal

-- those that are left decide
abbrev pub invariant-loop-text : goal.invariant-loop-text
invariant-loop-text l = list_any texts.has_nul (drop l.text-index l.text-items) ≡ list_any texts.has_nul l.texts
