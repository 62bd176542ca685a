use Rattle.std.proofs.Common.{◌≡◌, drop}
use Rattle.std.specs.List.{list_all}
use Rattle.job_template.specs.Texts as texts
use Rattle.job_template.proofs.variables.continue_name.Given as goal

-- those that are left decide
abbrev pub invariant-loop-byte : goal.invariant-loop-byte
invariant-loop-byte l = list_all texts.continues_name (drop l.byte-index l.bytes) ≡ list_all texts.continues_name l.bytes
