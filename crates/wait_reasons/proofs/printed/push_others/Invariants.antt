use Rattle.std.proofs.Common.{◌≡◌, ◌++◌, drop}
use Rattle.std.specs.Prelude.{string_bytes}
use Rattle.wait_reasons.specs.Texts.{other_texts}
use Rattle.wait_reasons.proofs.printed.push_others.Given as goal

-- what was written so far, and the reasons that are left, are all that is written
abbrev pub invariant-loop-reason : goal.invariant-loop-reason
invariant-loop-reason l = string_bytes l.out ++ other_texts l.queues (drop l.reason-index l.others) ≡ string_bytes l.fn.out ++ other_texts l.queues l.others
