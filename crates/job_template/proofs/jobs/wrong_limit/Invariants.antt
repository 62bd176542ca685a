use Rattle.std.proofs.Common.{◌≡◌, false, drop}
use Rattle.drmaa_types.specs.Refusals.{first_refusal}
use Rattle.job_template.specs.JobTests.{limit_tests}
use Rattle.job_template.proofs.jobs.wrong_limit.Given as goal

-- those that are left decide
abbrev pub invariant-loop-limit : goal.invariant-loop-limit
invariant-loop-limit l =
    first_refusal (limit_tests l.stands (drop l.limit-index l.limit-items)) ≡ first_refusal (limit_tests false l.limits)
