use Rattle.std.proofs.Common.{◌≡◌, drop}
use Rattle.std.specs.List.{find}
use Rattle.job_template.specs.Wants as wants
use Rattle.job_template.proofs.templates.JobTemplate.wallclock_limit.Given as goal

-- the limit is looked for among those that are left
abbrev pub invariant-loop-limit : goal.invariant-loop-limit
invariant-loop-limit l =
    find wants.is_wallclock (drop l.limit-index l.limit-items) ≡ find wants.is_wallclock l.self.resource_limits
