use Rattle.std.proofs.Common.{◌≡◌, drop}
use Rattle.run_views.specs.Submitted.{is_used}
use Rattle.run_views.proofs.used_names.is_used.Given as goal

-- those that are left decide
abbrev pub invariant-loop-other : goal.invariant-loop-other
invariant-loop-other l = is_used (drop l.other-index l.used) l.name ≡ is_used l.used l.name
