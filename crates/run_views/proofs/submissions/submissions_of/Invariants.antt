use Rattle.std.proofs.Common.{◌≡◌, ◌++◌, drop}
use Rattle.run_views.specs.Submitted.{submitted_from, submissions}
use Rattle.run_views.proofs.submissions.submissions_of.Given as goal

-- what was submitted so far, and what the entries that are left submit from now on, is all
abbrev pub invariant-loop-entry : goal.invariant-loop-entry
invariant-loop-entry l = l.submissions.items ++ submitted_from l.now (drop l.entry-index l.entries) ≡ submissions l.entries
