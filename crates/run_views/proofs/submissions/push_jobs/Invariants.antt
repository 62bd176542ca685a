use Rattle.std.proofs.Common.{◌≡◌, ◌++◌, ◌+◌, ◌-◌, map}
use Rattle.run_views.specs.Submitted.{numbers_from, submission}
use Rattle.run_views.proofs.submissions.push_jobs.Given as goal

-- what was added so far, and the jobs that are left, are all
abbrev pub invariant-loop-place : goal.invariant-loop-place
invariant-loop-place l =
    l.submissions.items ++ map (submission l.at l.session l.name) (numbers_from (l.jobs.first.0 + l.place) (l.jobs.count - l.place))
    ≡ l.fn.submissions.items ++ map (submission l.at l.session l.name) (numbers_from l.jobs.first.0 l.jobs.count)
