use Rattle.std.proofs.Common.{◌≡◌, ◌-◌, length}
use Rattle.session_table.specs.Sessions.{first_free, session_name}
use Rattle.run_views.specs.Submitted.{is_used}
use Rattle.run_views.proofs.used_names.unused_name.Given as goal

-- the least number is the first free one of those that are left
abbrev pub invariant-loop-number : goal.invariant-loop-number
invariant-loop-number l =
    first_free (λ n. is_used l.used (session_name n)) l.number (l.number-end - l.number) ≡ first_free (λ n. is_used l.used (session_name n)) 1 (length l.used)
