use Rattle.std.proofs.Common.{◌≡◌, ℕ, ◌≤◌, false, get_or, length}
use Rattle.drmaa_types.specs.declared.moments.End.TheVariants.{Never}
use Rattle.drmaa_model.specs.Time.{is_past}
use Rattle.plan_book.proofs.alarm_blocks.behind_past.Given as goal

abbrev pub decreases-loop-until : goal.decreases-loop-until
decreases-loop-until l = l.until

-- none from there on
abbrev pub invariant-loop-until : goal.invariant-loop-until
invariant-loop-until l = record {
  within : l.until ≤ length l.ends;
  behind : (k : ℕ) → l.until ≤ k → is_past l.moment (get_or l.ends k Never) ≡ false;
}
