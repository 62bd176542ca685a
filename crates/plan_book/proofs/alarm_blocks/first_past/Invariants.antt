use Rattle.std.proofs.Common.{◌≡◌, ℕ, ◌<◌, false, get_or}
use Rattle.drmaa_types.specs.declared.moments.End.TheVariants.{Never}
use Rattle.drmaa_model.specs.Time.{is_past}
use Rattle.plan_book.proofs.alarm_blocks.first_past.Given as goal

-- none so far
abbrev pub invariant-loop-place : goal.invariant-loop-place
invariant-loop-place l = (k : ℕ) → k < l.place → is_past l.moment (get_or l.ends k Never) ≡ false
