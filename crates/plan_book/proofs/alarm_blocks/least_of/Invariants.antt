use Rattle.std.proofs.Common.{◌≡◌, ℕ, ◌<◌, false, get_or}
use Rattle.drmaa_types.specs.declared.moments.End.TheVariants.{Never}
use Rattle.drmaa_model.specs.Time.{is_past}
use Rattle.plan_book.proofs.alarm_blocks.least_of.Given as goal

-- the least so far
abbrev pub invariant-loop-place : goal.invariant-loop-place
invariant-loop-place l = record {
  first : (moment : ℕ) → is_past moment l.least ≡ false → is_past moment l.fn.end ≡ false;
  others : (moment k : ℕ) → k < l.place → is_past moment l.least ≡ false → is_past moment (get_or l.ends k Never) ≡ false;
}
