use Rattle.std.proofs.Common.{◌≡◌, length, take}
use Rattle.drmaa_types.proofs.same.are_same.Given as goal

-- the items that were compared are the same
abbrev pub invariant-loop-i : goal.invariant-loop-i
invariant-loop-i g l = record {
  lengths : length l.ones ≡ length l.others;
  compared : take l.i l.ones ≡ take l.i l.others;
}
