use Rattle.std.proofs.Common.{◌≡◌, ◌+◌, ℕ}
use Rattle.std.specs.Prelude.{All, IfSome, length, slice_get}
use Rattle.drmaa_script.proofs.printed.printed_callbacks.Given as goal

-- each callback so far has its number, and was not called
abbrev pub invariant-loop-number : goal.invariant-loop-number
invariant-loop-number l = record {
  count : length l.callbacks.items + 1 ≡ l.number;
  numbers : (k : ℕ) → IfSome (slice_get l.callbacks.items k) (λ callback. callback.number ≡ k + 1);
  calls : All (λ callback. callback.calls ≡ 0) l.callbacks.items;
}
