-- A machine's world at its own moment.
use Rattle.std.proofs.Common.{◌≡◌, ℕ, ◌+◌, arith}
use Rattle.drmaa_model.specs.History.{IsLegal, Ledger, now_of}
use Rattle.drmaa_model.specs.RestSteps.{legal-still}
use Rattle.drmaa_model.specs.Time.{advance}

-- time has done all that it does there
pub still : (ledger : Ledger) (at : ℕ) → IsLegal ledger.config ledger.history → at ≡ (now_of ledger).plan.moment → (advance (now_of ledger) at).plan ≡ (now_of ledger).plan
still ledger at legal here = legal-still ledger.config ledger.history ((now_of ledger).entries + 1) at legal (omega (arith, here))
