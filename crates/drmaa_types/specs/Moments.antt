-- Moments, in whole seconds: our profile.
use Rattle.std.specs.Prelude.{ℕ}

-- the greatest moment
unfoldable pub greatest : ℕ
greatest = 100_000_000_000
