-- A span of a number of months that is not large.
use Rattle.std.proofs.Common.{◌≡◌, ℕ, ◌^◌, ◌<◌, arith, subst, ◌∙◌, FitsSigned, w64, to_z, of_z, to_z-of_z, ℤ, pos}
use Rattle.jiff_core.proofs.SignedLemmas.{signed_arith}
use Rattle.jiff_core.specs.Span.{IsOnly}
use Rattle.jiff_core.specs.declared.span.Span.{Span}
use Rattle.jiff_core.specs.declared.unit.Unit.TheVariants.{Month}

pub span-of-months : (n : ℕ) (r : ℤ) (s : Span) → n < 2 ^ 32 → r ≡ pos n → IsOnly Month (to_z w64 (of_z w64 r)) s → IsOnly Month (pos n) s
span-of-months n r s small is only =
    let fits : FitsSigned w64 r = omega (arith, signed_arith) in
    subst (λ (z : ℤ). IsOnly Month z s) (to_z-of_z fits ∙ is) only
