-- Which moments are before an end.
use Rattle.std.proofs.Common.{◌≡◌, ℕ, ◌≤◌, true, refl, arith}
use Rattle.std.proofs.lemmas.Bool.{ltb-true, lt-ltb}
use Rattle.drmaa_types.specs.declared.moments.End.{End}
use Rattle.drmaa_types.specs.declared.moments.End.TheVariants.{At, Never}
use Rattle.reservation_calendar.specs.Loads.{is_before}

-- what is not after a moment before the end is before it too
pub is_before-le : (x y : ℕ) (e : End) → x ≤ y → is_before y e ≡ true → is_before x e ≡ true
is_before-le x y (At m) le h = lt-ltb x m (omega (arith, ltb-true y m h))
is_before-le x y Never le h = refl
