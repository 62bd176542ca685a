-- Occurrences by days and by weeks that lie after the greatest moment.
use Rattle.std.proofs.Common.{◌≡◌, ℕ, ◌+◌, ◌*◌, ◌≤◌, Option, IfNone, sym, subst, refl, arith}
use Rattle.std.specs.Option.{SomeIff}
use Rattle.drmaa_types.specs.Moments.{greatest}
use Rattle.recurring_reservations.specs.declared.recurrences.Every.{Every}
use Rattle.recurring_reservations.specs.declared.recurrences.Every.TheVariants.{Days, Weeks}
use Rattle.recurring_reservations.specs.Dates.{IsBeyond}
use Rattle.recurring_reservations.specs.Occurrences.{IsOccurrence}
use Rattle.recurring_reservations.proofs.Found.{unfound}

pub beyond-days : (m : ℕ) (every : Every) (i n a b : ℕ) (o : Option ℕ) → every ≡ Days n → a ≡ n → b ≡ i → SomeIff o (m + 86_400 * a * b ≤ greatest) (m + 86_400 * a * b) → IfNone o (IsBeyond (IsOccurrence m every i))
beyond-days m every i n a b o is days index iff =
    let same : m + 86_400 * a * b ≡ m + 86_400 * n * i = rw (days, index) refl in
    unfound o _ _ _ iff (λ not. (m + 86_400 * a * b, subst (λ (e : Every). IsOccurrence m e i (m + 86_400 * a * b)) (sym is) same, omega arith))

pub beyond-weeks : (m : ℕ) (every : Every) (i n a b : ℕ) (o : Option ℕ) → every ≡ Weeks n → a ≡ n → b ≡ i → SomeIff o (m + 7 * (86_400 * a * b) ≤ greatest) (m + 7 * (86_400 * a * b)) → IfNone o (IsBeyond (IsOccurrence m every i))
beyond-weeks m every i n a b o is weeks index iff =
    let same : m + 7 * (86_400 * a * b) ≡ m + 7 * (86_400 * n * i) = rw (weeks, index) refl in
    unfound o _ _ _ iff (λ not. (m + 7 * (86_400 * a * b), subst (λ (e : Every). IsOccurrence m e i (m + 7 * (86_400 * a * b))) (sym is) same, omega arith))
