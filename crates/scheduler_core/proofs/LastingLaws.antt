-- The reservation that lasts is the one that is found before time goes on.
use Rattle.std.proofs.Common.{◌≡◌, ℕ, ◌<◌, true, false, cond, eqb, List, [], ◌∷◌, filter, Option, Some, None, refl, subst, arith}
use Rattle.std.specs.Prelude.{is_some}
use Rattle.std.specs.List.{AllByRecursion}
use Rattle.std.proofs.lemmas.Bool.{eqb-true}
use Rattle.drmaa_types.specs.declared.identifiers.ReservationId.{ReservationId}
use Rattle.drmaa_model.specs.declared.reservations.Accepted.{Accepted}
use Rattle.drmaa_model.specs.Fit.{IsRising, reservation_number}
use Rattle.drmaa_model.specs.Load.{reservation_of}
use Rattle.drmaa_model.specs.Time.{is_accepted, lasts}

-- where all numbers are above this one, it is not found
above-none : (m : ℕ) (n : ReservationId) (rs : List Accepted) → AllByRecursion (λ (a : Accepted). n.0 < reservation_number a) rs → reservation_of n (filter (lasts m) rs) ≡ None
above-none m n [] above = refl
above-none m n (a ∷ rs) above =
    (elim (lasts m a) as (λ b. reservation_of n (cond b (a ∷ filter (lasts m) rs) (filter (lasts m) rs)) ≡ None) [
      | true ↦
          (elim (eqb a.reservation.0 n.0) as (λ b. eqb a.reservation.0 n.0 ≡ b → cond b (Some a) (reservation_of n (filter (lasts m) rs)) ≡ None) [
            | true ↦ λ e. (let same = eqb-true a.reservation.0 n.0 e in let more = above.0 in absurd (omega arith))
            | false ↦ λ e. above-none m n rs above.1
          ]) refl
      | false ↦ above-none m n rs above.1
    ])

pub lasting-same : (m : ℕ) (n : ReservationId) (rs : List Accepted) → IsRising reservation_number rs → is_accepted (filter (lasts m) rs) n ≡ true
    → reservation_of n rs ≡ reservation_of n (filter (lasts m) rs)
lasting-same m n [] rising is = refl
lasting-same m n (a ∷ rs) rising is =
    (elim (lasts m a) as (λ b. is_some (reservation_of n (cond b (a ∷ filter (lasts m) rs) (filter (lasts m) rs))) ≡ true
    → reservation_of n (a ∷ rs) ≡ reservation_of n (cond b (a ∷ filter (lasts m) rs) (filter (lasts m) rs))) [
      | true ↦
          (elim (eqb a.reservation.0 n.0) as (λ b. is_some (cond b (Some a) (reservation_of n (filter (lasts m) rs))) ≡ true
          → cond b (Some a) (reservation_of n rs) ≡ cond b (Some a) (reservation_of n (filter (lasts m) rs))) [
            | true ↦ λ e. refl
            | false ↦ λ e. lasting-same m n rs rising.1 e
          ])
      | false ↦ λ found.
          ((elim (eqb a.reservation.0 n.0) as (λ b. eqb a.reservation.0 n.0 ≡ b → cond b (Some a) (reservation_of n rs) ≡ reservation_of n (filter (lasts m) rs)) [
            | true ↦ λ e. (let same : a.reservation.0 ≡ n.0 = eqb-true a.reservation.0 n.0 e in
                let none = above-none m n rs (subst (λ (k : ℕ). AllByRecursion (λ (y : Accepted). k < reservation_number y) rs) same rising.0) in absurd (cc))
            | false ↦ λ e. lasting-same m n rs rising.1 found
          ]) refl)
    ]) is

pub not-found : (o : Option Accepted) → is_some o ≡ false → o ≡ None
not-found None is = refl
not-found (Some a) is = absurd (cc)
