-- Which accepted reservation comes next: our profile.
use Rattle.std.specs.Prelude.{ℕ, nat_le, List, find, Option}
use Rattle.std.specs.Option.{option_map}
use Rattle.drmaa_types.specs.declared.identifiers.ReservationId.{ReservationId}
use Rattle.drmaa_model.specs.declared.reservations.Accepted.{Accepted}

-- the first accepted reservation whose number is at this one or above it; they stand in order of number
abbrev pub reservation_from : ℕ → List Accepted → Option ReservationId
reservation_from number rs = option_map (λ (a : Accepted). a.reservation) (find (λ (a : Accepted). nat_le number a.reservation.0) rs)
