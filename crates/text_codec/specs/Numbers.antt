-- The numbers that name things, and how a job ended: our profile.
use Rattle.std.specs.Prelude.{ℕ, ◌^◌, Bool, true, false, codes}
use Rattle.drmaa_types.specs.declared.identifiers.JobId.{JobId}
use Rattle.drmaa_types.specs.declared.identifiers.ArrayId.{ArrayId}
use Rattle.drmaa_types.specs.declared.identifiers.ReservationId.{ReservationId}
use Rattle.drmaa_types.specs.declared.identifiers.SessionId.{SessionId}
use Rattle.drmaa_types.specs.declared.identifiers.CallerId.{CallerId}
use Rattle.drmaa_types.specs.declared.states.Exit.{Exit}
use Rattle.drmaa_types.specs.declared.states.Exit.TheVariants.{Code, Signal}
use Rattle.text_codec.specs.Formats.{Format, number, mapped, tagged}

unfoldable pub job_id : Format JobId
job_id = mapped (λ n. record { 0 = n }) (λ id. id.0) (number (2 ^ 64))

unfoldable pub array_id : Format ArrayId
array_id = mapped (λ n. record { 0 = n }) (λ id. id.0) (number (2 ^ 64))

unfoldable pub reservation_id : Format ReservationId
reservation_id = mapped (λ n. record { 0 = n }) (λ id. id.0) (number (2 ^ 64))

unfoldable pub session_id : Format SessionId
session_id = mapped (λ n. record { 0 = n }) (λ id. id.0) (number (2 ^ 64))

unfoldable pub caller_id : Format CallerId
caller_id = mapped (λ n. record { 0 = n }) (λ id. id.0) (number (2 ^ 32))

-- how a job ended: `code N` or `signal N`
abbrev pub make_exit : Bool × ℕ → Exit
make_exit (true, n) = Code n
make_exit (false, n) = Signal n

abbrev pub exit_parts : Exit → Bool × ℕ
exit_parts (Code n) = (true, n)
exit_parts (Signal n) = (false, n)

unfoldable pub exit : Format Exit
exit = mapped make_exit exit_parts (tagged (codes "code ") (codes "signal ") (number (2 ^ 8)))
