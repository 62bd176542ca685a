-- The laws of numbers that name things, and of exits.
use Rattle.std.proofs.Common.{◌≡◌, ℕ, ◌^◌, Bool, true, false, codes, refl}
use Rattle.drmaa_types.specs.declared.states.Exit.{Exit}
use Rattle.drmaa_types.specs.declared.states.Exit.TheVariants.{Code, Signal}
use Rattle.text_codec.specs.Formats.{IsFormat, number}
use Rattle.text_codec.specs.FormatLaws.{mapped_laws, tagged_laws}
use Rattle.text_codec.specs.BaseLaws.{number_laws_64, number_laws_32, number_laws_8}
use Rattle.text_codec.specs.Numbers.{job_id, array_id, reservation_id, session_id, caller_id, make_exit, exit_parts, exit}

pub job_id_laws : IsFormat job_id
unfolding job_id
job_id_laws = mapped_laws _ _ (number (2 ^ 64)) number_laws_64 (λ x v. refl) (λ y v. refl)

pub array_id_laws : IsFormat array_id
unfolding array_id
array_id_laws = mapped_laws _ _ (number (2 ^ 64)) number_laws_64 (λ x v. refl) (λ y v. refl)

pub reservation_id_laws : IsFormat reservation_id
unfolding reservation_id
reservation_id_laws = mapped_laws _ _ (number (2 ^ 64)) number_laws_64 (λ x v. refl) (λ y v. refl)

pub session_id_laws : IsFormat session_id
unfolding session_id
session_id_laws = mapped_laws _ _ (number (2 ^ 64)) number_laws_64 (λ x v. refl) (λ y v. refl)

pub caller_id_laws : IsFormat caller_id
unfolding caller_id
caller_id_laws = mapped_laws _ _ (number (2 ^ 32)) number_laws_32 (λ x v. refl) (λ y v. refl)

pub exit_laws : IsFormat exit
unfolding exit
exit_laws = mapped_laws make_exit exit_parts _ (tagged_laws (codes "code ") (codes "signal ") (number (2 ^ 8)) refl number_laws_8) (λ x v. here x) (λ y v. there y)
  where
    here : (x : Bool × ℕ) → exit_parts (make_exit x) ≡ x
    here (true, n) = refl
    here (false, n) = refl

    there : (y : Exit) → make_exit (exit_parts y) ≡ y
    there (Code n) = refl
    there (Signal n) = refl
