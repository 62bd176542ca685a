-- A valid number is closed.
use Rattle.std.proofs.Common.{◌≡◌, ℕ, true, false, cond, not, List, Option, Some, None}
use Rattle.std.specs.Prelude.{Result, Ok, Err, OnOk, is_some}
use Rattle.std.specs.Option.{option_map_or, option_and_then}
use Rattle.std.specs.List.{list_any}
use Rattle.session_table.specs.Sessions.{Sessions, RefusesOnlyAs, close_refusal, meaning_of, is_kind}
use Rattle.drmaa_types.specs.declared.identifiers.SessionId.{SessionId}
use Rattle.drmaa_types.specs.declared.refusals.Refusal.{Refusal}
use Rattle.drmaa_types.specs.declared.refusals.Refusal.TheVariants.{InvalidSession}
use Rattle.drmaa_types.specs.declared.sessions.SessionKind.{SessionKind}
use Rattle.drmaa_model.specs.Homes.{is_open}

pub close-ok : (kinds : List SessionKind) (s : Sessions) (session : SessionId) (r : Result (Unit {0}) Refusal) (P : Type 0) → is_open kinds session s ≡ true
    → RefusesOnlyAs (close_refusal session.0 s) r → OnOk r P → P
close-ok kinds s session (Ok x) P valid refused here = here
close-ok kinds s session (Err why) P valid refused here =
    (elim (meaning_of session.0 s.valid) as (λ (o : Option (SessionKind × Option ℕ)).
    option_map_or (λ (kind : SessionKind). list_any (is_kind kind) kinds) (option_and_then (λ (m : SessionKind × Option ℕ). Some m.0) o) false ≡ true
    → cond (not (is_some o)) (Some InvalidSession) None ≡ Some why → P) [
      | None ↦ λ a b. absurd (cc)
      | Some m ↦ λ a b. absurd (cc)
    ]) valid refused
