-- What is known where a call is not refused.
use Rattle.std.proofs.Common.{◌≡◌, ℕ, ◌+◌, ◌<◌, ◌≤◌, Bool, true, false, cond, ◌||◌, ◌==◌, nat_lt, nat_le, List, [], length, Option, Some, None, refl, sym, ◌∙◌, arith}
use Rattle.std.proofs.lemmas.Bool.Decides.{nat_tests}
use Rattle.drmaa_types.specs.declared.sessions.SessionKind.{SessionKind}
use Rattle.drmaa_types.specs.declared.refusals.Refusal.{Refusal}
use Rattle.session_table.specs.Sessions.{NamedSession, Sessions, chosen_name, create_refusal, is_bad_name, in_use, least_unused, session_name, most_bytes}
use Rattle.session_table.specs.FirstFree.{least_unused-is}

below : (n : ℕ) → nat_le 1_000 n ≡ false → n < 1_000
below n h = grind (arith, nat_tests)

or_false : (a b c : Bool) → (a || b || c) ≡ false → c ≡ false
or_false true b c h = cc
or_false false true c h = cc
or_false false false c h = h

-- no test holds
none_hold : (a b c : Bool) (r s t : Refusal) → cond a (Some r) (cond b (Some s) (cond c (Some t) None)) ≡ None → (a ≡ false) × (b ≡ false) × (c ≡ false)
none_hold true b c r s t h = cc
none_hold false true c r s t h = cc
none_hold false false true r s t h = cc
none_hold false false false r s t h = (refl, refl, refl)

-- a session may be created
pub record MayCreate (kind : SessionKind) (name : List ℕ) (s : Sessions) : Type 0 where
  pub free : in_use kind name s.named ≡ false
  pub few_sessions : length s.named < 1_000
  pub few_numbers : length s.valid < 1_000

free_name : (kind : SessionKind) (name : Option (List ℕ)) (named : List NamedSession) → length named ≤ 1_000 → is_bad_name kind name named ≡ false → in_use kind (chosen_name kind name named) named ≡ false
free_name kind None named few good = (least_unused-is kind named few).unused
free_name kind (Some name) named few good = or_false (length name == 0) (nat_lt most_bytes (length name)) (in_use kind name named) good

pub may_create : (kind : SessionKind) (name : Option (List ℕ)) (s : Sessions) → length s.named ≤ 1_000 → create_refusal kind name s ≡ None → MayCreate kind (chosen_name kind name s.named) s
may_create kind name s few h =
    let none = none_hold (is_bad_name kind name s.named) (nat_le 1_000 (length s.named)) (nat_le 1_000 (length s.valid)) _ _ _ h in
    record { free = free_name kind name s.named few none.0; few_sessions = below (length s.named) none.1; few_numbers = below (length s.valid) none.2 }
