-- The session manager: GFD.231, section 7. Numbers, limits and the order of refusals are our profile.
use Rattle.std.specs.Prelude.{◌≡◌, ℕ, zero, suc, ◌+◌, ◌<◌, ◌≤◌, Bool, true, false, not, ◌&&◌, ◌||◌, ◌==◌, nat_lt, nat_le, nat_eq, List, [], ◌∷◌, ◌++◌, length, map, filter, Option, Some, None, is_some, is_none, Result, if◌then◌else◌, codes, decimal, IsTrue, ◌⊎◌}
use Rattle.std.specs.Str.{bytes_eq}
use Rattle.std.specs.Option.{option_map}
use Rattle.std.specs.Result.{MatchResult}
use Rattle.std.specs.List.{find, list_any, All, IsDistinct}
use Rattle.drmaa_types.specs.declared.sessions.SessionKind.{SessionKind}
use Rattle.drmaa_types.specs.declared.sessions.SessionKind.TheVariants.{Jobs, Reservations, Monitoring}
use Rattle.drmaa_types.specs.declared.refusals.Refusal.{Refusal}
use Rattle.drmaa_types.specs.declared.refusals.Refusal.TheVariants.{InvalidArgument, InvalidSession, OutOfResource, OutOfMemory}
use Rattle.drmaa_types.specs.Refusals.{first_refusal}
use Rattle.drmaa_types.specs.declared.refusals.Which.TheVariants.{SessionName}
use Rattle.drmaa_types.specs.declared.refusals.Limit.TheVariants.{Sessions as named_limit, OpenSessions as open_limit}

-- a named session; its home is its number, counted from 1 over both kinds
pub record NamedSession : Type 0 where
  pub home : ℕ
  pub kind : SessionKind
  pub name : List ℕ

-- a valid session number: its kind, and the home of the named session that it stands for, if any
pub record ValidNumber : Type 0 where
  pub number : ℕ
  pub kind : SessionKind
  pub home : Option ℕ

-- the sessions: the named ones in order of creation, the valid numbers in order, and the numbers that come next
pub record Sessions : Type 0 where
  pub named : List NamedSession
  pub valid : List ValidNumber
  pub next_session : ℕ
  pub next_home : ℕ

-- before the first call
abbrev pub opening : Sessions
opening = record { named = []; valid = []; next_session = 1; next_home = 1 }

-- ---- kinds and names

-- each kind's place in the list of kinds
abbrev pub kind_number : SessionKind → ℕ
kind_number Jobs = 0
kind_number Reservations = 1
kind_number Monitoring = 2

-- whether two kinds are one
abbrev pub is_kind : SessionKind → SessionKind → Bool
is_kind a b = kind_number a == kind_number b

-- sessions of the kind have names
abbrev pub has_names : SessionKind → Bool
has_names kind = not (is_kind kind Monitoring)

-- the session has this kind and this name
abbrev pub is_named : SessionKind → List ℕ → NamedSession → Bool
is_named kind name n = is_kind kind n.kind && bytes_eq name n.name

-- the home of the session of this kind and name
abbrev pub home_of : SessionKind → List ℕ → List NamedSession → Option ℕ
home_of kind name named = option_map (λ (n : NamedSession). n.home) (find (is_named kind name) named)

-- the name is in use in its kind
abbrev pub in_use : SessionKind → List ℕ → List NamedSession → Bool
in_use kind name named = is_some (home_of kind name named)

-- the name of the session with this home
abbrev pub name_of : ℕ → List NamedSession → Option (List ℕ)
name_of home named = option_map (λ (n : NamedSession). n.name) (find (λ (n : NamedSession). home == n.home) named)

-- the names of a kind, in order of creation
abbrev pub names_of : SessionKind → List NamedSession → List (List ℕ)
names_of kind named = map (λ (n : NamedSession). n.name) (filter (λ (n : NamedSession). is_kind kind n.kind) named)

-- the kind of a valid number, and the home that it stands for
abbrev pub meaning_of : ℕ → List ValidNumber → Option (SessionKind × Option ℕ)
meaning_of number valid = option_map (λ (v : ValidNumber). (v.kind, v.home)) (find (λ (v : ValidNumber). number == v.number) valid)

-- ---- the name of a session that is created without one

-- `session-N`
abbrev pub session_name : ℕ → List ℕ
session_name n = codes "session-" ++ decimal n

-- the first of the `count` numbers from `from` on that is not taken, or the number after them
abbrev pub first_free : (ℕ → Bool) → ℕ → ℕ → ℕ
first_free taken from zero = from
first_free taken from (suc count) = if taken from then first_free taken (from + 1) count else from

-- The least N from 1 such that `session-N` is not in use in its kind. Each named session takes at most one, so it is no
-- more than one above their number.
abbrev pub least_unused : SessionKind → List NamedSession → ℕ
least_unused kind named = first_free (λ n. in_use kind (session_name n) named) 1 (length named)

-- what the least such number is
pub record IsLeastUnused (kind : SessionKind) (named : List NamedSession) (n : ℕ) : Type 0 where
  pub from_one : 1 ≤ n
  pub unused : in_use kind (session_name n) named ≡ false
  pub least : (k : ℕ) → 1 ≤ k → k < n → in_use kind (session_name k) named ≡ true

-- the name that a session gets
abbrev pub chosen_name : SessionKind → Option (List ℕ) → List NamedSession → List ℕ
chosen_name kind (Some name) named = name
chosen_name kind None named = session_name (least_unused kind named)

-- ---- refusals

-- the most named sessions, and the most valid session numbers
abbrev pub most_sessions : ℕ
most_sessions = 1_000

-- the most bytes of a name
abbrev pub most_bytes : ℕ
most_bytes = 255

-- no session can be created under the name: it is empty, too long, or in use in its kind
abbrev pub is_bad_name : SessionKind → Option (List ℕ) → List NamedSession → Bool
is_bad_name kind None named = false
is_bad_name kind (Some name) named = (length name == 0) || nat_lt most_bytes (length name) || in_use kind name named

abbrev pub create_refusal : SessionKind → Option (List ℕ) → Sessions → Option Refusal
create_refusal kind name s = first_refusal (
    (is_bad_name kind name s.named, InvalidArgument SessionName) ∷
    (nat_le most_sessions (length s.named), OutOfResource named_limit) ∷
    (nat_le most_sessions (length s.valid), OutOfResource open_limit) ∷ [])

abbrev pub open_refusal : SessionKind → List ℕ → Sessions → Option Refusal
open_refusal kind name s = first_refusal (
    (not (in_use kind name s.named), InvalidArgument SessionName) ∷
    (nat_le most_sessions (length s.valid), OutOfResource open_limit) ∷ [])

abbrev pub monitor_refusal : Sessions → Option Refusal
monitor_refusal s = first_refusal ((nat_le most_sessions (length s.valid), OutOfResource open_limit) ∷ [])

abbrev pub close_refusal : ℕ → Sessions → Option Refusal
close_refusal number s = first_refusal ((not (is_some (meaning_of number s.valid)), InvalidSession) ∷ [])

abbrev pub destroy_refusal : SessionKind → List ℕ → Sessions → Option Refusal
destroy_refusal kind name s = first_refusal ((not (in_use kind name s.named), InvalidArgument SessionName) ∷ [])

-- An answer is Ok only where there is no refusal. An error is the refusal, or, where there is none, want of memory.
abbrev pub RefusesAs : {A : Type 0} → Option Refusal → Result A Refusal → Type 0
RefusesAs refusal answer = MatchResult answer (λ _. refusal ≡ None) (λ r. (refusal ≡ Some r) ⊎ ((refusal ≡ None) × (r ≡ OutOfMemory)))

-- the same for a call that takes no memory: an error is the refusal
abbrev pub RefusesOnlyAs : {A : Type 0} → Option Refusal → Result A Refusal → Type 0
RefusesOnlyAs refusal answer = MatchResult answer (λ _. refusal ≡ None) (λ r. refusal ≡ Some r)

-- ---- effects

-- a new number of this kind for this home
abbrev pub opened : SessionKind → Option ℕ → Sessions → Sessions
opened kind home s = record s {
  valid = s.valid ++ record { number = s.next_session; kind = kind; home = home } ∷ [];
  next_session = s.next_session + 1;
}

-- a new named session, with a first number for it
abbrev pub created : SessionKind → Option (List ℕ) → Sessions → Sessions
created kind name s = opened kind (Some s.next_home) (record s {
  named = s.named ++ record { home = s.next_home; kind = kind; name = chosen_name kind name s.named } ∷ [];
  next_home = s.next_home + 1;
})

-- without this number
abbrev pub closed : ℕ → Sessions → Sessions
closed number s = record s { valid = filter (λ (v : ValidNumber). not (number == v.number)) s.valid }

-- a number stands for this home
abbrev pub is_home : ℕ → Option ℕ → Bool
is_home home None = false
is_home home (Some h) = home == h

-- without the named session of this home, and without every number of it
abbrev pub destroyed : ℕ → Sessions → Sessions
destroyed home s = record s {
  named = filter (λ (n : NamedSession). not (home == n.home)) s.named;
  valid = filter (λ (v : ValidNumber). not (is_home home v.home)) s.valid;
}

-- ---- what holds between calls

-- two sessions have one name in one kind
abbrev pub is_same_name : NamedSession → NamedSession → Bool
is_same_name a b = is_named b.kind b.name a

-- A number stands for a named session of its kind. A number for monitoring stands for none.
abbrev pub is_bound : List NamedSession → ValidNumber → Bool
is_bound named v =
    if is_kind v.kind Monitoring then is_none v.home
    else list_any (λ (n : NamedSession). is_kind v.kind n.kind && is_home n.home v.home) named

pub record IsSound (s : Sessions) : Type 0 where
  pub names : IsDistinct is_same_name s.named
  pub homes : IsDistinct nat_eq (map (λ (n : NamedSession). n.home) s.named)
  pub numbers : IsDistinct nat_eq (map (λ (v : ValidNumber). v.number) s.valid)
  pub homes_below : All (λ (n : NamedSession). n.home < s.next_home) s.named
  pub numbers_below : All (λ (v : ValidNumber). v.number < s.next_session) s.valid
  pub kinds : All (λ (n : NamedSession). IsTrue (has_names n.kind)) s.named
  pub bound : All (λ (v : ValidNumber). IsTrue (is_bound s.named v)) s.valid
  pub few_sessions : length s.named ≤ most_sessions
  pub few_numbers : length s.valid ≤ most_sessions
