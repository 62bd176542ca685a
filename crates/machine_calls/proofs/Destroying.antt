-- The destruction of a named session, and the registration of a callback.
use Rattle.std.proofs.Common.{◌≡◌, ℕ, true, List, Option, Some, refl, ap}
use Rattle.std.specs.Prelude.{IsTrue}
use Rattle.std.specs.Option.{option_map_or}
use Rattle.session_table.specs.Sessions.{destroyed, destroy_refusal, home_of, has_names}
use Rattle.drmaa_types.specs.declared.sessions.SessionKind.{SessionKind}
use Rattle.drmaa_types.specs.declared.sessions.SessionKind.TheVariants.{Jobs, Reservations, Monitoring}
use Rattle.drmaa_model.specs.declared.replies.Reply.TheVariants as reply
use Rattle.drmaa_model.specs.Effects.{makes, effect, destroy, forget_home}
use Rattle.drmaa_model.specs.Refusals.{refusal}
use Rattle.drmaa_model.specs.World.{World}
use Rattle.machine_calls.specs.Opening.{destroy_call}
use Rattle.machine_calls.proofs.Sizes.{is_plain}

pub destroy-plain : (kind : SessionKind) (name : List ℕ) → is_plain (destroy_call kind name) ≡ true
destroy-plain Jobs name = refl
destroy-plain Reservations name = refl
destroy-plain Monitoring name = refl

pub destroy-refuses : (kind : SessionKind) (name : List ℕ) → IsTrue (has_names kind) → (w : World) → refusal w (destroy_call kind name) ≡ destroy_refusal kind name w.sessions
destroy-refuses Jobs name has w = refl
destroy-refuses Reservations name has w = refl
destroy-refuses Monitoring name has w = absurd (cc)

pub destroy-does : (kind : SessionKind) (name : List ℕ) → IsTrue (has_names kind) → (at : ℕ) (w : World) → effect at w (destroy_call kind name) ≡ makes reply.Unit (destroy kind name w)
destroy-does Jobs name has at w = refl
destroy-does Reservations name has at w = refl
destroy-does Monitoring name has at w = absurd (cc)

-- the home that is destroyed
pub destroyed-is : (kind : SessionKind) (name : List ℕ) (w : World) (home : ℕ) → home_of kind name w.sessions.named ≡ Some home
    → destroy kind name w ≡ record w { sessions = destroyed home w.sessions; plan = forget_home home w.plan }
destroyed-is kind name w home is = ap (λ (o : Option ℕ). option_map_or (λ (h : ℕ). record w { sessions = destroyed h w.sessions; plan = forget_home h w.plan }) o w) is
