-- A hub and its client, over the hub's calls.
use Rattle.std.proofs.Common.{ℕ, List, Option, refl, ◌∙◌}
use Rattle.drmaa_types.specs.declared.changes.Notification.{Notification}
use Rattle.drmaa_model.specs.declared.configs.Config.{Config}
use Rattle.turn_lock.specs.Tokens.{Named, IsFree}
use Rattle.call_history.specs.Clients.{Seat, seen_of}
use Rattle.call_history.specs.ClientLaws.{begins-itself, begins-both}
use Rattle.notify_hub.specs.Hubs.{Following, IsNoteOf}
use Rattle.beside_clients.specs.HubClients.{KeepsCallbacks, IsStillBeside, GoesOn}

pub beside-none : (shared : Named Config) (seat : Seat) → IsFree shared seat → IsStillBeside shared seat seat
beside-none shared seat free = record { client = free; number = refl; mine = refl; begins = begins-itself (seen_of seat) }

pub beside-both : (shared : Named Config) (old mid new : Seat) → IsStillBeside shared old mid → IsStillBeside shared mid new → IsStillBeside shared old new
beside-both shared old mid new a b = record {
  client = b.client;
  number = b.number ∙ a.number;
  mine = b.mine ∙ a.mine;
  begins = begins-both (seen_of old) (seen_of mid) (seen_of new) a.begins b.begins;
}

module _ {B : Type 0} (counted : B → ℕ) (told : B → Option (List Notification)) where
  pub keeps-none : (hub : Following B) → KeepsCallbacks counted told hub hub
  keeps-none hub = record { begun = refl; places = refl; heard = λ h. h }

  pub keeps-both : (a b c : Following B) → KeepsCallbacks counted told a b → KeepsCallbacks counted told b c → KeepsCallbacks counted told a c
  keeps-both a b c x y = record { begun = y.begun ∙ x.begun; places = y.places ∙ x.places; heard = λ h. y.heard (x.heard h) }

  pub goes-none : (shared : Named Config) (hub : Following B) (seat : Seat) → IsFree shared seat → IsNoteOf shared hub.note → GoesOn counted told shared hub seat hub seat
  goes-none shared hub seat free note = record { still = beside-none shared seat free; note = note; keeps = keeps-none hub }

  pub goes-both : (shared : Named Config) (a b c : Following B) (old mid new : Seat) → GoesOn counted told shared a old b mid → GoesOn counted told shared b mid c new → GoesOn counted told shared a old c new
  goes-both shared a b c old mid new x y = record { still = beside-both shared old mid new x.still y.still; note = y.note; keeps = keeps-both a b c x.keeps y.keeps }
