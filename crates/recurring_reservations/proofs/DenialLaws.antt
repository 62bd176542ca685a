-- What a refusal tells for which a request makes no entry.
use Rattle.std.proofs.Common.{◌≡◌, ℕ, List, [], sym, subst}
use Rattle.drmaa_types.specs.declared.refusals.Limit.TheVariants as limit
use Rattle.drmaa_types.specs.declared.refusals.Refusal.TheVariants.{OutOfMemory, OutOfResource}
use Rattle.job_template.specs.declared.templates.ReservationTemplate.{ReservationTemplate}
use Rattle.drmaa_model.specs.declared.entries.Entry.{Entry}
use Rattle.drmaa_model.specs.World.{World}
use Rattle.drmaa_machine.specs.Applying.{IsTooLarge}
use Rattle.recurring_reservations.specs.declared.requests.Asker.{Asker}
use Rattle.recurring_reservations.specs.Requests.{asking, IsDenied, by_entry, by_memory, by_size}

same-size : (m n : ℕ) → OutOfResource (limit.Journal m) ≡ OutOfResource (limit.Journal n) → m ≡ n
same-size m n e = cc

no-memory : (n : ℕ) → OutOfResource (limit.Journal n) ≡ OutOfMemory → ⊥
no-memory n e = cc

pub full-size : (a : Asker) (w : World) (t : ReservationTemplate) (n : ℕ) (entries : List Entry) → IsDenied a w t (OutOfResource (limit.Journal n)) entries → IsTooLarge w a.at (asking a t) n × (entries ≡ [])
full-size a w t n entries (by_entry is answers made) = absurd (cc)
full-size a w t n entries (by_memory is none made) = absurd (no-memory n is)
full-size a w t n entries (by_size m is none made) = (subst (IsTooLarge w a.at (asking a t)) (sym (same-size n m is)) none.cause, made)

pub short-memory : (a : Asker) (w : World) (t : ReservationTemplate) (entries : List Entry) → IsDenied a w t OutOfMemory entries → entries ≡ []
short-memory a w t entries (by_entry is answers made) = absurd (cc)
short-memory a w t entries (by_memory is none made) = made
short-memory a w t entries (by_size m is none made) = made
