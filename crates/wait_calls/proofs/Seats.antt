-- A client over several calls, and the entry that it made.
use Rattle.std.proofs.Common.{[], ◌∷◌, ◌++◌, refl, subst, ◌∙◌}
use Rattle.drmaa_model.specs.declared.configs.Config.{Config}
use Rattle.drmaa_model.specs.declared.entries.Entry.{Entry}
use Rattle.drmaa_model.specs.History.{IsLegal, replay}
use Rattle.drmaa_model.specs.HistoryLaws.{legal-last}
use Rattle.drmaa_model.specs.Steps.{IsStep}
use Rattle.turn_lock.specs.Histories.{BeginsWith}
use Rattle.turn_lock.specs.Tokens.{Named, IsFree}
use Rattle.call_history.specs.ClientLaws.{begins-itself, begins-both}
use Rattle.call_history.specs.Clients.{Seat, seen_of, Makes, StaysAt, IsStillAt}

-- ---- a desk that is still at its machine

pub still-same : (shared : Named Config) (seat : Seat) → IsFree shared seat → IsStillAt shared seat shared seat
still-same shared seat free = record { shared_is = refl; client = free; number = refl; begins = begins-itself (seen_of seat); own = λ o. o; legal = λ l. l }

still-next : (shared last : Named Config) (old mid new : Seat) → IsStillAt shared old shared mid → IsStillAt shared mid last new → IsStillAt shared old last new
still-next shared last old mid new a b = record {
  shared_is = b.shared_is;
  client = b.client;
  number = b.number ∙ a.number;
  begins = begins-both (seen_of old) (seen_of mid) (seen_of new) a.begins b.begins;
  own = λ o. b.own (a.own o);
  legal = λ l. b.legal (a.legal l);
}

pub still-both : (shared next last : Named Config) (old mid new : Seat) → IsStillAt shared old next mid → IsStillAt next mid last new → IsStillAt shared old last new
still-both shared next last old mid new a b =
    still-next shared last old mid new (subst (λ (n : Named Config). IsStillAt shared old n mid) a.shared_is a) (subst (λ (n : Named Config). IsStillAt n mid last new) a.shared_is b)

pub still-stays : (shared next : Named Config) (old new : Seat) → StaysAt shared old next new → BeginsWith (seen_of new) (seen_of old) → IsStillAt shared old next new
still-stays shared next old new s begins = record { shared_is = s.shared_is; client = s.client; number = s.number; begins = begins; own = λ o. s.own; legal = λ l. s.legal }

-- ---- the entry of a client

-- it is a step of the machine, from the world of all that the client has seen before it
pub made-step : (config : Config) (old : Seat) (entry : Entry) (new : Seat) → IsLegal config (seen_of new) → (m : Makes old entry new)
    → IsStep (replay config (seen_of old ++ m.between)) entry (replay config ((seen_of old ++ m.between) ++ entry ∷ []))
made-step config old entry new legal m = legal-last config (seen_of old ++ m.between) entry (subst (IsLegal config) m.seen legal)
