-- What the closed machine's history says of its callers, by what they left.
use Rattle.std.proofs.Common.{◌≡◌, ℕ, ◌≤◌, List, [], length, Option, Some, None, sym, subst}
use Rattle.std.specs.Prelude.{IfSome, slice_index_or}
use Rattle.child_spawner.specs.declared.fates.Asked.{Asked}
use Rattle.child_spawner.specs.declared.fates.Fate.{Fate}
use Rattle.child_spawner.specs.Children.{Told}
use Rattle.drmaa_model.specs.declared.configs.Config.{Config}
use Rattle.drmaa_model.specs.declared.entries.Entry.{Entry}
use Rattle.drmaa_model.specs.History.{IsLegal}
use Rattle.turn_lock.specs.Histories.{BeginsWith}
use Rattle.turn_lock.specs.Tokens.{Named}
use Rattle.call_history.specs.Callers.{calls_of}
use Rattle.call_history.specs.Clients.{Seat, seen_of, mine_of, retired_of}
use Rattle.attendant.specs.Acts.{acts_of, own_acts}
use Rattle.attendant.specs.declared.reaper.Held.{Held}
use Rattle.attendant.specs.declared.reaper.Hand.{Hand}
use Rattle.attendant.specs.Outside.{Keeps, AgreesOf, Tells}
use Rattle.attendant.specs.Whole.{AgreesWithOutside, AreAlone}
use Rattle.notify_hub.specs.Hubs.{IsNoteOf, MayBe}
use Rattle.beside_clients.specs.Starts.{AreAsked}

-- what the machine that is had back says of its history
pub record IsClosed (config : Config) (o : Seat) (history : List Entry) : Type 0 where
  pub legal : IsLegal config history
  pub seen : BeginsWith history (seen_of o)
  pub lists : (number : ℕ) (own : List Entry) → slice_index_or (retired_of o) number None ≡ Some own → calls_of history number ≡ own
  pub strangers : (number : ℕ) → length (retired_of o) ≤ number → calls_of history number ≡ []

-- a machine's note tells its configuration
pub may-note : (shared : Named Config) (note : Option Seat) → IsNoteOf shared note → MayBe shared.fixed note
may-note shared None own = tt
may-note shared (Some seat) own = own.fixed_is

-- the clients of launcher and reaper, whose entries in the history are those that they made
module _ {T : Type 0} (told : T → Option Told) (fate : ℕ → Fate) (history : List Entry) (l r : ℕ) (launcher reaping : Seat) (at : ℕ → Option (Held T)) (hand : Option Hand)
    (of-launcher : calls_of history l ≡ mine_of launcher) (of-reaper : calls_of history r ≡ mine_of reaping) where
  -- the launches are what was asked
  pub asked-of : (asked : Option (List Asked)) → Keeps told asked fate (own_acts launcher) (own_acts reaping) at hand → IfSome asked (λ starts. AreAsked (acts_of (calls_of history l)) starts)
  asked-of None k = tt
  asked-of (Some starts) k =
      let t : Tells told starts fate (own_acts launcher) (own_acts reaping) at hand = k.tells in
      subst (λ (es : List Entry). AreAsked (acts_of es) starts) (sym of-launcher) t.asked

  -- the outside agrees, where nobody else makes their calls
  pub outside-of : ((starts : List Asked) → AreAlone l r (acts_of history) → Keeps told (Some starts) fate (acts_of (calls_of history l)) (acts_of (calls_of history r)) at hand
      → AgreesOf (Some starts) fate (acts_of (calls_of history l)) (acts_of (calls_of history r)) → AgreesWithOutside starts fate (acts_of history))
      → AreAlone l r (acts_of history) → (asked : Option (List Asked)) → Keeps told asked fate (own_acts launcher) (own_acts reaping) at hand → AgreesOf asked fate (own_acts launcher) (own_acts reaping)
      → IfSome asked (λ starts. AgreesWithOutside starts fate (acts_of history))
  outside-of law lone None k a = tt
  outside-of law lone (Some starts) k a =
      law starts lone
      (subst (λ (es : List Entry). Keeps told (Some starts) fate (acts_of es) (acts_of (calls_of history r)) at hand) (sym of-launcher)
      (subst (λ (es : List Entry). Keeps told (Some starts) fate (own_acts launcher) (acts_of es) at hand) (sym of-reaper) k))
      (subst (λ (es : List Entry). AgreesOf (Some starts) fate (acts_of es) (acts_of (calls_of history r))) (sym of-launcher)
      (subst (λ (es : List Entry). AgreesOf (Some starts) fate (own_acts launcher) (acts_of es)) (sym of-reaper) a))
