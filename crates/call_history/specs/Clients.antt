-- What contracts see of a client, a note and the opener of a shared machine, and how what a client has seen goes on. Our profile.
use Rattle.std.specs.Prelude.{◌≡◌, ℕ, List, [], ◌∷◌, ◌++◌, map, Option, option_map}
use Rattle.drmaa_model.specs.declared.configs.Config.{Config}
use Rattle.drmaa_model.specs.declared.entries.Entry.{Entry}
use Rattle.drmaa_model.specs.declared.replies.Reply.{Reply}
use Rattle.drmaa_machine.specs.declared.chronicles.Ask.{Ask}
use Rattle.drmaa_machine.specs.Chronicles.{history_of}
use Rattle.drmaa_model.specs.History.{IsLegal}
use Rattle.turn_lock.specs.Histories.{BeginsWith}
use Rattle.turn_lock.specs.Tokens.{Token, Named, IsFree}
use Rattle.call_history.specs.Callers.{calls_of}

-- a client, a note, or the opener, as contracts see them
abbrev pub Seat : Type 0
Seat = Token Ask Reply Config

-- the entries that it has seen: a beginning of the machine's history
abbrev pub seen_of : Seat → List Entry
seen_of seat = history_of seat.view.seen

-- the entries that a client made itself
abbrev pub mine_of : Seat → List Entry
mine_of seat = history_of seat.view.mine

-- the number of a client
abbrev pub number_of : Seat → ℕ
number_of seat = seat.view.number

-- of the opener, by number: none for a client that is out, and its entries for one that is back
abbrev pub retired_of : Seat → List (Option (List Entry))
retired_of seat = map (option_map history_of) seat.view.retired

-- the client has seen what it had seen, and after that entries of others alone
pub record SeesMore (old new : Seat) : Type 0 where
  pub between : List Entry
  pub seen : seen_of new ≡ seen_of old ++ between
  pub others : calls_of between (number_of old) ≡ []
  pub mine : mine_of new ≡ mine_of old

-- the client made this entry, after what it had seen and entries of others alone
pub record Makes (old : Seat) (entry : Entry) (new : Seat) : Type 0 where
  pub between : List Entry
  pub seen : seen_of new ≡ (seen_of old ++ between) ++ entry ∷ []
  pub others : calls_of between (number_of old) ≡ []
  pub mine : mine_of new ≡ mine_of old ++ entry ∷ []

-- its own entries are all those of its number that it has seen
abbrev pub KnowsItsOwn : Seat → Type 0
KnowsItsOwn seat = mine_of seat ≡ calls_of (seen_of seat) (number_of seat)

-- The desk is still at its machine, and so is its client, who holds no turn, knows its own entries, and has seen a legal history.
pub record StaysAt (shared : Named Config) (old : Seat) (shared_after : Named Config) (new : Seat) : Type 0 where
  pub shared_is : shared_after ≡ shared
  pub client : IsFree shared new
  pub number : number_of new ≡ number_of old
  pub own : KnowsItsOwn new
  pub legal : IsLegal shared.fixed (seen_of new)

-- The desk is still at its machine, and so is its client, who holds no turn, has seen all that it had seen, and, if it did before,
-- knows its own entries and has seen a legal history.
pub record IsStillAt (shared : Named Config) (old : Seat) (shared_after : Named Config) (new : Seat) : Type 0 where
  pub shared_is : shared_after ≡ shared
  pub client : IsFree shared new
  pub number : number_of new ≡ number_of old
  pub begins : BeginsWith (seen_of new) (seen_of old)
  pub own : KnowsItsOwn old → KnowsItsOwn new
  pub legal : IsLegal shared.fixed (seen_of old) → IsLegal shared.fixed (seen_of new)
