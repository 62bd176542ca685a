-- What contracts see of a play that is under way.
use Rattle.std.specs.Prelude.{◌≡◌, ℕ, List, [], ◌++◌, map, drop, length, Option, None}
use Rattle.drmaa_model.specs.declared.entries.Entry.{Entry}
use Rattle.drmaa_model.specs.declared.replies.Reply.{Reply}
use Rattle.drmaa_model.specs.History.{Ledger, now_of}
use Rattle.change_callbacks.specs.Places.{registrations_of}
use Rattle.script_asks.specs.declared.given.Given.{Given}
use Rattle.script_asks.specs.Attempts.{Shows}
use Rattle.script_asks.specs.Plays.{Playing}

-- what there was before a play: the entries that its machine had served, and how many callbacks these registered
pub record Start : Type 0 where
  pub entries : List Entry
  pub callbacks : ℕ

abbrev pub start_of : Ledger → Start
start_of ledger = record { entries = ledger.history; callbacks = registrations_of ledger.config ledger.history }

-- what its machine was made with and has served, what there was before the play, the moment, the names of the block, the attempts
-- that reports name, by their jobs, and the size that stopped it
pub record View : Type 0 where
  pub ledger : Ledger
  pub start : Start
  pub moment : ℕ
  pub names : List (List ℕ × Given)
  pub attempts : List (ℕ × ℕ)
  pub full : Option ℕ

-- a play that has not begun, on a machine that has served this
abbrev pub unplayed : Ledger → View
unplayed ledger = record {
  ledger = ledger;
  start = start_of ledger;
  moment = (now_of ledger).plan.moment;
  names = [];
  attempts = [];
  full = None;
}

abbrev pub replies_of : List Entry → List Reply
replies_of entries = map (λ (e : Entry). e.reply) entries

-- the entries of a history that were not there before the play
abbrev pub added_to : Start → List Entry → List Entry
added_to start history = drop (length start.entries) history

-- The machine's history goes on from the entries before the play, which registered so many callbacks, and the attempts are those of
-- the replies of the play.
pub record AreNotes (ledger : Ledger) (start : Start) (attempts : List (ℕ × ℕ)) : Type 0 where
  pub whole : ledger.history ≡ start.entries ++ added_to start ledger.history
  pub callbacks : start.callbacks ≡ registrations_of ledger.config start.entries
  pub shown : Shows attempts (replies_of (added_to start ledger.history))

abbrev pub IsNoted : View → Type 0
IsNoted v = AreNotes v.ledger v.start v.attempts

-- how the play of a script speaks of it
abbrev pub playing : View → Playing
playing v = record { world = now_of v.ledger; moment = v.moment; names = v.names; entries = added_to v.start v.ledger.history; full = v.full }
