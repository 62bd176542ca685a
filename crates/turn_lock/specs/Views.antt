-- The views that seats begin with, and how each kind of step changes them. Our profile.
use Rattle.std.specs.Prelude.{ℕ, ◌+◌, List, [], ◌∷◌, ◌++◌, length, Some, None, slice_set}
use Rattle.drmaa_types.specs.declared.chronicles.ChronicleEntry.{ChronicleEntry}
use Rattle.turn_lock.specs.declared.views.View.{View}
use Rattle.turn_lock.specs.declared.views.Kind.TheVariants.{Spent, Note, Opener, Caller}
use Rattle.turn_lock.specs.declared.views.Stage.TheVariants.{Idle, Waiting, Turn}
use Rattle.turn_lock.specs.Histories.{longer}

module _ {Ask Answer Fixed : Type 0} where
  -- a view that was joined to another
  abbrev pub spent : View Ask Answer Fixed
  spent = record { kind = Spent; stage = Idle; fixed = None; number = 0; seen = []; mine = []; low = 0; high = 0; before = []; learnt = []; looks = 0; tries = 0; draws = 0; retired = []; gone = 0 }

  -- the opener at first
  abbrev pub opener : Fixed → View Ask Answer Fixed
  opener fixed = record { kind = Opener; stage = Idle; fixed = Some fixed; number = 0; seen = []; mine = []; low = 0; high = 0; before = []; learnt = []; looks = 0; tries = 0; draws = 0; retired = []; gone = 0 }

  -- the opener after it opened a pass
  abbrev pub hiring : View Ask Answer Fixed → View Ask Answer Fixed
  hiring v = record v { retired = v.retired ++ None ∷ [] }

  -- the pass that the opener opens: its number is the next one, it has seen what the opener has
  abbrev pub hired : View Ask Answer Fixed → View Ask Answer Fixed
  hired v = record { kind = Caller; stage = Idle; fixed = v.fixed; number = length v.retired; seen = v.seen; mine = []; low = 0; high = 0; before = []; learnt = []; looks = 0; tries = 0; draws = 0; retired = []; gone = 0 }

  -- a note of what has been seen
  abbrev pub note_of : View Ask Answer Fixed → View Ask Answer Fixed
  note_of v = record { kind = Note; stage = Idle; fixed = v.fixed; number = 0; seen = v.seen; mine = []; low = 0; high = 0; before = []; learnt = []; looks = 0; tries = 0; draws = 0; retired = []; gone = 0 }

  -- a pass after it took in a note
  abbrev pub learning : View Ask Answer Fixed → View Ask Answer Fixed → View Ask Answer Fixed
  learning v w = record v { seen = longer v.seen w.seen; before = v.seen; learnt = w.seen }

  -- the opener after it took back a pass
  abbrev pub retiring : View Ask Answer Fixed → View Ask Answer Fixed → View Ask Answer Fixed
  retiring v w = record v { seen = longer v.seen w.seen; before = v.seen; learnt = w.seen; retired = slice_set v.retired w.number (Some w.mine); gone = v.gone + 1 }

  -- after a reading of the tickets served
  abbrev pub looked : ℕ → View Ask Answer Fixed → View Ask Answer Fixed
  looked served v = record v { low = served; looks = v.looks + 1 }

  -- after it drew a ticket
  abbrev pub waiting : ℕ → View Ask Answer Fixed → View Ask Answer Fixed
  waiting ticket v = record v { stage = Waiting ticket; draws = v.draws + 1 }

  -- after a reading of the tickets served that was its own ticket: it has the turn, and has seen the history
  abbrev pub called : ℕ → List (ChronicleEntry Ask Answer) → View Ask Answer Fixed → View Ask Answer Fixed
  called ticket history v = record v { stage = Turn ticket; low = ticket; looks = v.looks + 1; seen = history }

  -- after a try that failed
  abbrev pub tried : ℕ → View Ask Answer Fixed → View Ask Answer Fixed
  tried drawn v = record v { high = drawn; tries = v.tries + 1 }

  -- after a try that had the turn
  abbrev pub granted : ℕ → List (ChronicleEntry Ask Answer) → View Ask Answer Fixed → View Ask Answer Fixed
  granted ticket history v = record v { stage = Turn ticket; high = ticket; tries = v.tries + 1; draws = v.draws + 1; seen = history }

  -- after its entry was added
  abbrev pub acted : List (ChronicleEntry Ask Answer) → List (ChronicleEntry Ask Answer) → View Ask Answer Fixed → View Ask Answer Fixed
  acted history own v = record v { seen = history; mine = own }

  -- after it gave the turn away
  abbrev pub left : View Ask Answer Fixed → View Ask Answer Fixed
  left v = record v { stage = Idle }

  -- after it drew a ticket and waited until it had the turn; how often it looked is left open
  abbrev pub entered : ℕ → List (ChronicleEntry Ask Answer) → ℕ → View Ask Answer Fixed → View Ask Answer Fixed
  entered ticket history looks v = record v { stage = Turn ticket; low = ticket; looks = looks; draws = v.draws + 1; seen = history }
