-- What callbacks hear along a play, line by line: GFD.231, notifications; when changes are handed over is our profile.
use Rattle.std.specs.Prelude.{◌≡◌, ℕ, suc, ◌+◌, List, [], ◌∷◌, ◌++◌, length, map, take, drop, slice_index_or, Option}
use Rattle.drmaa_types.specs.declared.changes.Change.{Change}
use Rattle.drmaa_types.specs.declared.changes.Notification.{Notification}
use Rattle.drmaa_model.specs.declared.configs.Config.{Config}
use Rattle.drmaa_model.specs.declared.entries.Entry.{Entry}
use Rattle.drmaa_model.specs.History.{Ledger, now_of}
use Rattle.drmaa_model.specs.World.{World}
use Rattle.change_callbacks.specs.Ears.{Listening, EachHeard, due}
use Rattle.change_callbacks.specs.Places.{registrations_of}
use Rattle.script_lines.specs.declared.lines.Line.{Line}
use Rattle.script_text.specs.declared.scripts.Script.{Script}
use Rattle.script_text.specs.Follows.{lines_of}
use Rattle.script_asks.specs.declared.given.Given.{Given}
use Rattle.script_asks.specs.Plays.{Crew, Playing, crew_of, play_line, play_lines, opening_in}
use Rattle.script_play.specs.Callbacks.{AreCurrentAfter, HearHistoryAfter}

-- what a play has come to after each of these lines
abbrev pub after_lines : Script → Crew → Playing → List Line → List Playing
after_lines s crew p [] = []
after_lines s crew p (l ∷ ls) = play_line s crew p l ∷ after_lines s crew (play_line s crew p l) ls

-- after each line of the clients' blocks from this number on, each with the names of the setup block
abbrev pub after_client_lines : Script → List (List ℕ × Given) → ℕ → Playing → List (List Line) → List Playing
after_client_lines s names number p [] = []
after_client_lines s names number p (b ∷ bs) =
    after_lines s (crew_of (length s.clients) number) (record p { names = names }) b
    ++ after_client_lines s names (number + 1) (play_lines s (crew_of (length s.clients) number) (record p { names = names }) b) bs

-- after each line of the setup block, and then of the clients' blocks
abbrev pub after_block_lines : Script → Playing → List Playing
after_block_lines s p =
    let first : Playing = play_lines s (crew_of (length s.clients) 0) p (lines_of s.setup) in
    after_lines s (crew_of (length s.clients) 0) p (lines_of s.setup) ++ after_client_lines s first.names 1 first s.clients

-- a script's play from a world: before its first line, and after each of its lines, in order; a play that was stopped stays as it is
abbrev pub along_play : World → Script → List Playing
along_play w s = opening_in w ∷ after_block_lines s (opening_in w)

-- what its machine has served at each of these, behind the entries from before the play
abbrev pub histories : List Entry → List Playing → List (List Entry)
histories before plays = map (λ (p : Playing). before ++ p.entries) plays

-- Further changes were handed over, which go on from those before: each callback heard exactly those of them that stand at its place
-- or later, in order, each once.
pub record IsHandedOn {B : Type 0} (counted : B → ℕ) (told : B → Option (List Notification)) (before after : Listening B) : Type 0 where
  pub fresh : List Change
  pub handed : after.handed ≡ before.handed ++ fresh
  pub hears : EachHeard counted told (due (length before.handed) fresh) after.places before.callbacks after.callbacks

-- One pump, of a machine that has served this: the ears were handed what was not handed over before, and so have all that its history
-- has for them.
pub record IsPumped {B : Type 0} (counted : B → ℕ) (told : B → Option (List Notification)) (earlier : ℕ) (ledger : Ledger) (before after : Listening B) : Type 0 where
  pub begun : after.begun ≡ before.begun
  pub further : IsHandedOn counted told before after
  pub current : AreCurrentAfter counted told earlier ledger after

-- One pump at each of these histories, in order, and none behind the last: at each the callbacks heard what was due since the one
-- before, and had then heard all that was due by then.
abbrev pub HeardAlong : {B : Type 0} → (B → ℕ) → (B → Option (List Notification)) → ℕ → Config → List (List Entry) → Listening B → Listening B → Type 0
HeardAlong counted told earlier config [] before after = after ≡ before
HeardAlong {B} counted told earlier config (history ∷ later) before after =
    (here : Listening B) × IsPumped counted told earlier (record { config = config; history = history }) before here × HeardAlong counted told earlier config later here after

-- so along a beginning of these histories, and none behind it
pub record HeardPart {B : Type 0} (counted : B → ℕ) (told : B → Option (List Notification)) (earlier : ℕ) (config : Config) (all : List (List Entry)) (before after : Listening B) : Type 0 where
  pub front : List (List Entry)
  pub rest : List (List Entry)
  pub whole : all ≡ front ++ rest
  pub along : HeardAlong counted told earlier config front before after

-- The callbacks as they were at one of these histories: the pumps up to it led there, and those behind it go on from there; each had
-- then heard exactly what this history has for its number.
pub record HeardAt {B : Type 0} (counted : B → ℕ) (told : B → Option (List Notification)) (earlier : ℕ) (config : Config) (all : List (List Entry)) (i : ℕ) (before after : Listening B) : Type 0 where
  pub here : Listening B
  pub front : HeardAlong counted told earlier config (take (suc i) all) before here
  pub begun : here.begun ≡ before.begun
  pub heard : HearHistoryAfter counted told earlier config (slice_index_or all i []) before.begun here.callbacks
  pub rest : HeardAlong counted told earlier config (drop (suc i) all) here after

-- Along the play of a script on a machine that had served this: a pump before its first line, and one behind each of its lines.
abbrev pub HeardPlay : {B : Type 0} → (B → ℕ) → (B → Option (List Notification)) → Ledger → Script → Listening B → Listening B → Type 0
HeardPlay counted told ledger s before after =
    HeardAlong counted told (registrations_of ledger.config ledger.history) ledger.config (histories ledger.history (along_play (now_of ledger) s)) before after

-- along a beginning of it
abbrev pub HeardPlayPart : {B : Type 0} → (B → ℕ) → (B → Option (List Notification)) → Ledger → Script → Listening B → Listening B → Type 0
HeardPlayPart counted told ledger s before after =
    HeardPart counted told (registrations_of ledger.config ledger.history) ledger.config (histories ledger.history (along_play (now_of ledger) s)) before after

-- The same, behind the first lines of a play, of which there are so many.
abbrev pub HeardBehind : {B : Type 0} → (B → ℕ) → (B → Option (List Notification)) → Ledger → Script → ℕ → Listening B → Listening B → Type 0
HeardBehind counted told ledger s lines before after =
    HeardAt counted told (registrations_of ledger.config ledger.history) ledger.config (histories ledger.history (along_play (now_of ledger) s)) lines before after
