-- What the play of a block says of its client's entries.
use Rattle.std.proofs.Common.{◌≡◌, ℕ, List, [], ◌∷◌, ◌++◌, refl, sym, ap, ◌∙◌, subst}
use Rattle.std.specs.Prelude.{Result, Ok, Err, IfOk, IfErr}
use Rattle.drmaa_types.specs.Readings.{Readings}
use Rattle.drmaa_model.specs.declared.configs.Config.{Config}
use Rattle.drmaa_model.specs.declared.entries.Entry.{Entry}
use Rattle.call_history.specs.Clients.{Seat, seen_of, mine_of}
use Rattle.call_history.specs.Timed.{HaveStood}
use Rattle.script_lines.specs.declared.lines.Line.{Line}
use Rattle.script_text.specs.declared.scripts.Script.{Script}
use Rattle.script_asks.specs.declared.given.Given.{Given}
use Rattle.script_text.specs.Follows.{lines_of}
use Rattle.script_asks.specs.Plays.{Plays, names_by, setup_names}
use Rattle.block_play.specs.declared.stops.Stopped.{Stopped}
use Rattle.block_play.specs.declared.stops.Stopped.TheVariants as stopped
use Rattle.block_play.specs.Played.{IsFullFor, PlayedLines, StopsBefore, StopsLines, last_moment}
use Rattle.block_play.specs.PlayLaws.{plays-asked, plays-names, plays-then}
use Rattle.thread_play.specs.Stages.{StopsAt, PlaysOn}
use Rattle.thread_play.proofs.Posts.{none-timed}

abbrev pub Names : Type 0
Names = List (List ℕ × Given)

-- the entries of a client that had made none
pub made-all : (old new added : List Entry) → old ≡ [] → new ≡ old ++ added → added ≡ new
made-all old new added none is = sym (is ∙ ap (λ (l : List Entry). l ++ added) none)

pub played-all : (s : Script) (names after : Names) (ls : List Line) (old new : List Entry) (least : ℕ) → old ≡ [] → PlayedLines s names ls 0 old new after least → Plays s names 0 ls new
played-all s names after ls old new least none p =
    subst (λ (es : List Entry). Plays s names 0 ls es) (made-all old new p.added none p.mine) (plays-asked s names after 0 p.then ls p.added p.plays)

pub played-names : (s : Script) (names after : Names) (ls : List Line) (old new : List Entry) (least : ℕ) → old ≡ [] → PlayedLines s names ls 0 old new after least → after ≡ names_by s names ls new
played-names s names after ls old new least none p =
    sym (plays-names s names after 0 p.then ls p.added p.plays) ∙ ap (λ (es : List Entry). names_by s names ls es) (made-all old new p.added none p.mine)

played-then : (s : Script) (names after : Names) (ls : List Line) (old new : List Entry) (least : ℕ) → old ≡ [] → (p : PlayedLines s names ls 0 old new after least) → last_moment 0 new ≡ p.then
played-then s names after ls old new least none p =
    ap (λ (es : List Entry). last_moment 0 es) (sym (made-all old new p.added none p.mine)) ∙ plays-then s names after 0 p.then ls p.added p.plays

stops-full : (config : Config) (s : Script) (names after : Names) (ls front back : List Line) (old : List Entry) (new : Seat) (told given : Readings) (least size : ℕ) → old ≡ [] → ls ≡ front ++ back → HaveStood (mine_of new) told.told
    → (p : PlayedLines s names front 0 old (mine_of new) after least) → StopsBefore config s after p.then back (seen_of new) told given (stopped.Full size) → StopsAt config s names ls (mine_of new) (seen_of new) given size
stops-full config s names after ls front [] old new told given least size none is t p stops = absurd stops
stops-full config s names after ls front (l ∷ back) old new told given least size none is t p stops = record {
  front = front;
  line = l;
  back = back;
  lines = is;
  played = played-all s names after front old (mine_of new) least none p;
  told = told;
  timed = t;
  full = subst (λ (k : ℕ). IsFullFor config s (names_by s names front (mine_of new)) k l (seen_of new) told given size) (sym (played-then s names after front old (mine_of new) least none p))
      (subst (λ (n : Names). IsFullFor config s n p.then l (seen_of new) told given size) (played-names s names after front old (mine_of new) least none p) stops);
}

stops-on : (A : Type 0) (config : Config) (s : Script) (names : Names) (ls : List Line) (old new : Seat) (early given : Readings) (why : Stopped) → mine_of old ≡ []
    → StopsLines config s names ls 0 old new early given why → PlaysOn {A = A} config s names ls (mine_of new) (seen_of new) given (Err why)
stops-on A config s names ls old new early given stopped.Memory none p = tt
stops-on A config s names ls old new early given (stopped.Full size) none p =
    stops-full config s names p.after ls p.front p.back (mine_of old) new p.told given p.least size none p.lines (p.timed early.caller (none-timed early.caller early (mine_of old) refl none)).moments p.played p.cause

-- a block that was played, by a client that had made nothing
pub plays-on : (config : Config) (s : Script) (names : Names) (ls : List Line) (old new : Seat) (early given : Readings) (least : ℕ) (r : Result Names Stopped) → mine_of old ≡ []
    → IfOk r (λ after. PlayedLines s names ls 0 (mine_of old) (mine_of new) after least) → IfErr r (λ why. StopsLines config s names ls 0 old new early given why)
    → PlaysOn config s names ls (mine_of new) (seen_of new) given r
plays-on config s names ls old new early given least (Ok after) none good bad = played-all s names after ls (mine_of old) (mine_of new) least none good
plays-on config s names ls old new early given least (Err why) none good bad = stops-on Names config s names ls old new early given why none bad

-- whatever an end that is none tells
pub plays-told : (A B : Type 0) (config : Config) (s : Script) (names : Names) (ls : List Line) (own seen : List Entry) (given : Readings) (why : Stopped)
    → PlaysOn {A = A} config s names ls own seen given (Err why) → PlaysOn {A = B} config s names ls own seen given (Err why)
plays-told A B config s names ls own seen given stopped.Memory p = tt
plays-told A B config s names ls own seen given (stopped.Full size) p = p

-- the names that setup gave
pub names-of : (s : Script) (old new : List Entry) (least : ℕ) (r : Result Names Stopped) → old ≡ [] → IfOk r (λ after. PlayedLines s [] (lines_of s.setup) 0 old new after least)
    → IfOk r (λ names. names ≡ setup_names s new)
names-of s old new least (Ok after) none good = played-names s [] after (lines_of s.setup) old new least none good
names-of s old new least (Err why) none good = tt

-- an end that tells less
pub ends-well : (A B : Type 0) (config : Config) (s : Script) (names : Names) (ls : List Line) (own seen : List Entry) (given : Readings) (r : Result A Stopped) (q : Result B Stopped) (a : A) (b : B) → r ≡ Ok a → q ≡ Ok b
    → PlaysOn config s names ls own seen given r → PlaysOn config s names ls own seen given q
ends-well A B config s names ls own seen given r q a b is same p =
    let done : Plays s names 0 ls own = subst (λ (x : Result A Stopped). PlaysOn config s names ls own seen given x) is p in
    subst (λ (x : Result B Stopped). PlaysOn config s names ls own seen given x) (sym same) done

pub ends-early : (A B : Type 0) (config : Config) (s : Script) (names : Names) (ls : List Line) (own seen : List Entry) (given : Readings) (r : Result A Stopped) (q : Result B Stopped) (why : Stopped) → r ≡ Err why → q ≡ Err why
    → PlaysOn config s names ls own seen given r → PlaysOn config s names ls own seen given q
ends-early A B config s names ls own seen given r q why is same p =
    subst (λ (x : Result B Stopped). PlaysOn config s names ls own seen given x) (sym same)
    (plays-told A B config s names ls own seen given why (subst (λ (x : Result A Stopped). PlaysOn config s names ls own seen given x) is p))
