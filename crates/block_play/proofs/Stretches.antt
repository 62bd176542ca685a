-- Lines that are played, one after the other.
use Rattle.std.proofs.Common.{◌≡◌, ℕ, ◌+◌, ◌<◌, ◌≤◌, List, [], ◌∷◌, ◌++◌, take, drop, length, sym, ap, ◌∙◌, subst, append_assoc}
use Rattle.std.proofs.Common.{get_or}
use Rattle.std.proofs.lemmas.List.{drop_more, take-append-drop}
use Rattle.drmaa_types.specs.Readings.{Readings}
use Rattle.drmaa_model.specs.declared.configs.Config.{Config}
use Rattle.drmaa_model.specs.declared.entries.Entry.{Entry}
use Rattle.turn_lock.specs.Tokens.{Named}
use Rattle.script_lines.specs.declared.lines.Line.{Line}
use Rattle.script_text.specs.declared.scripts.Script.{Script}
use Rattle.script_asks.specs.declared.given.Given.{Given}
use Rattle.call_history.specs.Clients.{Seat, seen_of, mine_of}
use Rattle.call_history.specs.Timed.{IsTimed, StaysTimed}
use Rattle.block_play.specs.declared.stops.Stopped.{Stopped}
use Rattle.block_play.specs.declared.stops.Stopped.TheVariants as stopped
use Rattle.block_play.specs.Played.{PlayedLine, PlayedLines, StopsLine, StopsLines, StopsBefore, IsCause}
use Rattle.block_play.specs.Played.StopsLine.{unmade, unkept}
use Rattle.block_play.specs.PlayLaws.{plays-more}

-- ---- one line more

pub played-more : (s : Script) (names mid after : List (List ℕ × Given)) (ls : List Line) (l : Line) (old now new : List Entry) (early late : ℕ) → PlayedLines s names ls 0 old now mid early
    → ((before : ℕ) → before ≤ early → PlayedLine s mid l before now new after late) → PlayedLines s names (ls ++ l ∷ []) 0 old new after late
played-more s names mid after ls l old now new early late p line =
    let q = line p.then p.behind in record {
      added = p.added ++ q.added;
      then = q.then;
      mine = q.mine ∙ (ap (λ (es : List Entry). es ++ q.added) p.mine ∙ append_assoc old p.added q.added);
      plays = plays-more s names mid after 0 p.then q.then ls l p.added q.added p.plays q.plays;
      behind = q.behind;
    }

before-rest : (config : Config) (s : Script) (names : List (List ℕ × Given)) (before : ℕ) (l : Line) (rest : List Line) (history : List Entry) (early late : Readings) (why : Stopped)
    → IsCause config s names before l history early late why → StopsBefore config s names before (l ∷ rest) history early late why
before-rest config s names before l rest history early late stopped.Memory cause = tt
before-rest config s names before l rest history early late (stopped.Full size) cause = cause

short-of : (config : Config) (s : Script) (names : List (List ℕ × Given)) (before : ℕ) (rest : List Line) (history : List Entry) (early late : Readings) (why : Stopped) → why ≡ stopped.Memory
    → StopsBefore config s names before rest history early late why
short-of config s names before rest history early late why is = subst (λ (w : Stopped). StopsBefore config s names before rest history early late w) (sym is) tt

module _ (s : Script) (names mid : List (List ℕ × Given)) (all front rest : List Line) (l : Line) (old now new : Seat) (early there late : Readings) (least : ℕ) (why : Stopped) where
  stops-at : (config : Config) → all ≡ front ++ l ∷ rest → StaysTimed (mine_of old) early (mine_of now) there → StaysTimed (mine_of now) there (mine_of new) late
      → (p : PlayedLines s names front 0 (mine_of old) (mine_of now) mid least) → StopsLine config s mid l p.then now new there late why → StopsLines config s names all 0 old new early late why
  stops-at config is timed more p (unmade same cause) = record {
    front = front;
    back = l ∷ rest;
    lines = is;
    after = mid;
    least = least;
    played = record { added = p.added; then = p.then; mine = same ∙ p.mine; plays = p.plays; behind = p.behind };
    told = there;
    timed = λ caller t. subst (λ (es : List Entry). IsTimed caller es there) (sym same) (timed caller t);
    cause = before-rest config s mid p.then l rest (seen_of new) there late why cause;
  }
  stops-at config is timed more p (unkept after late_least line memory) = record {
    front = front ++ l ∷ [];
    back = rest;
    lines = is ∙ sym (append_assoc front (l ∷ []) rest);
    after = after;
    least = late_least;
    played = record {
      added = p.added ++ line.added;
      then = line.then;
      mine = line.mine ∙ (ap (λ (es : List Entry). es ++ line.added) p.mine ∙ append_assoc (mine_of old) p.added line.added);
      plays = plays-more s names mid after 0 p.then line.then front l p.added line.added p.plays line.plays;
      behind = line.behind;
    };
    told = late;
    timed = λ caller t. more caller (timed caller t);
    cause = short-of config s after line.then rest (seen_of new) late late why memory;
  }

  -- the play of a block stops where one of its lines does
  pub stops-lines : (shared next : Named Config) → next ≡ shared → all ≡ front ++ l ∷ rest → StaysTimed (mine_of old) early (mine_of now) there → StaysTimed (mine_of now) there (mine_of new) late
      → PlayedLines s names front 0 (mine_of old) (mine_of now) mid least → ((before : ℕ) → before ≤ least → StopsLine next.fixed s mid l before now new there late why)
      → StopsLines shared.fixed s names all 0 old new early late why
  stops-lines shared next same is timed more p line =
      stops-at shared.fixed is timed more p (subst (λ (n : Named Config). StopsLine n.fixed s mid l p.then now new there late why) same (line p.then p.behind))

-- ---- places

pub split_at : (xs : List Line) (i : ℕ) (d : Line) → i < length xs → xs ≡ take i xs ++ get_or xs i d ∷ drop (i + 1) xs
split_at xs i d within = sym (take-append-drop i xs) ∙ ap (λ (ys : List Line). take i xs ++ ys) (drop_more xs i d within)
