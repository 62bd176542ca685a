-- A play's entries stay in front of those that it still makes: where memory runs out, the ears have all of a beginning of the whole play.
use Rattle.std.proofs.Common.{◌≡◌, ℕ, ◌+◌, inl, inr, List, [], ◌∷◌, ◌++◌, length, Option, Result, Ok, Err, OnErr, refl, sym, ap, ◌∙◌, subst, append_assoc, append-nil}
use Rattle.drmaa_types.specs.declared.changes.Notification.{Notification}
use Rattle.drmaa_model.specs.declared.configs.Config.{Config}
use Rattle.drmaa_model.specs.declared.entries.Entry.{Entry}
use Rattle.change_callbacks.specs.Ears.{Listening, HaveHeard, silent}
use Rattle.script_lines.specs.declared.lines.Line.{Line}
use Rattle.script_text.specs.declared.scripts.Script.{Script}
use Rattle.script_asks.specs.declared.given.Given.{Given}
use Rattle.script_asks.specs.Plays as plays
use Rattle.script_asks.specs.Plays.{Playing, play_line, play_lines, play_clients}
use Rattle.script_play.specs.CallbackLaws.{current-after-none}
use Rattle.script_play.specs.Callbacks.{AreCurrent, HaveFront, AreCurrentAfter, HaveFrontAfter}
use Rattle.script_play.specs.View.{Start, View, IsNoted, added_to, playing}
use Rattle.script_play.proofs.Handing.{Grows, line-grows, current-first}

-- the list begins with this one
pub record Begins (start list : List Entry) : Type 0 where
  pub rest : List Entry
  pub whole : list ≡ start ++ rest

begins-same : (es : List Entry) → Begins es es
begins-same es = record { rest = []; whole = sym (append-nil es) }

begins-then : (a b c : List Entry) → Begins a b → Begins b c → Begins a c
begins-then a b c f s = record { rest = f.rest ++ s.rest; whole = s.whole ∙ (ap (λ (l : List Entry). l ++ s.rest) f.whole ∙ append_assoc a f.rest s.rest) }

grown-begins : (before after : List Entry) → Grows before after → Begins before after
unfolding Grows
grown-begins before after (inl same) = subst (Begins before) (sym same) (begins-same before)
grown-begins before after (inr (e, is)) = record { rest = e ∷ []; whole = is }

-- the entries before some lines, and before some blocks, stay
pub lines-begin : (s : Script) (crew : plays.Crew) (p : Playing) (ls : List Line) → Begins p.entries (play_lines s crew p ls).entries
lines-begin s crew p [] = begins-same p.entries
lines-begin s crew p (l ∷ ls) =
    begins-then p.entries (play_line s crew p l).entries (play_lines s crew (play_line s crew p l) ls).entries (grown-begins p.entries (play_line s crew p l).entries (line-grows s crew p l))
    (lines-begin s crew (play_line s crew p l) ls)

pub clients-begin : (s : Script) (names : List (List ℕ × Given)) (n : ℕ) (p : Playing) (bs : List (List Line)) → Begins p.entries (play_clients s names n p bs).entries
clients-begin s names n p [] = begins-same p.entries
clients-begin s names n p (b ∷ bs) =
    let next : Playing = play_lines s (plays.crew_of (length s.clients) n) (record p { names = names }) b in
    begins-then p.entries next.entries (play_clients s names (n + 1) next bs).entries (lines-begin s (plays.crew_of (length s.clients) n) (record p { names = names }) b)
    (clients-begin s names (n + 1) next bs)

-- what holds where there is an error
pub on_err : {A E : Type 0} (r : Result A E) (P : Type 0) → P → OnErr r P
on_err (Ok a) P p = tt
on_err (Err e) P p = p

module _ {B : Type 0} (counted : B → ℕ) (told : B → Option (List Notification)) where
  -- the ears have all that a play has added so far, which stays
  pub front-of : (v : View) (config : Config) (start : Start) (added : List Entry) (ears : Listening B) → IsNoted v → AreCurrentAfter counted told v.start.callbacks v.ledger ears → v.ledger.config ≡ config → v.start ≡ start
      → Begins (added_to v.start v.ledger.history) added → HaveFrontAfter counted told config start added ears
  front-of v config start added ears noted current same begun b =
      let own : List Entry = added_to v.start v.ledger.history in
      record {
        front = own;
        rest = b.rest;
        whole = b.whole;
        current = subst (λ (st : Start). AreCurrentAfter counted told st.callbacks (record { config = config; history = st.entries ++ own }) ears) begun
            (subst (λ (c : Config). AreCurrentAfter counted told v.start.callbacks (record { config = c; history = v.start.entries ++ own }) ears) same
            (subst (λ (es : List Entry). AreCurrentAfter counted told v.start.callbacks (record { config = v.ledger.config; history = es }) ears) noted.whole current));
      }

  -- before the first line of a play whose machine could not be made
  pub front-first : (config : Config) (history : List Entry) (ears : Listening B) → ears ≡ silent ears.begun → HaveHeard counted told ears → HaveFront counted told config history ears
  front-first config history ears is heard = record {
    front = [];
    rest = history;
    whole = refl;
    current = subst (λ (e : Listening B). AreCurrent counted told (record { config = config; history = [] }) e) (sym is)
        (current-first counted told config ears.begun (subst (HaveHeard counted told) is heard));
  }

  -- a beginning is one of what goes on behind it, too
  pub front-on : (config : Config) (start : Start) (some all : List Entry) (ears : Listening B) → HaveFrontAfter counted told config start some ears → Begins some all → HaveFrontAfter counted told config start all ears
  front-on config start some all ears have b =
      let more = begins-then have.front some all (record { rest = have.rest; whole = have.whole }) b in
      record { front = have.front; rest = more.rest; whole = more.whole; current = have.current }

  -- behind none, it is one of a play that began with nothing
  pub front-none : (config : Config) (start : Start) (added : List Entry) (ears : Listening B) → start ≡ record { entries = []; callbacks = 0 } → HaveFrontAfter counted told config start added ears → HaveFront counted told config added ears
  front-none config start added ears is have =
      let first : HaveFrontAfter counted told config (record { entries = []; callbacks = 0 }) added ears = subst (λ (st : Start). HaveFrontAfter counted told config st added ears) is have in
      record { front = first.front; rest = first.rest; whole = first.whole; current = current-after-none (record { config = config; history = first.front }) ears first.current }

  -- before some lines that lead to where all of them do
  pub lines-front : (s : Script) (crew : plays.Crew) (first old : View) (ls left : List Line) (ears : Listening B) → play_lines s crew (playing old) left ≡ play_lines s crew (playing first) ls → old.ledger.config ≡ first.ledger.config
      → old.start ≡ first.start → IsNoted old → AreCurrentAfter counted told old.start.callbacks old.ledger ears
      → HaveFrontAfter counted told first.ledger.config first.start (play_lines s crew (playing first) ls).entries ears
  lines-front s crew first old ls left ears leads config start noted current =
      front-of old first.ledger.config first.start (play_lines s crew (playing first) ls).entries ears noted current config start
      (subst (λ (p : Playing). Begins (added_to old.start old.ledger.history) p.entries) leads (lines-begin s crew (playing old) left))

  -- within the first of some blocks that lead to where all of them do
  pub client-front : (s : Script) (names : List (List ℕ × Given)) (first old : View) (n : ℕ) (crew : plays.Crew) (left : List (List Line)) (b : List Line) (bs : List (List Line)) (ears : Listening B)
      → crew ≡ plays.crew_of (length s.clients) n → left ≡ b ∷ bs → play_clients s names n (playing old) left ≡ play_clients s names 1 (playing first) s.clients → old.ledger.config ≡ first.ledger.config → old.start ≡ first.start
      → HaveFrontAfter counted told old.ledger.config old.start (play_lines s crew (record (playing old) { names = names }) b).entries ears
      → HaveFrontAfter counted told first.ledger.config first.start (play_clients s names 1 (playing first) s.clients).entries ears
  client-front s names first old n crew left b bs ears who is leads config start have =
      let next : Playing = play_lines s (plays.crew_of (length s.clients) n) (record (playing old) { names = names }) b in
      let here : HaveFrontAfter counted told first.ledger.config first.start next.entries ears =
      subst (λ (st : Start). HaveFrontAfter counted told first.ledger.config st next.entries ears) start
      (subst (λ (c : Config). HaveFrontAfter counted told c old.start next.entries ears) config
      (subst (λ (k : plays.Crew). HaveFrontAfter counted told old.ledger.config old.start (play_lines s k (record (playing old) { names = names }) b).entries ears) who have)) in
      front-on first.ledger.config first.start next.entries (play_clients s names 1 (playing first) s.clients).entries ears here
      (subst (λ (p : Playing). Begins next.entries p.entries) (sym (ap (play_clients s names n (playing old)) is) ∙ leads) (clients-begin s names (n + 1) next bs))
